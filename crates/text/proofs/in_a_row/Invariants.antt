-- The room is what the texts so far leave; then the texts so far stand at the start of the buffer.
use Rattle.std.proofs.Common.{◌≡◌, ◌+◌, ◌≤◌, length, take}
use Rattle.std.specs.List.{flat_map}
use Rattle.text.proofs.Placing.{Begun}
use Rattle.text.proofs.in_a_row.Given as goal

abbrev pub invariant-loop-text : goal.invariant-loop-text
invariant-loop-text l = l.room + length (flat_map (λ t. t.now) (take l.text-index l.texts)) ≡ length l.out

abbrev pub invariant-loop-text-2 : goal.invariant-loop-text-2
invariant-loop-text-2 l = (length (flat_map (λ t. t.now) l.texts) ≤ length l.initial.out)
    × Begun (flat_map (λ t. t.now) (take l.text-index l.texts)) l.initial.out l.at l.out
