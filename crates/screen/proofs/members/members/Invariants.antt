use Prim.Native.Nat.{◌-◌}
use lib.ListN.{length}
use Rattle.screen.proofs.Seeking.{Seeking}
use Rattle.screen.proofs.members.members.Given as goal

abbrev pub invariant-loop-place : goal.invariant-loop-place
invariant-loop-place l = Seeking l.text l.at l.place l.ours

abbrev pub decreases-loop-place : goal.decreases-loop-place
decreases-loop-place l = length l.text - l.place
