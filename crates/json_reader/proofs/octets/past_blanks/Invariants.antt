use Prim.Native.Nat.{◌+◌, ◌-◌}
use mathlib.Core.Path.{◌≡◌}
use lib.ListN.{drop, length}
use Rattle.rules_json.specs.Reader.{blanks}
use Rattle.json_reader.proofs.octets.past_blanks.Given as goal

abbrev pub invariant-loop-past : goal.invariant-loop-past
invariant-loop-past l = l.past + blanks (drop l.past l.text) ≡ l.place + blanks (drop l.place l.text)

abbrev pub decreases-loop-past : goal.decreases-loop-past
decreases-loop-past l = length l.text - l.past
