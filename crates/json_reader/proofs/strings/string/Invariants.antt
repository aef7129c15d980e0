use mathlib.Core.Path.{◌≡◌}
use Prim.Native.Nat.{◌-◌}
use lib.ListN.{drop, length}
use Rattle.rules_json.specs.Reader.{past, string_size}
use Rattle.json_reader.proofs.Quoted.{string_end}
use Rattle.json_reader.proofs.strings.string.Given as goal

abbrev pub invariant-loop-place : goal.invariant-loop-place
invariant-loop-place l = string_end l.text l.place ≡ past l.at (string_size (drop l.at l.text))

abbrev pub decreases-loop-place : goal.decreases-loop-place
decreases-loop-place l = length l.text - l.place
