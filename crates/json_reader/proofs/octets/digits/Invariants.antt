use Prim.Native.Nat.{◌+◌}
use mathlib.Core.Path.{◌≡◌}
use lib.ListN.{drop}
use Rattle.rules_json.specs.Reader.{digits}
use Rattle.json_reader.proofs.octets.digits.Given as goal

abbrev pub invariant-loop-end : goal.invariant-loop-end
invariant-loop-end l = l.end + digits (drop l.end l.text) ≡ l.place + digits (drop l.place l.text)
