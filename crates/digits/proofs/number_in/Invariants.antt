use Prim.Native.Nat.{◌<◌}
use mathlib.Core.Path.{◌≡◌}
use lib.ListN.{drop}
use Rattle.rules.specs.Screen.{our_number}
use Rattle.digits.proofs.Counted.{counted}
use Rattle.digits.proofs.number_in.Given as goal

abbrev pub invariant-loop-found : goal.invariant-loop-found
invariant-loop-found l =
    (l.number < 65536) × (our_number 65535 l.text ≡ counted l.number (drop l.found-index l.text))
