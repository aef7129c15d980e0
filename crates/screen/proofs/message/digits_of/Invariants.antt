-- the digits of the tracks so far, and zeros
use mathlib.Core.Path.{◌≡◌}
use mathlib.Core.List.{map}
use lib.ListN.{take}
use Rattle.rules.specs.Screen.{padded, track_digits}
use Rattle.rules_json.specs.Grammar.{joined}
use Rattle.screen.proofs.message.digits_of.Given as goal

abbrev pub invariant-loop-n : goal.invariant-loop-n
invariant-loop-n l = l.digits ≡ padded (joined (map track_digits (take l.n l.live)))
