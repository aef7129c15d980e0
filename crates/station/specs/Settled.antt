-- What a station comes to after an accepted report: the hold is set, and the aspect is that of the station then. (Not for belief: it joins two
-- definitions, since the code looks the tracks over once for both.)
use Rattle.std.specs.Prelude.{ℕ}
use Rattle.rules.specs.Answered.{aspect_number}
use Rattle.rules.specs.Aspect.{aspect_of}
use Rattle.rules.specs.Reports.{hold_set}
use Rattle.rules.specs.declared.Station.{Station}
use Rattle.station.specs.declared.Settled.{Settled}

-- the hold, and the aspect's number
pub record HoldAndAspect : Type 0 where
  pub hold : ℕ
  pub aspect : ℕ

unfoldable pub settled_of : Station → HoldAndAspect
settled_of s = record { hold = (hold_set s).hold; aspect = aspect_of (hold_set s) }

-- The same of what the code gives, where an aspect is a case of an enum.
abbrev pub settled_in : Settled → HoldAndAspect
settled_in s = record { hold = s.hold; aspect = aspect_number s.aspect }
