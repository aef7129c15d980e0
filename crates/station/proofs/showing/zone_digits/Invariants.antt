use lib.ListN.{take}
use mathlib.Core.Path.{◌≡◌}
use Rattle.rules.specs.Station.{live}
use Rattle.station.proofs.EachZone.{zone_digits}
use Rattle.station.proofs.showing.zone_digits.Given as goal

abbrev pub invariant-loop-track : goal.invariant-loop-track
invariant-loop-track l = l.digits ≡ zone_digits (take l.track-index (live l.station))
