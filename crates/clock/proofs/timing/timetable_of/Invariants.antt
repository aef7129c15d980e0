use lib.ListN.{take}
use Rattle.clock.specs.Timetable.{Timed}
use Rattle.clock.proofs.timing.timetable_of.Given as goal

abbrev pub invariant-loop-track : goal.invariant-loop-track
invariant-loop-track l = Timed l.settings (take l.track-index l.tracks) l.table
