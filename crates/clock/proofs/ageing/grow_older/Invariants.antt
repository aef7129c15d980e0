use mathlib.Core.Path.{◌≡◌}
use Rattle.clock.specs.Ages.{later_track}
use Rattle.islands.proofs.Below.{changed}
use Rattle.clock.proofs.ageing.grow_older.Given as goal

abbrev pub invariant-loop-track : goal.invariant-loop-track
invariant-loop-track l = l.tracks ≡ changed (later_track l.n) l.track-index l.initial.tracks
