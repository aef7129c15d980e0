use Prim.Native.Nat.{◌≤◌}
use mathlib.Core.Path.{◌≡◌}
use lib.ListN.{take}
use Rattle.station.specs.Survey.{survey_of}
use Rattle.station.proofs.surveying.look_over.Given as goal

abbrev pub invariant-loop-track : goal.invariant-loop-track
invariant-loop-track l =
    record {
      of_first : l.seen ≡ survey_of l.station.settings (take l.track-index l.tracks);
      at_most : l.seen.present ≤ l.track-index;
    }
