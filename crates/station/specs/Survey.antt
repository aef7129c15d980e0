-- What document 01, "From islands to aspect", asks of a station's tracks, side by side. (Not for belief: each is a definition of `rules`.)
use Rattle.std.specs.Prelude.{◌+◌, Bool, cond, ◌&&◌, ◌||◌, List, leb}
use Rattle.islands.specs.declared.Signs.{Signs}
use Rattle.rules.specs.Aspect.{fresh_advance, fresh_near, present, some_fresh, some_held}
use Rattle.rules.specs.Words.{any, count}
use Rattle.rules.specs.declared.Settings.{Settings}
use Rattle.rules.specs.declared.Track.{Track}
use Rattle.station.specs.declared.surveying.Survey.{Survey}

unfoldable pub survey_of : Settings → List Track → Survey
survey_of c l =
    record {
      fresh = any (some_fresh c) l;
      present = count (present c) l;
      near = any (fresh_near c) l;
      ahead = any (fresh_advance c) l;
      held = any (some_held c) l;
    }

-- the greatest-risk condition, from what was seen of the tracks
abbrev pub risky : Survey → Bool
risky v = v.fresh && leb 2 v.present

-- what was seen of some tracks, with one track more
abbrev pub with_signs : Survey → Signs → Survey
with_signs v g =
    record {
      fresh = v.fresh || g.fresh;
      present = v.present + cond g.present 1 0;
      near = v.near || g.near;
      ahead = v.ahead || g.ahead;
      held = v.held || g.held;
    }
