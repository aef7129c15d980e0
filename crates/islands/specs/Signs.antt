-- What document 01, "From islands to aspect", asks of one track, side by side. (Not for belief: each is a definition of `rules`.)
use Rattle.std.specs.Prelude.{ℕ, Bool, not, ◌&&◌, ◌||◌, leb}
use Rattle.islands.specs.declared.Signs.{Signs}
use Rattle.islands.specs.declared.shown.Seen.{Seen}
use Rattle.rules.specs.Aspect.{fresh_advance, fresh_near, present, some_fresh, some_held}
use Rattle.rules.specs.Station.{approaching, going_away}
use Rattle.rules.specs.declared.Island.{Island}
use Rattle.rules.specs.declared.Settings.{Settings}
use Rattle.rules.specs.declared.Track.{Track}

unfoldable pub signs_of : Settings → Track → Signs
signs_of c t =
    record {
      fresh = some_fresh c t;
      present = present c t;
      near = fresh_near c t;
      ahead = fresh_advance c t;
      held = some_held c t;
    }

-- one island's part in them, by its timer and by whether it is a warning island
abbrev pub seen_of : ℕ → Bool → Island → Seen
seen_of timer warning i =
    record {
      fresh = i.occupied && not (leb timer i.age) && approaching i;
      held = i.occupied && leb timer i.age;
      present = approaching i || i.occupied && leb timer i.age || warning && going_away i;
    }

-- two parts of them together
abbrev pub seen_together : Seen → Seen → Seen
seen_together a b =
    record { fresh = a.fresh || b.fresh; held = a.held || b.held; present = a.present || b.present }
