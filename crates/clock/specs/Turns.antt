-- When a track's signs turn. Between reports only ages change, so each sign turns at most once, at a tick that can be told beforehand. Nothing here
-- is believed: `Turning`, which is proved, says what the turns mean in the words of document 01.
use Rattle.std.specs.Prelude.{ℕ, ◌-◌, ◌<◌, min, max, ◌≡◌, Bool, cond, ◌&&◌, ◌||◌, List, [], ◌∷◌, leb, ltb}
use Rattle.clock.specs.Ages.{later_track}
use Rattle.clock.specs.declared.turning.Turns.{Turns}
use Rattle.rules.specs.Aspect.{present, some_fresh}
use Rattle.rules.specs.Reports.{late}
use Rattle.rules.specs.Station.{Zone, approaching, going_away, is_warning, timer, zones}
use Rattle.rules.specs.declared.Island.{Island}
use Rattle.rules.specs.declared.Settings.{Settings}
use Rattle.rules.specs.declared.Track.{Track}

-- n ticks later the track has a fresh approaching island exactly when n is below the first number, counts for the greatest risk from the second on,
-- and latches the fault from the third on. A clock report has fewer than 65536 ticks.
pub record Turning (c : Settings) (t : Track) (r : Turns) : Type 0 where
  pub fresh : (n : ℕ) → some_fresh c (later_track n t) ≡ ltb n r.fresh
  pub present : (n : ℕ) → n < 65536 → present c (later_track n t) ≡ leb r.present n
  pub late : (n : ℕ) → n < 65536 → late c (later_track n t) ≡ leb r.late n

-- later than any clock report reaches
abbrev pub never : ℕ
never = 65536

-- one island's turns, by its timer, by T5, and by whether it is a warning island
abbrev pub turns_in : ℕ → ℕ → Bool → Island → Turns
turns_in timer t5 warning i =
    record {
      fresh = cond (approaching i) (timer - i.age) 0;
      present = cond (approaching i || warning && going_away i) 0 (cond i.occupied (timer - i.age) never);
      late = cond (warning && i.occupied) (t5 - i.age) never;
    }

-- the turns of two together, and of no island
abbrev pub together : Turns → Turns → Turns
together a b = record { fresh = max a.fresh b.fresh; present = min a.present b.present; late = min a.late b.late }

abbrev pub no_turns : Turns
no_turns = record { fresh = 0; present = never; late = never }

abbrev pub all_turns : Settings → List Zone → List Island → Turns
all_turns c [] l = no_turns
all_turns c (z ∷ zs) [] = no_turns
all_turns c (z ∷ zs) (i ∷ l) = together (turns_in (timer c z) c.t5 (is_warning z) i) (all_turns c zs l)

unfoldable pub turns_of : Settings → Track → Turns
turns_of c t = all_turns c zones t.islands
