-- When the signs of a station's tracks turn, in ticks from now. Nothing here is believed: the clock's promise is `ticks`, and `Timed` says of a
-- timetable what it means in the words of document 01.
use Rattle.std.specs.Prelude.{ℕ, ◌<◌, max, min, ◌≡◌, Bool, ◌&&◌, List, leb, ltb}
use Rattle.clock.specs.Ages.{later_track}
use Rattle.clock.specs.declared.timing.Timetable.{Timetable}
use Rattle.clock.specs.declared.turning.Turns.{Turns}
use Rattle.rules.specs.Aspect.{present, some_fresh}
use Rattle.rules.specs.Reports.{late}
use Rattle.rules.specs.Words.{any, count}
use Rattle.rules.specs.declared.Settings.{Settings}
use Rattle.rules.specs.declared.Track.{Track}

-- n ticks later some track has a fresh approaching island exactly when n is below the first number; at least one track counts for the greatest risk
-- from the second number on, at least two from the third; and the fault latches from the fourth on.
pub record Timed (c : Settings) (l : List Track) (r : Timetable) : Type 0 where
  pub fresh : (n : ℕ) → any (λ t. some_fresh c (later_track n t)) l ≡ ltb n r.fresh
  pub first : (n : ℕ) → n < 65536 → leb 1 (count (λ t. present c (later_track n t)) l) ≡ leb r.first n
  pub second : (n : ℕ) → n < 65536 → leb 2 (count (λ t. present c (later_track n t)) l) ≡ leb r.second n
  pub late : (n : ℕ) → n < 65536 → any (λ t. late c (later_track n t)) l ≡ leb r.late n

-- a timetable with one more track in it
abbrev pub with_turns : Timetable → Turns → Timetable
with_turns r u =
    record {
      fresh = max r.fresh u.fresh;
      first = min r.first u.present;
      second = min r.second (max r.first u.present);
      late = min r.late u.late;
    }

-- the greatest-risk condition n ticks later
abbrev pub risk_at : Timetable → ℕ → Bool
risk_at r n = ltb n r.fresh && leb r.second n
