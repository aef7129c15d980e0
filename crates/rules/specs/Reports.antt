-- Document 01, "Reports": marks, the clock, and what an accepted report does.
use Rattle.std.specs.Prelude.{ℕ, zero, suc, ◌+◌, ◌-◌, min, Bool, true, false, cond, not, ◌&&◌, ◌||◌, ◌++◌, map, eqb, leb, ltb, get_or, set}
use Rattle.rules.specs.Aspect.{greatest_risk}
use Rattle.rules.specs.Kinds.{Kind, clock, detector_failed, detector_restored, head_condition}
use Rattle.rules.specs.Kinds.{island_free, island_occupied, no_kind, normalise}
use Rattle.rules.specs.Station.{Zone, advance, any_island, approaching, beyond, crossing, going_away}
use Rattle.rules.specs.Station.{is_warning, island_at, live, track_at, warning, with_condition, with_fault}
use Rattle.rules.specs.Station.{with_hold, with_track, with_tracks, zones}
use Rattle.rules.specs.Words.{any}
use Rattle.rules.specs.declared.Island.{Island}
use Rattle.rules.specs.declared.Report.{Report}
use Rattle.rules.specs.declared.Settings.{Settings}
use Rattle.rules.specs.declared.Station.{Station}
use Rattle.rules.specs.declared.Track.{Track}

-- ---- an island is occupied, freed, or its detector fails or is restored

-- the advance island on the side of a warning island, and the warning island on the side of an advance island
abbrev pub advance_beside : ℕ → ℕ
advance_beside k = cond (eqb k 1) 0 4

abbrev pub warning_beside : ℕ → ℕ
warning_beside k = cond (eqb k 0) 1 3

-- The crossing is always approaching. A warning island is leaving exactly when the crossing of that track is
-- occupied and the advance island of the same side is not both occupied and approaching. An advance island is
-- leaving exactly when the warning island of the same side is occupied and leaving. Otherwise approaching. (House;
-- it gives the matrices N1, N2.1, N2.2, N10.2.)
abbrev pub leaving_in : Track → ℕ → Zone → Bool
leaving_in t k crossing = false
leaving_in t k warning = (island_at t 2).occupied && not (approaching (island_at t (advance_beside k)))
leaving_in t k advance = going_away (island_at t (warning_beside k))

unfoldable pub leaving_mark : Track → ℕ → Bool
leaving_mark t k = leaving_in t k (get_or zones k crossing)

-- Occupied: age becomes 0 and the mark is set.
unfoldable pub occupied_now : Track → ℕ → Island
occupied_now t k = record { occupied = true; leaving = leaving_mark t k; failed = (island_at t k).failed; age = 0 }

-- Free: no mark, and age 0 (house).
unfoldable pub free_now : Track → ℕ → Island
free_now t k = record { occupied = false; leaving = false; failed = (island_at t k).failed; age = 0 }

-- an island with its detector failed, or restored
unfoldable pub detector_now : Bool → Track → ℕ → Island
detector_now failed t k =
    let i = island_at t k in
    record { occupied = i.occupied; leaving = i.leaving; failed = failed; age = i.age }

-- the track with another island at a place
unfoldable pub with_island : Track → ℕ → Island → Track
with_island t k i = record { islands = set t.islands k i }

-- ---- the clock

-- Every occupied island's age grows by one, stopping at 65535.
unfoldable pub older : Island → Island
older i =
    record {
      occupied = i.occupied;
      leaving = i.leaving;
      failed = i.failed;
      age = cond i.occupied (min 65535 (i.age + 1)) i.age;
    }

unfoldable pub older_track : Track → Track
older_track t = record { islands = map older t.islands }

-- The fault latches if an occupied warning island's age is T5 or more.
unfoldable pub late : Settings → Track → Bool
late c t = any_island (λ z i. is_warning z && i.occupied && leb c.t5 i.age) t

-- In a single tick: if the greatest-risk condition is false and the hold is above 0, the hold falls by one;
unfoldable pub hold_lowered : Station → Station
hold_lowered s = with_hold s (cond (not (greatest_risk s) && ltb 0 s.hold) (s.hold - 1) s.hold)

-- then every occupied island's age grows by one, stopping at 65535;
unfoldable pub all_older : Station → Station
all_older s = with_tracks s (map older_track (live s) ++ beyond s)

-- then the fault latches if an occupied warning island's age is T5 or more.
unfoldable pub fault_latched : Station → Station
fault_latched s = with_fault s (s.fault || any (late s.settings) (live s))

-- After each single tick, and after every other accepted report, the hold is set to T4 if the greatest-risk condition
-- is then true. (T4 as a hold is house; T4 = 0 gives the five matrices.)
unfoldable pub hold_set : Station → Station
hold_set s = with_hold s (cond (greatest_risk s) s.settings.t4 s.hold)

unfoldable pub tick : Station → Station
tick s = hold_set (fault_latched (all_older (hold_lowered s)))

-- Clock with n ticks means n single ticks.
unfoldable pub ticks : ℕ → Station → Station
ticks zero s = s
ticks (suc n) s = tick (ticks n s)

-- ---- what an accepted report does

-- the track and the island that a report names
abbrev pub named_track : Station → Report → Track
named_track s r = track_at s r.a

abbrev pub named_island : Station → Report → Island
named_island s r = island_at (named_track s r) r.b

-- the station with another island there
abbrev pub with_named : Station → Report → Island → Station
with_named s r i = with_track s r.a (with_island (named_track s r) r.b i)

-- What an accepted report does. Occupied: age becomes 0 and the mark is set once, at that moment. Clock with n ticks
-- means n single ticks. A failed detector latches the fault. Restoring does not unlatch it. Normalise unlatches and
-- sets the hold to 0. After every accepted report but the clock, whose ticks do it one by one, the hold is set to T4 if
-- the greatest-risk condition is then true.
unfoldable pub acted : Kind → Station → Report → Station
acted island_occupied s r = hold_set (with_named s r (occupied_now (named_track s r) r.b))
acted island_free s r = hold_set (with_named s r (free_now (named_track s r) r.b))
acted clock s r = ticks r.value s
acted detector_failed s r = hold_set (with_fault (with_named s r (detector_now true (named_track s r) r.b)) true)
acted detector_restored s r = hold_set (with_named s r (detector_now false (named_track s r) r.b))
acted head_condition s r = hold_set (with_condition s r.a r.value)
acted normalise s r = hold_set (with_hold (with_fault s false) 0)
acted no_kind s r = s
