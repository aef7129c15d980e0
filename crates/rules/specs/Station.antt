-- Document 01, "What the station is": islands, tracks, settings, the station and how it is made.
use Rattle.std.specs.Prelude.{ℕ, Bool, true, false, cond, not, ◌&&◌, ◌||◌, List, [], ◌∷◌, eqb, ltb, drop, get_or, replicate, set, take}
use Rattle.rules.specs.Numbers.{done, outside_limits}
use Rattle.rules.specs.Words.{any, any_with, within, ◌if◌then◌}
use Rattle.rules.specs.declared.Island.{Island}
use Rattle.rules.specs.declared.Made.{Made}
use Rattle.rules.specs.declared.Settings.{Settings}
use Rattle.rules.specs.declared.Station.{Station}
use Rattle.rules.specs.declared.Track.{Track}

-- ---- islands and tracks

-- Islands are numbered 0 to 4: advance side 1, warning side 1, crossing, warning side 2, advance side 2.
pub data Zone : Type 0 where
  advance warning crossing : Zone

abbrev pub zones : List Zone
zones = advance ∷ warning ∷ crossing ∷ warning ∷ advance ∷ []

abbrev pub is_warning : Zone → Bool
is_warning advance = false
is_warning warning = true
is_warning crossing = false

abbrev pub is_advance : Zone → Bool
is_advance advance = true
is_advance warning = false
is_advance crossing = false

-- An island is free, or occupied with a mark (approaching or leaving) and an age in clock ticks. A free
-- island has no mark and age 0 (house).
abbrev pub approaching : Island → Bool
approaching i = i.occupied && not i.leaving

abbrev pub going_away : Island → Bool
going_away i = i.occupied && i.leaving

abbrev pub free : Island
free = record { occupied = false; leaving = false; failed = false; age = 0 }

-- A track is five islands.
abbrev pub free_track : Track
free_track = record { islands = replicate 5 free }

-- (house: past the last one a free island is read, and a free track)
abbrev pub island_at : Track → ℕ → Island
island_at t k = get_or t.islands k free

-- some island of the track, in its zone, passes the test
abbrev pub any_island : (Zone → Island → Bool) → Track → Bool
any_island p t = any_with p zones t.islands

unfoldable pub some_occupied : Track → Bool
some_occupied t = any (λ i. i.occupied) t.islands

unfoldable pub some_failed : Track → Bool
some_failed t = any (λ i. i.failed) t.islands

-- ---- settings

-- Settings: the number of tracks (1 to 4: four is a house limit); T1, T2, T3 from 1 to 65535; T4 from 0 to 65535;
-- T5 from 1 to 65535 and greater than T2.
unfoldable pub within_limits : Settings → Bool
within_limits c =
    within 1 4 c.tracks
    && within 1 65535 c.t1
    && within 1 65535 c.t2
    && within 1 65535 c.t3
    && within 0 65535 c.t4
    && within 1 65535 c.t5
    && ltb c.t2 c.t5

-- T1 belongs to the advance islands, T2 to warning, T3 to the crossing.
abbrev pub timer : Settings → Zone → ℕ
timer c advance = c.t1
timer c warning = c.t2
timer c crossing = c.t3

-- ---- the station

-- A fresh station has every island free, no detector failed, both head conditions 0, no hold
-- left, and its fault latched.
unfoldable pub fresh_station : Settings → Station
fresh_station c =
    record { settings = c; tracks = replicate 4 free_track; hold = 0; fault = true; conditions = 0 ∷ 0 ∷ [] }

-- Tracks are numbered from 0. Tracks beyond the station's number are neither read nor changed.
abbrev pub live : Station → List Track
live s = take s.settings.tracks s.tracks

abbrev pub beyond : Station → List Track
beyond s = drop s.settings.tracks s.tracks

unfoldable pub track_at : Station → ℕ → Track
track_at s a = get_or s.tracks a free_track

-- an island occupied or a detector failed
unfoldable pub obstructed : Station → Bool
obstructed s = any some_occupied (live s) || any some_failed (live s)

-- the station with one of its parts another
abbrev pub with_tracks : Station → List Track → Station
with_tracks s l =
    record { settings = s.settings; tracks = l; hold = s.hold; fault = s.fault; conditions = s.conditions }

abbrev pub with_hold : Station → ℕ → Station
with_hold s n =
    record { settings = s.settings; tracks = s.tracks; hold = n; fault = s.fault; conditions = s.conditions }

abbrev pub with_fault : Station → Bool → Station
with_fault s b =
    record { settings = s.settings; tracks = s.tracks; hold = s.hold; fault = b; conditions = s.conditions }

abbrev pub with_conditions : Station → List ℕ → Station
with_conditions s l =
    record { settings = s.settings; tracks = s.tracks; hold = s.hold; fault = s.fault; conditions = l }

unfoldable pub with_track : Station → ℕ → Track → Station
with_track s a t = with_tracks s (set s.tracks a t)

unfoldable pub with_condition : Station → ℕ → ℕ → Station
with_condition s h n = with_conditions s (set s.conditions h n)

-- ---- making a station

-- A refused making of a station returns a fresh station of 1 track with T1 to T4 equal to 1 and T5 to 2.
abbrev pub least_settings : Settings
least_settings = record { tracks = 1; t1 = 1; t2 = 1; t3 = 1; t4 = 1; t5 = 2 }

-- 8: setting outside its limits
unfoldable pub settings_answer : Settings → ℕ
settings_answer c = outside_limits if not (within_limits c) then done

unfoldable pub made : Settings → Made
made c =
    record { answer = settings_answer c; station = fresh_station (cond (eqb (settings_answer c) done) c least_settings) }
