-- Document 01, "From islands to aspect".
use Rattle.std.specs.Prelude.{ℕ, Bool, true, cond, not, ◌&&◌, ◌||◌, List, [], ◌∷◌, map, leb, ltb, replicate}
use Rattle.rules.specs.Station.{Zone, any_island, approaching, going_away, is_advance}
use Rattle.rules.specs.Station.{is_warning, live, timer, track_at, within_limits}
use Rattle.rules.specs.Words.{any, count, ◌if◌then◌}
use Rattle.rules.specs.declared.Island.{Island}
use Rattle.rules.specs.declared.Settings.{Settings}
use Rattle.rules.specs.declared.Station.{Station}
use Rattle.rules.specs.declared.Track.{Track}

-- ---- held and fresh

-- An occupied island is held when its age is at least its timer T1, T2 or T3 (house; the
-- matrices say greater). Otherwise it is fresh.
abbrev pub held : Settings → Zone → Island → Bool
held c z i = i.occupied && leb (timer c z) i.age

abbrev pub fresh : Settings → Zone → Island → Bool
fresh c z i = i.occupied && not (leb (timer c z) i.age)

abbrev pub fresh_approaching : Settings → Zone → Island → Bool
fresh_approaching c z i = fresh c z i && approaching i

-- ---- the greatest-risk condition

-- a fresh approaching island of the track
unfoldable pub some_fresh : Settings → Track → Bool
some_fresh c t = any_island (λ z i. fresh_approaching c z i) t

-- an island of the track that is approaching, held, or a leaving warning island
unfoldable pub present : Settings → Track → Bool
present c t = any_island (λ z i. approaching i || held c z i || is_warning z && going_away i) t

-- The greatest-risk condition: some track has a fresh approaching island, and at least two tracks have an
-- island that is approaching, held, or a leaving warning island. Two trains on one track never count as two
-- (house): it is the track that is counted.
unfoldable pub greatest_risk : Station → Bool
greatest_risk s = any (some_fresh s.settings) (live s) && leb 2 (count (present s.settings) (live s))

-- ---- the aspect

-- a fresh approaching warning or crossing island
unfoldable pub fresh_near : Settings → Track → Bool
fresh_near c t = any_island (λ z i. not (is_advance z) && fresh_approaching c z i) t

-- a fresh approaching advance island
unfoldable pub fresh_advance : Settings → Track → Bool
fresh_advance c t = any_island (λ z i. is_advance z && fresh_approaching c z i) t

-- any held island
unfoldable pub some_held : Settings → Track → Bool
some_held c t = any_island (λ z i. held c z i) t

-- The first line that holds gives the aspect.
unfoldable pub aspect_of : Station → ℕ
aspect_of s =
    -- (of a station refused with 8 the aspect is 5)
    5 if not (within_limits s.settings) then
    -- 1. fault latched: 5, out of service
    5 if s.fault then
    -- 2. condition true, or hold above 0: 3, greatest risk
    3 if greatest_risk s || ltb 0 s.hold then
    -- 3. a fresh approaching warning or crossing island: 2, forbidden
    2 if any (fresh_near s.settings) (live s) then
    -- 4. a fresh approaching advance island: 1, clearing
    1 if any (fresh_advance s.settings) (live s) then
    -- 5. any held island: 4, trains in the surroundings
    4 if any (some_held s.settings) (live s) then
    -- 6. otherwise: 0, permitted
    0

-- ---- presence (house)

-- A track's presence is what the greatest-risk condition counts; a track beyond the number has none. (Of a station
-- refused with 8 every track is shown as present.)
unfoldable pub presence_of : Station → List Bool
presence_of s =
    cond (within_limits s.settings)
    (map (λ a. ltb a s.settings.tracks && present s.settings (track_at s a)) (0 ∷ 1 ∷ 2 ∷ 3 ∷ []))
    (replicate 4 true)
