-- Document 01, "What the station is": a track is five islands. No report changes that.
-- Assumes nothing.
use Prim.Native.Nat.{ℕ, zero, suc}
use mathlib.Core.Path.{◌≡◌, refl, ◌∙◌}
use mathlib.Core.List.{List, [], ◌∷◌, ◌++◌, map}
use lib.ListN.{drop, get_or, length, length-map, length-set, set, take}
use Rattle.rules.specs.Reports.{all_older, older, older_track, with_island}
use Rattle.rules.specs.Station.{free_track, track_at, with_track}
use Rattle.rules.specs.declared.Island.{Island}
use Rattle.rules.specs.declared.Station.{Station}
use Rattle.rules.specs.declared.Track.{Track}

-- each track of a list has five islands
unfoldable pub Five : List Track → Type 0
Five [] = Unit
Five (t ∷ l) = (length t.islands ≡ 5) × Five l

pub five_take : (n : ℕ) (l : List Track) → Five l → Five (take n l)
unfolding Five
five_take zero l f = tt
five_take (suc n) [] f = tt
five_take (suc n) (t ∷ l) f = (f.0, five_take n l f.1)

five_drop : (n : ℕ) (l : List Track) → Five l → Five (drop n l)
unfolding Five
five_drop zero l f = f
five_drop (suc n) [] f = tt
five_drop (suc n) (t ∷ l) f = five_drop n l f.1

five_append : (l m : List Track) → Five l → Five m → Five (l ++ m)
unfolding Five
five_append [] m f g = g
five_append (t ∷ l) m f g = (f.0, five_append l m f.1 g)

five_aged : (l : List Track) → Five l → Five (map older_track l)
unfolding Five older_track
five_aged [] f = tt
five_aged (t ∷ l) f = (length-map t.islands older ∙ f.0, five_aged l f.1)

five_set : (l : List Track) (a : ℕ) (t : Track) → Five l → length t.islands ≡ 5 → Five (set l a t)
unfolding Five
five_set [] a t f e = f
five_set (u ∷ l) zero t f e = (e, f.1)
five_set (u ∷ l) (suc a) t f e = (f.0, five_set l a t f.1 e)

pub five_get : (l : List Track) (a : ℕ) → Five l → length (get_or l a free_track).islands ≡ 5
unfolding Five
five_get [] a f = refl
five_get (t ∷ l) zero f = f.0
five_get (t ∷ l) (suc a) f = five_get l a f.1

-- ---- of a station

pub five_named : (s : Station) (a k : ℕ) (i : Island) → Five s.tracks
    → Five (with_track s a (with_island (track_at s a) k i)).tracks
unfolding with_track with_island track_at
five_named s a k i f =
    five_set s.tracks a _ f (length-set (get_or s.tracks a free_track).islands k i ∙ five_get s.tracks a f)

pub five_older : (s : Station) → Five s.tracks → Five (all_older s).tracks
unfolding all_older
five_older s f =
    five_append _ _ (five_aged _ (five_take s.settings.tracks s.tracks f))
    (five_drop s.settings.tracks s.tracks f)
