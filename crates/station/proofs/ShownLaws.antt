-- What is shown of a station.
-- Assumes nothing.
use Prim.Native.Nat.{ℕ, zero, suc}
use mathlib.Core.Path.{◌≡◌, refl}
use mathlib.Core.Bool.{Bool, true, false, cond}
use mathlib.Core.List.{[], ◌∷◌, map}
use lib.ListN.{length, replicate}
use Rattle.rules.specs.Printer.{zone_occupied, zones_of}
use Rattle.rules.specs.Station.{free, free_track, island_at, within_limits}
use Rattle.rules.specs.declared.Station.{Station}

-- every island of a free track is free
pub free_there : (k : ℕ) → island_at free_track k ≡ free
free_there zero = refl
free_there (suc zero) = refl
free_there (suc (suc zero)) = refl
free_there (suc (suc (suc zero))) = refl
free_there (suc (suc (suc (suc zero)))) = refl
free_there (suc (suc (suc (suc (suc k))))) = refl

-- there are five zone digits
pub zones_five : (s : Station) → length (zones_of s) ≡ 5
unfolding zones_of
zones_five s = go (within_limits s.settings)
  where
    go : (t : Bool)
        → length {A = ℕ} (cond t (map (λ k. cond (zone_occupied s k) 0 1) (0 ∷ 1 ∷ 2 ∷ 3 ∷ 4 ∷ [])) (replicate 5 0)) ≡ 5
    go true = refl
    go false = refl
