-- A track with no island occupied: ticks leave it as it is, and it shows no sign.
-- Assumes nothing.
use Prim.Native.Nat.{ℕ}
use mathlib.Core.Path.{◌≡◌, refl, sym, ap, ap₂}
use mathlib.Core.Bool.{Bool, true, false, ◌&&◌, ◌||◌, and-false, false≢true}
use lib.Dec.{leb}
use mathlib.Core.List.{List, [], ◌∷◌, map}
use Rattle.clock.proofs.Ages.{later_free}
use Rattle.clock.specs.Ages.{later, later_track}
use Rattle.rules.specs.Aspect.{fresh_approaching, held, present, some_fresh}
use Rattle.rules.specs.Reports.{late}
use Rattle.rules.specs.Station.{Zone, approaching, going_away, is_warning, some_occupied, zones}
use Rattle.rules.specs.Words.{any, any_with}
use Rattle.rules.specs.declared.Island.{Island}
use Rattle.rules.specs.declared.Settings.{Settings}
use Rattle.rules.specs.declared.Track.{Track}

neither : (a b : Bool) → a || b ≡ false → (a ≡ false) × (b ≡ false)
neither true b e = absurd (false≢true (sym e))
neither false b e = (refl, e)

abbrev occupied_in : List Island → Bool
occupied_in l = any (λ i. i.occupied) l

-- A test that only an occupied island passes is passed by none.
none : (p : Zone → Island → Bool) → ((z : Zone) (i : Island) → i.occupied ≡ false → p z i ≡ false)
    → (zs : List Zone) (l : List Island) → occupied_in l ≡ false → any_with p zs l ≡ false
none p o [] l e = refl
none p o (z ∷ zs) [] e = refl
none p o (z ∷ zs) (i ∷ l) e = let each = neither i.occupied (occupied_in l) e in
    ap₂ ◌||◌ (o z i each.0) (none p o zs l each.1)

same : (n : ℕ) (l : List Island) → occupied_in l ≡ false → map (later n) l ≡ l
same n [] e = refl
same n (i ∷ l) e = let each = neither i.occupied (occupied_in l) e in
    ap₂ ◌∷◌ (sym (later_free n i each.0)) (same n l each.1)

module _ (t : Track) (e : some_occupied t ≡ false) where
  pub no_later : (n : ℕ) → later_track n t ≡ t
  unfolding later_track some_occupied
  no_later n = ap (λ (l : List Island). record { islands = l }) (same n t.islands e)

  pub no_fresh : (c : Settings) → some_fresh c t ≡ false
  unfolding some_fresh some_occupied
  no_fresh c = none (fresh_approaching c) (λ z i n. simp n) zones t.islands e

  pub no_present : (c : Settings) → present c t ≡ false
  unfolding present some_occupied
  no_present c = none (λ z i. approaching i || held c z i || is_warning z && going_away i)
      (λ z i n. simp (n, and-false)) zones t.islands e

  pub no_late : (c : Settings) → late c t ≡ false
  unfolding late some_occupied
  no_late c = none (λ z i. is_warning z && i.occupied && leb c.t5 i.age) (λ z i n. simp (n, and-false)) zones
      t.islands e
