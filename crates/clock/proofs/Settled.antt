-- What ticks come to in the end: once every timer is reached, each occupied island is held and none is fresh, for good;
-- and once T5 is, a warning island that is occupied is late. Ages need no bound: from one tick on they stop at 65,535.
-- Assumes nothing.
use Prim.Native.Nat.{ℕ, ◌+◌, ◌≤◌}
use native.Mathlib.Omega.{arith}
use mathlib.Core.Path.{◌≡◌, refl, sym, ap, ap₂, ◌∙◌}
use mathlib.Core.Bool.{Bool, true, false, cond, not, ◌&&◌, ◌||◌, and-false, or-true}
use mathlib.Core.List.{List, [], ◌∷◌, map}
use borrow.Author.Tests.{le-leb}
use lib.Dec.{leb}
use lib.ListN.{length}
use Rattle.clock.proofs.Ages.{aged, later_is, reach}
use Rattle.clock.specs.Ages.{later, later_track}
use Rattle.islands.proofs.Below.{any_alike, any_map, or_both}
use Rattle.islands.proofs.Listed.{listed}
use Rattle.rules.specs.Aspect.{fresh_advance, fresh_approaching, fresh_near, held, some_fresh, some_held}
use Rattle.rules.specs.Reports.{late}
use Rattle.rules.specs.Station.{Zone, any_island, free, is_advance, is_warning, some_occupied, timer, zones}
use Rattle.rules.specs.Words.{any, any_with}
use Rattle.rules.specs.declared.Island.{Island}
use Rattle.rules.specs.declared.Settings.{Settings}
use Rattle.rules.specs.declared.Track.{Track}

-- ---- an island

reached : (n a timer : ℕ) → timer ≤ 65535 → timer ≤ n → leb timer (aged n a) ≡ true
reached n a timer h k = reach n a timer h ∙ le-leb timer (a + n) (omega arith)

module _ (c : Settings) (n : ℕ) where
  module _ (limit : (z : Zone) → timer c z ≤ 65535) (long : (z : Zone) → timer c z ≤ n) where
    held_then : (z : Zone) (i : Island) → held c z (later n i) ≡ i.occupied
    held_then z i = ap (held c z) (later_is n i) ∙ go i.occupied
      where
        go : (o : Bool) → o && leb (timer c z) (cond o (aged n i.age) i.age) ≡ o
        go true = reached n i.age (timer c z) (limit z) (long z)
        go false = refl

    none_fresh : (z : Zone) (i : Island) → fresh_approaching c z (later n i) ≡ false
    none_fresh z i = ap (fresh_approaching c z) (later_is n i) ∙ go i.occupied
      where
        go : (o : Bool)
            → o && not (leb (timer c z) (cond o (aged n i.age) i.age)) && (o && not i.leaving) ≡ false
        go true = ap (λ (b : Bool). not b && not i.leaving) (reached n i.age (timer c z) (limit z) (long z))
        go false = refl

  late_then : c.t5 ≤ 65535 → c.t5 ≤ n → (z : Zone) (i : Island)
      → is_warning z && (later n i).occupied && leb c.t5 (later n i).age ≡ is_warning z && i.occupied
  late_then limit long z i = ap (λ (j : Island). is_warning z && j.occupied && leb c.t5 j.age) (later_is n i)
      ∙ go (is_warning z) i.occupied
    where
      go : (w o : Bool) → w && o && leb c.t5 (cond o (aged n i.age) i.age) ≡ w && o
      go true true = reached n i.age c.t5 limit long
      go true false = refl
      go false o = refl

  -- whatever T5 is, only a warning island that is occupied is late
  late_only : (z : Zone) (i : Island)
      → is_warning z && (later n i).occupied && leb c.t5 (later n i).age || is_warning z && i.occupied
      ≡ is_warning z && i.occupied
  late_only z i = ap (λ (j : Island). is_warning z && j.occupied && leb c.t5 j.age || is_warning z && i.occupied)
      (later_is n i) ∙ go (is_warning z) i.occupied
    where
      go : (w o : Bool) → w && o && leb c.t5 (cond o (aged n i.age) i.age) || w && o ≡ w && o
      go true true = or-true (leb c.t5 (aged n i.age))
      go true false = refl
      go false o = refl

-- ---- a track

module _ (f : Island → Island) (p q : Zone → Island → Bool) where
  each : ((z : Zone) (i : Island) → p z (f i) ≡ q z i) → (zs : List Zone) (l : List Island)
      → any_with p zs (map f l) ≡ any_with q zs l
  each e [] l = refl
  each e (z ∷ zs) [] = refl
  each e (z ∷ zs) (i ∷ l) = ap₂ ◌||◌ (e z i) (each e zs l)

  only : ((z : Zone) (i : Island) → p z (f i) || q z i ≡ q z i) → (zs : List Zone) (l : List Island)
      → any_with p zs (map f l) || any_with q zs l ≡ any_with q zs l
  only e [] l = refl
  only e (z ∷ zs) [] = refl
  only e (z ∷ zs) (i ∷ l) = or_both (p z (f i)) _ (q z i) _ (e z i) (only e zs l)

nowhere : (zs : List Zone) (l : List Island) → any_with (λ z i. false) zs l ≡ false
nowhere [] l = refl
nowhere (z ∷ zs) [] = refl
nowhere (z ∷ zs) (i ∷ l) = nowhere zs l

-- of five islands, one that stands in a zone is one of them all
somewhere : (l : List Island) → length l ≡ 5 → any_with (λ z i. i.occupied) zones l ≡ any (λ i. i.occupied) l
somewhere l e = ap (any_with (λ z i. i.occupied) zones) (listed free l 5 e)
    ∙ sym (ap (any (λ i. i.occupied)) (listed free l 5 e))

-- an island is occupied in one of these zones
abbrev pub occupied_in : (Zone → Bool) → Track → Bool
occupied_in zone t = any_island (λ z i. zone z && i.occupied) t

-- No tick occupies or frees an island.
module _ (n : ℕ) (t : Track) where
  pub occupied_still : some_occupied (later_track n t) ≡ some_occupied t
  unfolding some_occupied later_track
  occupied_still = any_map (later n) (λ i. i.occupied) t.islands
      ∙ any_alike _ _ (λ i. ap (λ (j : Island). j.occupied) (later_is n i)) t.islands

  pub occupied_still_in : (zone : Zone → Bool) → occupied_in zone (later_track n t) ≡ occupied_in zone t
  unfolding later_track
  occupied_still_in zone =
      each (later n) (λ z i. zone z && i.occupied) _ (λ z i. ap (λ (j : Island). zone z && j.occupied) (later_is n i))
      zones t.islands

module _ (c : Settings) (n : ℕ) (t : Track) where
  module _ (limit : (z : Zone) → timer c z ≤ 65535) (long : (z : Zone) → timer c z ≤ n) where
    pub no_fresh_then : some_fresh c (later_track n t) ≡ false
    unfolding some_fresh later_track
    no_fresh_then = each (later n) (fresh_approaching c) _ (none_fresh c n limit long) zones t.islands
        ∙ nowhere zones t.islands

    pub no_near_then : fresh_near c (later_track n t) ≡ false
    unfolding fresh_near later_track
    no_near_then =
        each (later n) (λ z i. not (is_advance z) && fresh_approaching c z i) _
        (λ z i. ap (λ (b : Bool). not (is_advance z) && b) (none_fresh c n limit long z i)
        ∙ and-false (not (is_advance z))) zones t.islands
        ∙ nowhere zones t.islands

    pub no_advance_then : fresh_advance c (later_track n t) ≡ false
    unfolding fresh_advance later_track
    no_advance_then =
        each (later n) (λ z i. is_advance z && fresh_approaching c z i) _
        (λ z i. ap (λ (b : Bool). is_advance z && b) (none_fresh c n limit long z i)
        ∙ and-false (is_advance z)) zones t.islands
        ∙ nowhere zones t.islands

    pub all_held_then : length t.islands ≡ 5 → some_held c (later_track n t) ≡ some_occupied t
    unfolding some_held some_occupied later_track
    all_held_then five = each (later n) (held c) _ (held_then c n limit long) zones t.islands ∙ somewhere t.islands five

  pub late_at_last : c.t5 ≤ 65535 → c.t5 ≤ n → late c (later_track n t) ≡ occupied_in is_warning t
  unfolding late later_track
  late_at_last limit long = each (later n) (λ z i. is_warning z && i.occupied && leb c.t5 i.age) _
      (late_then c n limit long) zones t.islands

  pub late_if_occupied : late c (later_track n t) || occupied_in is_warning t ≡ occupied_in is_warning t
  unfolding late later_track
  late_if_occupied = only (later n) (λ z i. is_warning z && i.occupied && leb c.t5 i.age) _ (late_only c n) zones
      t.islands
