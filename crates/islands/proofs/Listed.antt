-- A list of a known length is its elements, one after the other: one law for tracks of five islands,
-- stations of four tracks and pairs of heads.
-- Assumes nothing.
use Prim.Native.Nat.{ℕ, zero, suc, ◌<◌}
use native.Mathlib.Nat.{not-suc-le-zero, le_of_suc-le-suc}
use mathlib.Core.Path.{◌≡◌, refl, sym, ap, ◌∙◌}
use mathlib.Core.List.{List, [], ◌∷◌, map}
use lib.ListN.{length, get_or, length-map}

module _ {A : Type 0} where
  -- f 0, f 1, .. up to n of them
  abbrev pub tabulate : ℕ → (ℕ → A) → List A
  tabulate zero f = []
  tabulate (suc n) f = f 0 ∷ tabulate n (λ k. f (suc k))

  listed_all : (d : A) (l : List A) → l ≡ tabulate (length l) (λ k. get_or l k d)
  listed_all d [] = refl
  listed_all d (x ∷ xs) = ap (λ (ys : List A). x ∷ ys) (listed_all d xs)

  pub listed : (d : A) (l : List A) (n : ℕ) → length l ≡ n → l ≡ tabulate n (λ k. get_or l k d)
  listed d l n e = listed_all d l ∙ ap (λ (m : ℕ). tabulate m (λ k. get_or l k d)) e

-- An array's relation speaks of the mapped list: its length is the list's.
pub counted : {A B : Type 0} (f : A → B) (l : List A) (n : ℕ) → length (map f l) ≡ n → length l ≡ n
counted f l n e = sym (length-map l f) ∙ e

-- What stands within a list does not depend on what would be taken past its end.
pub get_or_same : {A : Type 0} (l : List A) (k : ℕ) (d e : A) → k < length l → get_or l k d ≡ get_or l k e
get_or_same [] k d e h = absurd (not-suc-le-zero h)
get_or_same (x ∷ xs) zero d e h = refl
get_or_same (x ∷ xs) (suc k) d e h = get_or_same xs k d e (le_of_suc-le-suc h)
