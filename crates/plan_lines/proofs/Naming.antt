-- The number of a word among names: of a table searched from its start on, and of the place that it has among them.
-- Assumes nothing.
use Prim.Native.Nat.{ℕ, suc, ◌+◌, ◌≤◌, ◌<◌}
use native.Mathlib.Nat.{add-suc, add-zero, suc-add, zero-add}
use native.Mathlib.Numerals.{add-one}
use native.Mathlib.Omega.{arith}
use mathlib.Core.Bool.{Bool, and-eq-true_iff, cond, false, true, true≢false, ◌&&◌}
use mathlib.Core.List.{List, [], ◌∷◌, map}
use mathlib.Core.Path.{◌≡◌, ap, ap₂, refl, sym, ◌∙◌}
use borrow.Author.Tests.{eq-eqb, eqb-true}
use lib.Dec.{eqb}
use lib.ListN.{drop, drop_of_length-le, get_or, length}
use lib.Seq.{drop-cons}
use Rattle.std.proofs.Common.{◌↔◌, Bor, IsTrue}
use Rattle.std.proofs.lemmas.Bool.Decides.{nat_tests}
use Rattle.std.specs.Char.{to_ascii_lowercase}
use Rattle.plan_lines.specs.Names.{in_lower, number_among}
use Rattle.rules.specs.Screen.{same}
use Rattle.rules_plan.specs.Answered.{word_number}
use Rattle.rules_plan.specs.Words.{lower, name_of, names, place_among}
use Rattle.rules_plan.specs.declared.Word.{Word}

-- ---- a test of two words

same_true : (l k : List ℕ) → same l k ≡ true → l ≡ k
same_true [] [] e = refl
same_true [] (y ∷ k) e = absurd (true≢false (sym e))
same_true (x ∷ l) [] e = absurd (true≢false (sym e))
same_true (x ∷ l) (y ∷ k) e =
    let (here, behind) = (and-eq-true_iff (eqb x y) (same l k)).0 e in
    ap₂ ◌∷◌ (eqb-true x y here) (same_true l k behind)

same_self : (l : List ℕ) → same l l ≡ true
same_self [] = refl
same_self (x ∷ l) = ap₂ ◌&&◌ (eq-eqb x x refl) (same_self l)

same_is : (r : Bool) (l k : List ℕ) → IsTrue r ↔ (l ≡ k) → r ≡ same l k
same_is true l k h = sym (ap (same l) (sym (h.0 refl)) ∙ same_self l)
same_is false l k h = by_test (same l k) (same_true l k)
  where
    by_test : (t : Bool) → (t ≡ true → l ≡ k) → false ≡ t
    by_test true f = h.1 (f refl)
    by_test false f = refl

-- ---- a table searched from its start on

module _ (table : List (Bor (List ℕ) × Word)) (word : List ℕ) (place : ℕ) where
  -- what is left gives what the whole gives
  abbrev pub Searched : Type 0
  Searched = number_among (drop place table) word ≡ number_among table word

  module _ (searched : Searched) where
    pub not_found : length table ≤ place → 14 ≡ number_among table word
    unfolding number_among
    not_found h = sym (ap (λ l. number_among l word) (drop_of_length-le table h)) ∙ searched

    module _ (within : place < length table) (d : Bor (List ℕ) × Word) (r : Bool)
        (test : IsTrue r ↔ (in_lower word ≡ in_lower (get_or table place d).0.now)) where
      by_first : {t : Bool} → r ≡ t
          → cond t (word_number (get_or table place d).1) (number_among (drop (suc place) table) word)
          ≡ number_among table word
      unfolding number_among
      by_first e =
          ap (λ t. cond t (word_number (get_or table place d).1) (number_among (drop (suc place) table) word))
          (sym e ∙ same_is r _ _ test)
          ∙ sym (ap (λ l. number_among l word) (drop-cons table place d within))
          ∙ searched

      pub found : r ≡ true → word_number (get_or table place d).1 ≡ number_among table word
      found e = by_first e

      pub searched_on : r ≡ false → number_among (drop (place + 1) table) word ≡ number_among table word
      searched_on e = rw add-one (by_first e)

-- ---- the place among names, counted from a number on

abbrev pub place_from : ℕ → List (List ℕ) → List ℕ → ℕ → ℕ
place_from place [] word otherwise = otherwise
place_from place (name ∷ names) word otherwise =
    cond (same word name) place (place_from (suc place) names word otherwise)

place_from_lem : (word : List ℕ) (place : ℕ) (others : List (List ℕ))
    → place_from place others word (place + length others) ≡ place + place_among others word
place_from_lem word place [] = refl
place_from_lem word place (name ∷ others) =
    by_test (same word name) (place_among others word)
    (ap (place_from (suc place) others word) (add-suc place (length others) ∙ sym (suc-add place (length others)))
    ∙ place_from_lem word (suc place) others
    ∙ suc-add place (place_among others word) ∙ sym (add-suc place (place_among others word)))
  where
    by_test : (t : Bool) {n : ℕ} (m : ℕ) → n ≡ place + suc m → cond t place n ≡ place + cond t 0 (suc m)
    by_test true m e = sym (add-zero place)
    by_test false m e = e

lower_is : (b : ℕ) → to_ascii_lowercase b ≡ lower b
lower_is b = grind (arith, nat_tests)

map_lower : (word : List ℕ) → in_lower word ≡ map lower word
map_lower [] = refl
map_lower (b ∷ word) = ap₂ ◌∷◌ (lower_is b) (map_lower word)

pub name_from : (word : List ℕ) → place_from 0 names (in_lower word) 14 ≡ name_of word
unfolding name_of
name_from word =
    ap (λ w. place_from 0 names w 14) (map_lower word)
    ∙ place_from_lem (map lower word) 0 names
    ∙ zero-add (place_among names (map lower word))
