-- What is wrong with the words of a line by themselves: each of the numbers 1 to 5 is given exactly in its case.
-- Assumes nothing.
use Prim.Native.Nat.{ℕ, zero, suc, ◌<◌}
use native.Mathlib.Omega.{arith}
use mathlib.Core.Path.{◌≡◌, refl, ap, subst, ◌∙◌}
use mathlib.Core.Bool.{Bool, true, false, true≢false, cond, not, ◌||◌}
use mathlib.Core.List.{List, [], ◌∷◌}
use borrow.Author.Tests.{le-ltb, lt-ltb}
use lib.Dec.{eqb, ltb, leb-suc-suc}
use lib.ListN.{get_or, length}
use Rattle.chains.proofs.Chains.{neither}
use Rattle.demands.proofs.Exactly.{Row, Tells, below, equal, exactly, group, in_words, ◌on◌}
use Rattle.demands.specs.Exactly.{GivenExactly}
use Rattle.demands.specs.Texts.{FirstWrong, is_number_at, of_words}
use Rattle.rules.specs.Screen.{is_there, our_number}
use Rattle.rules.specs.Words.{any, ◌if◌then◌, ◌▷◌}
use Rattle.rules_plan.specs.Lines.{all_mosts, byte, line_said, mosts, sixteen_bits, words_fault}
use Rattle.rules_plan.specs.Words.{other_word}

-- ---- the first word that is no number

-- how much the first word that is no number could be at most, and 0 where each is one
abbrev wrong_up_to : List ℕ → List (List ℕ) → ℕ
wrong_up_to [] words = 0
wrong_up_to (most ∷ each) [] = 0
wrong_up_to (most ∷ each) (word ∷ words) = cond (is_there (our_number most word)) (wrong_up_to each words) most

wrong_behind : (n most : ℕ) (each word : List ℕ) (words : List (List ℕ)) → is_there (our_number most word) ≡ true
    → FirstWrong n each words
    → FirstWrong n (most ∷ each) (word ∷ words)
wrong_behind n most each word words e h =
    record {
      place = suc h.place;
      meant = omega (arith, h.meant);
      there = omega (arith, h.there);
      up_to = h.up_to;
      wrong = h.wrong;
      numbers_before = before;
    }
  where
    before : (k : ℕ) → k < suc h.place → is_number_at (most ∷ each) (word ∷ words) k ≡ true
    before zero l = e
    before (suc k) l = h.numbers_before k (omega arith)

is_first : (n : ℕ) (each : List ℕ) (words : List (List ℕ)) → wrong_up_to each words ≡ suc n
    → FirstWrong (suc n) each words
is_first n [] words e = let z : ⊥ = omega arith in absurd z
is_first n (most ∷ each) [] e = let z : ⊥ = omega arith in absurd z
is_first n (most ∷ each) (word ∷ words) e = go (is_there (our_number most word)) refl e (is_first n each words)
  where
    go : (t : Bool) → is_there (our_number most word) ≡ t → cond t (wrong_up_to each words) most ≡ suc n
        → (wrong_up_to each words ≡ suc n → FirstWrong (suc n) each words)
        → FirstWrong (suc n) (most ∷ each) (word ∷ words)
    go true q e later = wrong_behind (suc n) most each word words q (later e)
    go false q e later =
        record {
          place = 0;
          meant = omega arith;
          there = omega arith;
          up_to = e;
          wrong = q;
          numbers_before = λ k l. let z : ⊥ = omega arith in absurd z;
        }

first_is : (n : ℕ) (each : List ℕ) (words : List (List ℕ)) (k : ℕ) → k < length each → k < length words
    → get_or each k 0 ≡ n
    → is_number_at each words k ≡ false
    → ((j : ℕ) → j < k → is_number_at each words j ≡ true)
    → wrong_up_to each words ≡ n
first_is n [] words k m l e w h = let z : ⊥ = omega arith in absurd z
first_is n (most ∷ each) [] k m l e w h = let z : ⊥ = omega arith in absurd z
first_is n (most ∷ each) (word ∷ words) zero m l e w h =
    ap (λ (t : Bool). cond t (wrong_up_to each words) most) w ∙ e
first_is n (most ∷ each) (word ∷ words) (suc k) m l e w h =
    ap (λ (t : Bool). cond t (wrong_up_to each words) most) (h 0 (omega arith))
    ∙ first_is n each words k (omega arith) (omega arith) e w (λ j b. h (suc j) (omega arith))

-- ---- from left to right

-- Neither a byte is meant nor sixteen bits: so is it nowhere in the table.
abbrev other_most : ℕ → Bool
other_most most = not (eqb most byte || eqb most sixteen_bits)

meant_each : (table : List (List ℕ)) (name : ℕ) → any (any other_most) table ≡ false
    → any other_most (get_or table name []) ≡ false
meant_each [] name e = refl
meant_each (each ∷ table) zero e = (neither (any other_most each) _ e).0
meant_each (each ∷ table) (suc name) e = meant_each table name (neither (any other_most each) _ e).1

-- 4, 5, 2 and 3 as their cases are stated, and as they are found from left to right
abbrev tested : ℕ → Bool → Bool → ℕ
tested wrong fewer more = 4 if eqb wrong byte then 5 if eqb wrong sixteen_bits then 2 if fewer then 3 if more then 0

abbrev stated : List ℕ → List (List ℕ) → ℕ
stated each words = tested (wrong_up_to each words) (ltb (length words) (length each))
    (ltb (length each) (length words))

by_most : (byte_meant bits_meant : Bool) (rest later : ℕ) → not (byte_meant || bits_meant) ≡ false
    → (4 if byte_meant then 5 if bits_meant then rest) ≡ cond byte_meant 4 5 ▷ later
unfolding ◌if◌then◌ ◌▷◌
by_most true bits_meant rest later e = refl
by_most false true rest later e = refl
by_most false false rest later e = absurd (true≢false e)

left_to_right : (each : List ℕ) (words : List (List ℕ)) → any other_most each ≡ false
    → stated each words ≡ words_fault each words
unfolding words_fault ◌if◌then◌ ◌▷◌
left_to_right [] [] e = refl
left_to_right [] (word ∷ words) e =
    λ i. tested 0 (le-ltb (suc (length words)) 0 (omega arith) i) (lt-ltb 0 (suc (length words)) (omega arith) i)
left_to_right (most ∷ each) [] e =
    λ i. tested 0 (lt-ltb 0 (suc (length each)) (omega arith) i) (le-ltb (suc (length each)) 0 (omega arith) i)
left_to_right (most ∷ each) (word ∷ words) e =
    let known = neither (other_most most) (any other_most each) e in
    go (is_there (our_number most word)) known.0 (left_to_right each words known.1)
  where
    fewer : ltb (suc (length words)) (suc (length each)) ≡ ltb (length words) (length each)
    fewer = leb-suc-suc (suc (length words)) (length each)

    more : ltb (suc (length each)) (suc (length words)) ≡ ltb (length each) (length words)
    more = leb-suc-suc (suc (length each)) (length words)

    go : (t : Bool) → other_most most ≡ false → stated each words ≡ words_fault each words
        → tested (cond t (wrong_up_to each words) most)
        (ltb (suc (length words)) (suc (length each)))
        (ltb (suc (length each)) (suc (length words)))
        ≡ (cond (eqb most byte) 4 5 if not t then 0) ▷ words_fault each words
    go true known later = (λ i. tested (wrong_up_to each words) (fewer i) (more i)) ∙ later
    go false known later = by_most (eqb most byte) (eqb most sixteen_bits) _ _ known

module _ (name : ℕ) (behind : List (List ℕ)) where
  abbrev wrong_with : (n : ℕ) → Tells (FirstWrong (suc n) (mosts name) behind)
  wrong_with n =
      in_words (equal (wrong_up_to (mosts name) behind) (suc n)) (is_first n (mosts name) behind)
      (λ h.
      first_is (suc n) (mosts name) behind h.place h.meant h.there h.up_to h.wrong h.numbers_before)

  abbrev tests : List Row
  tests =
      1 on equal name other_word
      ∷ 4 on wrong_with 254
      ∷ 5 on wrong_with 65534
      ∷ 2 on below (length behind) (length (mosts name))
      ∷ 3 on below (length (mosts name)) (length behind)
      ∷ []

  pub stated_words : GivenExactly (of_words name behind) (line_said name behind).fault
  unfolding line_said mosts
  stated_words =
      subst (GivenExactly (of_words name behind))
      (ap (λ (n : ℕ). 1 if eqb name other_word then n)
      (left_to_right (mosts name) behind (meant_each all_mosts name refl)))
      (exactly (group tests) refl)
