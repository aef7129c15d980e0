-- Our numbers: octet by octet, and up to another most.
-- Assumes nothing.
use Prim.Native.Nat.{ℕ, suc, ◌+◌, ◌-◌, ◌*◌, ◌≤◌, ◌<◌}
use mathlib.Core.Bool.{Bool, and-false, false, not, true, ◌&&◌, ◌||◌}
use mathlib.Core.List.{List, [], ◌∷◌}
use mathlib.Core.Path.{◌≡◌, ap, refl, sym, ◌∙◌}
use native.Mathlib.Numerals.{add-one}
use native.Mathlib.Omega.{arith}
use borrow.Author.Tests.{leb-false, le-leb, lt-leb}
use lib.Dec.{leb}
use lib.ListN.{drop, drop_of_length-le, get_or, length}
use lib.Seq.{drop-cons}
use Rattle.std.proofs.Math.Option as Math
use Rattle.std.proofs.Math.Option.{none, some}
use Rattle.rules.specs.Screen.{and_then, is_empty, number_after, our_number, provided}
use Rattle.rules.specs.Words.{any}
use Rattle.rules_json.specs.Grammar.{digit}

abbrev pub no_digit : ℕ → Bool
no_digit b = not (digit b)

-- ---- octet by octet

-- the number of what is left, behind n
unfoldable pub counted : ℕ → List ℕ → Math.Option ℕ
counted n s = provided (not (any no_digit s) && leb (number_after n s) 65535) (number_after n s)

pub grows : (n : ℕ) (s : List ℕ) → n ≤ number_after n s
grows n [] = omega arith
grows n (b ∷ s) = omega (arith, grows (10 * n + (b - 48)) s)

pub counted_whole : (text : List ℕ) → (length text ≡ 0 → ⊥) → our_number 65535 text ≡ counted 0 text
unfolding counted our_number
counted_whole [] h = absurd (h refl)
counted_whole (b ∷ text) h = refl

pub counted_empty : (text : List ℕ) → length text ≡ 0 → our_number 65535 text ≡ none
unfolding our_number
counted_empty [] h = refl
counted_empty (b ∷ text) h = absurd (omega arith)

module _ (n : ℕ) (text : List ℕ) (place : ℕ) where
  pub counted_over : length text ≤ place → n < 65536 → counted n (drop place text) ≡ some n
  unfolding counted
  counted_over h l =
      ap (counted n) (drop_of_length-le text h) ∙ ap (λ t. provided t n) (le-leb n 65535 (omega arith))

  module _ (within : place < length text) where
    abbrev here : ℕ
    here = get_or text place 0

    abbrev after : ℕ
    after = 10 * n + (here - 48)

    by_first : (t : Bool) → digit here ≡ t
        → counted n (drop place text)
        ≡ provided (not (not t || any no_digit (drop (place + 1) text))
        && leb (number_after after (drop (place + 1) text)) 65535) (number_after after (drop (place + 1) text))
    unfolding counted
    by_first t e =
        rw (add-one)
        (ap (counted n) (drop-cons text place 0 within)
        ∙ ap (λ d. provided (not (not d || any no_digit (drop (suc place) text))
        && leb (number_after after (drop (suc place) text)) 65535) (number_after after (drop (suc place) text))) e)

    pub counted_other : digit here ≡ false → counted n (drop place text) ≡ none
    counted_other h = by_first false h

    pub counted_on : (m : ℕ) → m ≡ after → digit here ≡ true
        → counted n (drop place text) ≡ counted m (drop (place + 1) text)
    unfolding counted
    counted_on m e h = by_first true h ∙ ap (λ k. counted k (drop (place + 1) text)) (sym e)

    -- too great already
    pub counted_great : digit here ≡ true → 65536 ≤ after → counted n (drop place text) ≡ none
    counted_great d h =
        let rest = drop (place + 1) text in
        let great : leb (number_after after rest) 65535 ≡ false =
        lt-leb (number_after after rest) 65535 (omega (arith, grows after rest)) in
        by_first true d ∙ rw (great, and-false) refl

-- ---- up to another most

-- from the number up to 65535 the number up to any less
pub ours_up_to : (most : ℕ) (text : List ℕ) → most ≤ 65535
    → our_number most text ≡ and_then (our_number 65535 text) (λ n. provided (leb n most) n)
unfolding our_number
ours_up_to most text h =
    by_tests (not (is_empty text) && not (any no_digit text)) (number_after 0 text) (leb (number_after 0 text) 65535)
    refl
  where
    by_tests : (good : Bool) (n : ℕ) (t : Bool) → leb n 65535 ≡ t
        → provided (good && leb n most) n
        ≡ and_then (provided (good && leb n 65535) n) (λ m. provided (leb m most) m)
    by_tests false n t e = refl
    by_tests true n true e = rw e
    by_tests true n false e =
        rw e (ap (λ b. provided b n) (lt-leb n most (omega (arith, leb-false n 65535 e))))

-- what number_in rests on
pub ruleset readings = (counted_empty, counted_whole, counted_over, counted_other, counted_great)
