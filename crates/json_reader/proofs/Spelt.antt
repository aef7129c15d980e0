-- A word, octet by octet, as the library finds it at the head of a text.
-- Assumes nothing.
use Prim.Native.Nat.{ℕ, zero, suc, ◌+◌, ◌-◌, ◌≤◌}
use mathlib.Core.Bool.{Bool, false, true, cond, ◌&&◌}
use mathlib.Core.List.{List, [], ◌∷◌}
use mathlib.Core.Path.{◌≡◌, ap, refl, sym, ◌∙◌}
use native.Mathlib.Omega.{arith}
use borrow.Author.Tests.{eq-eqb, eqb-true, ltb-false, ltb-true, ne_eqb}
use lib.Dec.{eqb, ltb}
use lib.ListN.{drop, drop_of_length-le, get_or-eq_default, length, take}
use lib.Pointwise.{pointwise}
use lib.Seq.{drop-cons}
use Rattle.std.specs.Bool.{then_some}
use Rattle.std.specs.List.{list_all, starts_with}
use Rattle.json_reader.proofs.Behind.{part_behind}
use Rattle.json_reader.proofs.Cases.{both, by_test}
use Rattle.json_reader.proofs.Read.{past_if}
use Rattle.rules_json.specs.Reader.{at, past, spells, word_size}

turned : (a b : ℕ) → eqb a b ≡ eqb b a
turned a b =
    by_test (eqb b a) (λ h. eq-eqb a b (sym (eqb-true b a h)) ∙ sym h)
    (λ h. ne_eqb a b (λ e. absurd (by_false (sym (eq-eqb b a (sym e)) ∙ h))) ∙ sym h)
  where
    by_false : true ≡ false → ⊥
    by_false e = absurd (cc)

abbrev pub no_zero : List ℕ → Bool
no_zero s = list_all (ltb 0) s

spelt : (word s : List ℕ) (place : ℕ) → no_zero word ≡ true
    → pointwise eqb word (take (length word) (drop place s)) ≡ spells word place s
spelt [] s place h = refl
spelt (b ∷ word) s place h =
    let (some, more) = both (ltb 0 b) (no_zero word) h in
    by_test (ltb place (length s))
    (λ l. ap (λ t. pointwise eqb (b ∷ word) (take (suc (length word)) t)) (drop-cons s place 0 (ltb-true _ _ l))
    ∙ (λ i. turned b (at s place) i && spelt word s (suc place) more i))
    (λ l. ap (λ t. pointwise eqb (b ∷ word) (take (suc (length word)) t)) (drop_of_length-le s (ltb-false _ _ l))
    ∙ sym (ap (λ t. t && spells word (suc place) s)
    (ne_eqb (at s place) b (λ e. absurd (omega (
      arith,
      e,
      get_or-eq_default s 0 (ltb-false _ _ l),
      ltb-true 0 b
          some,
    ))))))

-- past a word where it stands
pub word_past : (word text : List ℕ) (at : ℕ) → no_zero word ≡ true → 1 ≤ length word
    → past at (word_size word (drop at text))
    ≡ then_some (starts_with eqb (take (length text - at) (drop at text)) word) (at + length word)
word_past word text at h l =
    by_length (length word) l
    ∙ ap (λ t. then_some t (at + length word)) (sym (spelt word (drop at text) 0 h))
    ∙ ap (λ t. then_some (starts_with eqb t word) (at + length word)) (sym (part_behind text at))
  where
    by_length : (n : ℕ) → 1 ≤ n → past at (cond (spells word 0 (drop at text)) n 0)
        ≡ then_some (spells word 0 (drop at text)) (at + n)
    by_length zero k = absurd (omega arith)
    by_length (suc n) k = past_if at n (spells word 0 (drop at text))
