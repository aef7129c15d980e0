-- Runs of blanks and of digits, octet by octet.
-- Assumes nothing.
use Prim.Native.Nat.{ℕ, suc, ◌+◌, ◌≤◌, ◌<◌}
use mathlib.Core.Bool.{Bool, cond, false, not, true}
use mathlib.Core.List.{List}
use mathlib.Core.Path.{◌≡◌, ap, refl, sym, ◌∙◌}
use native.Mathlib.Numerals.{add-one}
use native.Mathlib.Omega.{arith}
use lib.ListN.{drop, drop_of_length-le, get_or, length}
use lib.Seq.{drop-cons}
use borrow.Author.Tests.{eqb-false, eqb-true, ltb-false, ltb-true}
use lib.Dec.{eqb, ltb}
use Rattle.std.specs.Bool.{then_some}
use Rattle.json_reader.proofs.Cases.{by_test}
use Rattle.json_reader.proofs.Places.{taken_in_text}
use Rattle.json_reader.proofs.Read.{past_none, past_some}
use Rattle.json_reader.specs.Places.{next_from}
use Rattle.rules_json.specs.Grammar.{blank, digit}
use Rattle.rules_json.specs.Reader.{at, blanks, digits, leading, past}

module _ (past : ℕ) (text : List ℕ) where
  pub blanks_over : length text ≤ past → blanks (drop past text) ≡ 0
  unfolding blanks
  blanks_over h = ap (leading blank) (drop_of_length-le text h)

  by_first : past < length text → (t : Bool) → blank (get_or text past 0) ≡ t
      → blanks (drop past text) ≡ cond t (suc (blanks (drop (suc past) text))) 0
  unfolding blanks
  by_first h t e =
      ap (leading blank) (drop-cons text past 0 h)
      ∙ ap (λ t. cond t (suc (leading blank (drop (suc past) text))) 0) e

  pub blanks_other : blank (at text past) ≡ false → blanks (drop past text) ≡ 0
  blanks_other e =
      by_test (ltb past (length text)) (λ t. by_first (ltb-true _ _ t) false e)
      (λ t. blanks_over (ltb-false _ _ t))

  pub blanks_on : blank (at text past) ≡ true → blanks (drop past text) ≡ suc (blanks (drop (past + 1) text))
  blanks_on e = rw add-one (by_first (taken_in_text text past blank refl e) true e)

-- ---- what stands behind blanks, where they end as far as from each of them

module _ (past from : ℕ) (text : List ℕ) (same : past + blanks (drop past text) ≡ from + blanks (drop from text)) where
  ends : (m : ℕ) → m ≡ from + blanks (drop from text) → (o : ℕ) → o ≡ at text m
      → record { place = m; octet = o } ≡ next_from text from
  ends m e o q = λ i. record { place = e i; octet = (q ∙ ap (at text) e) i }

  pub other_next : blank (at text past) ≡ false → (o : ℕ) → o ≡ at text past
      → record { place = past; octet = o } ≡ next_from text from
  other_next b = ends past (omega (arith, same, blanks_other past text b))

-- ---- digits alike

module _ (end : ℕ) (text : List ℕ) where
  digits_over : length text ≤ end → digits (drop end text) ≡ 0
  unfolding digits
  digits_over h = ap (leading digit) (drop_of_length-le text h)

  module _ (h : end < length text) where
    digits_by : (t : Bool) → digit (get_or text end 0) ≡ t
        → digits (drop end text) ≡ cond t (suc (digits (drop (suc end) text))) 0
    unfolding digits
    digits_by t e =
        ap (leading digit) (drop-cons text end 0 h)
        ∙ ap (λ t. cond t (suc (leading digit (drop (suc end) text))) 0) e

    pub digits_on : digit (get_or text end 0) ≡ true → digits (drop end text) ≡ suc (digits (drop (end + 1) text))
    digits_on e = rw add-one (digits_by true e)

module _ (end from : ℕ) (text : List ℕ) (same : end + digits (drop end text) ≡ from + digits (drop from text)) where
  -- past n digits, by whether the end is another place
  ended : (r n : ℕ) → r ≡ from + n → then_some (not (eqb r from)) r ≡ past from n
  ended r n e =
      by_test (eqb r from)
      (λ t. ap (λ b. then_some (not b) r) t ∙ sym (past_none from (omega (arith, e, eqb-true r from t))))
      (λ t. ap (λ b. then_some (not b) r) t ∙ sym (past_some from (λ z. eqb-false r from t (omega arith)) e))

  pub other_digit : end < length text → digit (get_or text end 0) ≡ false
      → then_some (not (eqb end from)) end ≡ past from (digits (drop from text))
  other_digit h b = ended end (digits (drop from text)) (omega (arith, same, digits_by end text h false b))

  pub no_digit : length text ≤ end → (from ≤ length text → end ≤ length text)
      → then_some (ltb from (length text)) (length text) ≡ past from (digits (drop from text))
  no_digit h l =
      by_test (ltb from (length text))
      (λ t.
      let less = ltb-true from (length text) t in
      let over = digits_over end text h in
      let size : length text ≡ from + digits (drop from text) = omega (arith, same, over, l (omega arith)) in
      ap (λ b. then_some b (length text)) t ∙ sym (past_some from (λ z. omega arith) size))
      (λ t.
      ap (λ b. then_some b (length text)) t
      ∙ sym (past_none from (digits_over from text (ltb-false from (length text) t))))
