-- Past a number and its parts.
-- Assumes nothing.
use Prim.Native.Nat.{ℕ, ◌+◌}
use mathlib.Core.Bool.{Bool, cond, false, true}
use mathlib.Core.List.{List}
use mathlib.Core.Path.{◌≡◌, ap, refl, sym, ◌∙◌}
use native.Mathlib.Omega.{arith}
use borrow.Author.Tests.{eq-eqb, ne_eqb}
use lib.Dec.{eqb}
use lib.ListN.{drop}
use Rattle.std.specs.Prelude.{None, Some, unwrap_or}
use Rattle.json_reader.proofs.Further.{cond_none, cond_some}
use Rattle.json_reader.proofs.Places.{first_behind, text_behind}
use Rattle.json_reader.proofs.Read.{none_read, past_further, past_none, past_some, read_or_not, some_read}
use Rattle.rules_json.specs.Grammar.{e}
use Rattle.rules_json.specs.Reader.{at, digits, exp_size, frac_size, further, int_size, minus_size, number_size, past}
use Rattle.rules_json.specs.Reader.{rest_size, sign_size, unsigned_size}

module _ (p : ℕ) (text : List ℕ) where
  -- ---- int

  int_by : {t : Bool} → eqb (at text p) 0x30 ≡ t → int_size (drop p text) ≡ cond t 1 (digits (drop p text))
  unfolding int_size
  int_by h = ap (λ b. cond (eqb b 0x30) 1 (digits (drop p text))) (first_behind text p)
      ∙ ap (λ (t : Bool). cond t 1 (digits (drop p text))) h

  pub int_zero : at text p ≡ 0x30 → past p (int_size (drop p text)) ≡ Some (p + 1)
  int_zero h = ap (past p) (int_by (eq-eqb _ _ h)) ∙ past_some p (λ z. omega arith) refl

  pub int_digits : (at text p ≡ 0x30 → ⊥) → past p (int_size (drop p text)) ≡ past p (digits (drop p text))
  int_digits h = ap (past p) (int_by (ne_eqb _ _ h))

  -- ---- frac

  -- digits behind n octets
  abbrev digits_behind : ℕ → ℕ
  digits_behind n = digits (drop n (drop p text))

  behind : (n : ℕ) → past p (further n (digits_behind n)) ≡ past (p + n) (digits (drop (p + n) text))
  behind n = past_further p n (digits_behind n) ∙ ap (λ s. past (p + n) (digits s)) (text_behind text p n)

  frac_by : {t : Bool} → eqb (at text p) 0x2E ≡ t → frac_size (drop p text) ≡ cond t (further 1 (digits_behind 1)) 0
  unfolding frac_size
  frac_by h = ap (λ b. cond (eqb b 0x2E) (further 1 (digits_behind 1)) 0) (first_behind text p)
      ∙ ap (λ (t : Bool). cond t (further 1 (digits_behind 1)) 0) h

  pub no_frac : (at text p ≡ 0x2E → ⊥) → past p (frac_size (drop p text)) ≡ None
  no_frac h = past_none p (frac_by (ne_eqb _ _ h))

  pub some_frac : at text p ≡ 0x2E → past p (frac_size (drop p text)) ≡ past (p + 1) (digits (drop (p + 1) text))
  some_frac h = ap (past p) (frac_by (eq-eqb _ _ h)) ∙ behind 1

  -- ---- exp

  -- the octets up to the power's digits
  abbrev head : ℕ
  head = 1 + sign_size (drop 1 (drop p text))

  exp_by : {t : Bool} → e (at text p) ≡ t → exp_size (drop p text) ≡ cond t (further head (digits_behind head)) 0
  unfolding exp_size
  exp_by h = ap (λ b. cond (e b) (further head (digits_behind head)) 0) (first_behind text p)
      ∙ ap (λ (t : Bool). cond t (further head (digits_behind head)) 0) h

  pub no_exp : e (at text p) ≡ false → past p (exp_size (drop p text)) ≡ None
  no_exp h = past_none p (exp_by h)

  pub some_exp : e (at text p) ≡ true → (power : ℕ) → power ≡ (p + 1) + sign_size (drop (p + 1) text)
      → past p (exp_size (drop p text)) ≡ past power (digits (drop power text))
  some_exp h power q =
      ap (past p) (exp_by h) ∙ behind head
      ∙ ap (λ k. past k (digits (drop k text))) (omega (arith, q, ap sign_size (text_behind text p 1)))

-- ---- number

module _ (p whole : ℕ) (text : List ℕ) (m : whole ≡ p + minus_size (drop p text)) where
  -- what stands behind the minus
  signed : number_size (drop p text) ≡ further (minus_size (drop p text)) (unsigned_size (drop whole text))
  unfolding number_size
  signed =
      ap (further (minus_size (drop p text)))
      (ap unsigned_size (text_behind text p _ ∙ ap (λ k. drop k text) (sym m)))

  from_whole : past p (number_size (drop p text)) ≡ past whole (unsigned_size (drop whole text))
  from_whole =
      ap (past p) signed ∙ past_further p _ _ ∙ ap (λ k. past k (unsigned_size (drop whole text))) (sym m)

  pub no_number : None ≡ past whole (int_size (drop whole text)) → past p (number_size (drop p text)) ≡ None
  no_number h = from_whole ∙ past_none whole (cond_none _ _ (none_read whole _ h))

  pub some_number : (after : ℕ) → Some after ≡ past whole (int_size (drop whole text))
      → (point : ℕ) → point ≡ unwrap_or (past after (frac_size (drop after text))) after
      → (end : ℕ) → end ≡ unwrap_or (past point (exp_size (drop point text))) point
      → past p (number_size (drop p text)) ≡ Some end
  some_number after h point f end x =
      let (int, some) = some_read whole _ after h in
      let rest : drop (int_size (drop whole text)) (drop whole text) ≡ drop after text =
      text_behind text whole _ ∙ ap (λ k. drop k text) (sym int) in
      let frac = f ∙ read_or_not after (frac_size (drop after text)) in
      let exp = x ∙ read_or_not point (exp_size (drop point text)) in
      let behind : drop (frac_size (drop after text)) (drop after text) ≡ drop point text =
      text_behind text after _ ∙ ap (λ k. drop k text) (sym frac) in
      let size = cond_some _ _ some ∙ ap (λ s. int_size (drop whole text) + rest_size s) rest in
      from_whole
      ∙ past_some whole (λ z. some (omega (arith, size, z)))
      (omega (arith, int, size, frac, exp, ap exp_size behind))
