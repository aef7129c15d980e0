-- A number of RFC 8259 that has digits alone, up to 65535, is spelt as we write it.
-- Assumes nothing.
use Prim.Native.Nat.{ℕ, suc, ◌+◌, ◌-◌, ◌*◌, ◌/◌, ◌%◌, ◌^◌, ◌≤◌, ◌<◌}
use native.Mathlib.Nat.{pow-le-pow_right}
use native.Mathlib.Omega.{arith, by_contra}
use mathlib.Core.Logic.{inl, inr, ⊎_elim}
use mathlib.Core.Path.{◌≡◌, refl, sym, ap, subst, ◌∙◌}
use mathlib.Core.Bool.{true, not}
use mathlib.Core.List.{List, [], ◌∷◌, ◌++◌, append_assoc, append-nil}
use borrow.Author.Tests.{eqb-true, leb-true, not-false}
use lib.Dec.{eqb, leb, lit<}
use lib.ListN.{length}
use Rattle.chains.proofs.Chains.{both, either, neither}
use Rattle.demands.proofs.FiveDigits.{any_append}
use Rattle.demands.proofs.NumberTexts.{Digits, Places, placed, spelt}
use Rattle.rules.specs.Printer.{decimal, final_digits}
use Rattle.rules.specs.Screen.{number_after}
use Rattle.rules.specs.Words.{any}
use Rattle.rules_json.specs.Abnf.{Rule, optional, within}
use Rattle.rules_json.specs.Grammar.{Exp, Frac, Int, Minus, Number, digit, digit1_9, e}

-- ---- digits as a number, and its digits again

bounds : (least most b : ℕ) → within least most b ≡ true → (least ≤ b) × (b ≤ most)
bounds least most b h = let (l, m) = both (leb least b) (leb b most) h in (leb-true least b l, leb-true b most m)

head_digit : (b : ℕ) (t : List ℕ) → Digits (b ∷ t) → (48 ≤ b) × (b ≤ 57) × Digits t
head_digit b t d =
    let (first, rest) = neither (not (digit b)) (any (λ c. not (digit c)) t) d in
    let (least, most) = bounds 48 57 b (not-false (digit b) first) in
    (least, most, rest)

digits_again : (t : List ℕ) (j k a : ℕ) → j ≡ length t + k → Digits t
    → final_digits j (number_after a t) ≡ final_digits k a ++ t
digits_again [] j k a s d =
    let same : j ≡ k = omega arith in
    ap (λ (n : ℕ). final_digits n a) same ∙ sym (append-nil (final_digits k a))
digits_again (b ∷ t) j k a s d =
    let (least, most, rest) = head_digit b t d in
    let front : (10 * a + (b - 48)) / 10 ≡ a = omega arith in
    let last : 48 + (10 * a + (b - 48)) % 10 ≡ b = omega arith in
    digits_again t j (suc k) (10 * a + (b - 48)) (omega arith) rest
    ∙ (λ i. (final_digits k (front i) ++ (last i ∷ [])) ++ t)
    ∙ append_assoc (final_digits k a) (b ∷ []) t

at_least : (t : List ℕ) (j k a : ℕ) → j ≡ length t + k → 10 ^ k ≤ a → 10 ^ j ≤ number_after a t
at_least [] j k a s h = let same : j ≡ k = omega arith in subst (λ (n : ℕ). 10 ^ n ≤ a) (sym same) h
at_least (b ∷ t) j k a s h = at_least t j (suc k) (10 * a + (b - 48)) (omega arith) (omega arith)

at_most : (t : List ℕ) (j k a : ℕ) → j ≡ length t + k → Digits t → a < 10 ^ k → number_after a t < 10 ^ j
at_most [] j k a s d h = let same : j ≡ k = omega arith in subst (λ (n : ℕ). a < 10 ^ n) (sym same) h
at_most (b ∷ t) j k a s d h =
    let (least, most, rest) = head_digit b t d in
    at_most t j (suc k) (10 * a + (b - 48)) (omega arith) rest (omega arith)

-- ---- as many as we write

no_more : (n r q : ℕ) → Places n r → Places n q → r ≤ q
no_more n r q h k =
    by_contra r q (λ less. ⊎_elim (λ z. omega arith)
    (λ l. omega (arith, k.0, pow-le-pow_right {n = 10} (lit< tt) {i = suc q} {j = r} less)) h.1)

one_place : (n r q : ℕ) → Places n r → Places n q → r ≡ q
one_place n r q h k = omega (arith, no_more n r q h k, no_more n q r k h)

-- digits with no 0 in front
again : (b : ℕ) (t : List ℕ) → digit1_9 b ≡ true → Digits (b ∷ t) → number_after 0 (b ∷ t) ≤ 65535
    → b ∷ t ≡ decimal (number_after 0 (b ∷ t))
again b t f d few =
    let n = number_after 0 (b ∷ t) in
    let (least, most) = bounds 49 57 b f in
    let (_, _, rest) = head_digit b t d in
    let here : Places n (length t) = (
      at_most t (suc (length t)) 1 (10 * 0 + (b - 48)) (omega arith) rest (omega arith),
      inr (at_least t (length t) 0 (10 * 0 + (b - 48)) (omega arith) (omega arith)),
    ) in
    let same = one_place n (length t) (placed n few).0 here (placed n few).2 in
    sym (digits_again (b ∷ t) (suc (length t)) 0 0 (omega arith) d)
    ∙ ap (λ (k : ℕ). final_digits (suc k) n) same
    ∙ sym (spelt n few)

-- ---- a number with digits alone is an int

apart : (s t : List ℕ) → Digits (s ++ t) → Digits s × Digits t
apart s t d = neither _ _ (sym (any_append (λ b. not (digit b)) s t) ∙ d)

nothing : (P : Rule) (t : List ℕ) → optional P t → (P t → Digits t → ⊥) → Digits t → t ≡ []
nothing P t (inl e) f d = e
nothing P t (inr p) f d = absurd (f p d)

-- no digit begins so
other_first : (b : ℕ) (s t : List ℕ) → t ≡ b ∷ s → (48 ≤ b → b ≤ 57 → ⊥) → Digits t → ⊥
other_first b s t e f d = let (least, most, _) = head_digit b s (subst Digits e d) in f least most

no_minus : (t : List ℕ) → Minus t → Digits t → ⊥
no_minus t e = other_first 0x2D [] t e (λ l m. omega arith)

no_frac : (t : List ℕ) → Frac t → Digits t → ⊥
no_frac t (a, b, s, p, q) = other_first 0x2E b t (s ∙ ap (λ (l : List ℕ). l ++ b) p) (λ l m. omega arith)

no_exp : (t : List ℕ) → Exp t → Digits t → ⊥
no_exp t (a, b, s, (c, p, h), q) =
    other_first c b t (s ∙ ap (λ (l : List ℕ). l ++ b) p)
    (λ l m. ⊎_elim (λ k. omega arith) (λ k. omega arith)
    (either (eqb c 0x65) (eqb c 0x45) (eqb-true c 0x65) (eqb-true c 0x45) h))

int_alone : (t : List ℕ) → Number t → Digits t → Int t
int_alone t (sign, rest, s, p, (int, tail, r, q, (frac, exp, u, f, x))) d =
    let (d1, d2) = apart sign rest (subst Digits s d) in
    let (d3, d4) = apart int tail (subst Digits r d2) in
    let (d5, d6) = apart frac exp (subst Digits u d4) in
    let none : frac ++ exp ≡ [] = λ i. nothing Frac frac f (no_frac frac) d5 i ++ nothing Exp exp x (no_exp exp) d6 i in
    let all : t ≡ int = s ∙ (λ i. nothing Minus sign p (no_minus sign) d1 i ++ r i)
    ∙ ap (λ (l : List ℕ). int ++ l) (u ∙ none) ∙ append-nil int in
    subst Int (sym all) q

abbrev Again : List ℕ → Type 0
Again t = t ≡ decimal (number_after 0 t)

zero_again : Again (48 ∷ [])
unfolding decimal
zero_again = refl

-- So it is spelt as we write it.
pub decimal_again : (t : List ℕ) → Number t → Digits t → number_after 0 t ≤ 65535 → t ≡ decimal (number_after 0 t)
decimal_again t number d few = go (int_alone t number d)
  where
    go : Int t → Again t
    go (inl z) = subst Again (sym z) zero_again
    go (inr (a, u, s, (b, p, f), m)) =
        let e = s ∙ ap (λ (l : List ℕ). l ++ u) p in
        subst Again (sym e) (again b u f (subst Digits e d) (subst (λ (l : List ℕ). number_after 0 l ≤ 65535) e few))
