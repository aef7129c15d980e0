-- A number as we write it, up to 65535: it is a number of RFC 8259 with digits alone, and it is read as what it was.
-- Assumes nothing.
use Prim.Native.Nat.{ℕ, zero, suc, ◌+◌, ◌-◌, ◌*◌, ◌/◌, ◌%◌, ◌^◌, ◌≤◌, ◌<◌}
use native.Mathlib.Nat.{pow-le-pow_right}
use native.Mathlib.Omega.{arith, by_contra}
use mathlib.Core.Logic.{◌⊎◌, inl, inr, ⊎_elim}
use mathlib.Core.Path.{◌≡◌, refl, sym, ap, subst, ◌∙◌}
use mathlib.Core.Bool.{Bool, true, false, cond, not, ◌&&◌, ◌||◌}
use mathlib.Core.List.{List, [], ◌∷◌, ◌++◌, append_assoc, append-nil}
use mathlib.Core.Option.{some}
use borrow.Author.Tests.{le-leb, ltb-false, ltb-true}
use Rattle.chains.proofs.Chains.{neither}
use lib.Dec.{leb, lit<, ltb}
use lib.ListN.{length, length-append}
use Rattle.rules.specs.Printer.{decimal, final_digits, places_from}
use Rattle.rules.specs.Screen.{is_empty, number_after, our_number, provided}
use Rattle.rules.specs.Words.{any}
use Rattle.rules_json.specs.Abnf.{Rule, many, one, times, ◌then◌}
use Rattle.rules_json.specs.Grammar.{Int, Number, digit, digit1_9}

-- ---- how many digits

-- n has r + 1 digits, and no 0 in front unless it is 0 itself
abbrev pub Places : ℕ → ℕ → Type 0
Places n r = (n < 10 ^ suc r) × ((r ≡ 0) ⊎ (10 ^ r ≤ n))

places : (more j n : ℕ) → n < 10 ^ suc (j + more) → (j ≡ 0) ⊎ (10 ^ j ≤ n)
    → (r : ℕ) × (places_from more (suc j) n ≡ suc r) × Places n r
places zero j n h least = (j, refl, (subst (λ (k : ℕ). n < 10 ^ suc k) (omega arith) h, least))
places (suc more) j n h least =
    go (ltb n (10 ^ suc j)) refl (λ l. places more (suc j) n (subst (λ (k : ℕ). n < 10 ^ suc k) (omega arith) h)
    (inr l))
  where
    go : (t : Bool) → ltb n (10 ^ suc j) ≡ t
        → (10 ^ suc j ≤ n → (r : ℕ) × (places_from more (suc (suc j)) n ≡ suc r) × Places n r)
        → (r : ℕ) × (cond t (suc j) (places_from more (suc (suc j)) n) ≡ suc r) × Places n r
    go true e later = (j, refl, (ltb-true n (10 ^ suc j) e, least))
    go false e later = later (ltb-false n (10 ^ suc j) e)

-- ---- the digits

last_digit : (n : ℕ) → digit (48 + n % 10) ≡ true
last_digit n = λ i. le-leb 48 (48 + n % 10) (omega arith) i && le-leb (48 + n % 10) 57 (omega arith) i

-- all are digits
abbrev pub Digits : List ℕ → Type 0
Digits s = any (λ b. not (digit b)) s ≡ false

digits_more : (s : List ℕ) (b : ℕ) → Digits s → digit b ≡ true → Digits (s ++ (b ∷ []))
digits_more [] b d e = ap (λ (t : Bool). not t || false) e
digits_more (x ∷ s) b d e = let h = neither (not (digit x)) _ d in λ i. h.0 i || digits_more s b h.1 e i

digits_all : (k n : ℕ) → Digits (final_digits k n)
digits_all zero n = refl
digits_all (suc k) n = digits_more (final_digits k (n / 10)) _ (digits_all k (n / 10)) (last_digit n)

number_more : (s : List ℕ) (n b : ℕ) → number_after n (s ++ (b ∷ [])) ≡ 10 * number_after n s + (b - 48)
number_more [] n b = refl
number_more (x ∷ s) n b = number_more s (10 * n + (x - 48)) b

number_of : (k n : ℕ) → n < 10 ^ k → number_after 0 (final_digits k n) ≡ n
number_of zero n h = omega arith
number_of (suc k) n h =
    let less = number_of k (n / 10) (omega arith) in
    number_more (final_digits k (n / 10)) 0 (48 + n % 10) ∙ omega arith

digits_length : (k n : ℕ) → length (final_digits k n) ≡ k
digits_length zero n = refl
digits_length (suc k) n = rw length-append (omega (arith, digits_length k (n / 10)))

not_empty : (s : List ℕ) (b : ℕ) → is_empty (s ++ (b ∷ [])) ≡ false
not_empty [] b = refl
not_empty (x ∷ s) b = refl

-- ---- the grammar's numbers

-- int, where it is not zero
abbrev Whole : Rule
Whole = one digit1_9 then many (one digit)

many_more : (n : ℕ) (s : List ℕ) (b : ℕ) → times n (one digit) s → digit b ≡ true → many (one digit) (s ++ (b ∷ []))
many_more zero s b e d =
    (1, (b ∷ [], [], ap (λ (l : List ℕ). l ++ (b ∷ [])) e, (b, refl, d), refl))
many_more (suc n) s b (t, u, e, p, q) d =
    let later = many_more n u b q d in
    (suc later.0, (t, u ++ (b ∷ []), ap (λ (l : List ℕ). l ++ (b ∷ [])) e ∙ append_assoc t u (b ∷ []), p, later.1))

whole_more : (s : List ℕ) (b : ℕ) → Whole s → digit b ≡ true → Whole (s ++ (b ∷ []))
whole_more s b (t, u, e, p, q) d = (
  t,
  u ++ (b ∷ []),
  ap (λ (l : List ℕ). l ++ (b ∷ [])) e ∙ append_assoc t u (b ∷ []),
  p,
  many_more q.0 u b q.1 d,
)

whole : (k n : ℕ) → 10 ^ k ≤ n → n < 10 ^ suc k → Whole (final_digits (suc k) n)
whole zero n h l =
    let first : digit1_9 (48 + n % 10) ≡ true =
    λ i. le-leb 49 (48 + n % 10) (omega arith) i && le-leb (48 + n % 10) 57 (omega arith) i in
    ((48 + n % 10) ∷ [], [], refl, (48 + n % 10, refl, first), (0, refl))
whole (suc k) n h l =
    whole_more (final_digits (suc k) (n / 10)) _ (whole k (n / 10) (omega arith) (omega arith)) (last_digit n)

as_int : (n r : ℕ) → Places n r → Int (final_digits (suc r) n)
as_int n zero h = go n h.0
  where
    go : (k : ℕ) → k < 10 ^ 1 → Int (final_digits 1 k)
    go zero l = inl refl
    go (suc k) l = inr (whole 0 (suc k) (omega arith) l)
as_int n (suc r) h = inr (whole (suc r) n (⊎_elim (λ e. let z : ⊥ = omega arith in absurd z) (λ l. l) h.1) h.0)

pub decimal_digits : (n : ℕ) → Digits (decimal n)
unfolding decimal
decimal_digits n = digits_all (places_from 20 1 n) n

-- ---- a number up to 65535

module _ (n : ℕ) (few : n ≤ 65535) where
  pub placed : (r : ℕ) × (places_from 20 1 n ≡ suc r) × Places n r
  placed = places 20 0 n (omega arith) (inl refl)

  pub spelt : decimal n ≡ final_digits (suc placed.0) n
  unfolding decimal
  spelt = ap (λ (k : ℕ). final_digits k n) placed.1

  pub decimal_number : Number (decimal n)
  decimal_number =
      let int = subst Int (sym spelt) (as_int n placed.0 placed.2) in (
        [],
        decimal n,
        refl,
        inl refl,
        (decimal n, [], sym (append-nil (decimal n)), int, ([], [], refl, inl refl, inl refl)),
      )

  pub decimal_length : length (decimal n) ≤ 5
  decimal_length =
      let few-places : placed.0 ≤ 4 = ⊎_elim (λ e. omega arith) (λ l. short placed.0 l) placed.2.1 in
      omega (arith, ap (length {A = ℕ}) spelt, digits_length (suc placed.0) n)
    where
      short : (r : ℕ) → 10 ^ r ≤ n → r ≤ 4
      short r l = by_contra r 4 (λ h. omega (arith, pow-le-pow_right {n = 10} (lit< tt) {i = 5} {j = r} h))

  -- "Our numbers bear no sign, fraction or exponent."
  pub decimal_ours : (most : ℕ) → n ≤ most → our_number most (decimal n) ≡ some n
  unfolding our_number
  decimal_ours most h =
      let k = placed.0 in
      let full = ap is_empty spelt ∙ not_empty (final_digits k (n / 10)) (48 + n % 10) in
      let all = ap (any (λ b. not (digit b))) spelt ∙ digits_all (suc k) n in
      let same = ap (number_after 0) spelt ∙ number_of (suc k) n placed.2.0 in
      (λ i. provided (not (full i) && not (all i) && leb (same i) most) (same i))
      ∙ ap (λ (t : Bool). provided t n) (le-leb n most h)
