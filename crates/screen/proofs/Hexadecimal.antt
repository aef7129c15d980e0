-- Hexadecimal digits of either case: each way through `stands_for`, and four of them that say a number of ASCII.
-- Assumes nothing.
use Prim.Native.Nat.{ℕ, ◌+◌, ◌-◌, ◌*◌, ◌/◌, ◌%◌, ◌≤◌, ◌<◌}
use mathlib.Core.Bool.{Bool, cond, false, true, ◌&&◌, ◌||◌}
use mathlib.Core.List.{List}
use mathlib.Core.Path.{◌≡◌, ap, refl, subst, sym, ◌∙◌}
use native.Mathlib.Omega.{arith}
use borrow.Author.Tests.{eq-eqb, eqb-true, ne_eqb}
use lib.Dec.{eqb}
use Rattle.json_reader.proofs.Cases.{all_four, both, within_true}
use Rattle.json_reader.proofs.CharacterSizes.{four}
use Rattle.json_exact.proofs.Octets.{above, in_bounds}
use Rattle.rules_json.specs.Abnf.{within}
use Rattle.rules_json.specs.Grammar.{four_hex, hex_value, hexdig}
use Rattle.rules_json.specs.Reader.{at}
use Rattle.screen.specs.Letters.{stands_for}

-- ---- one digit

-- an octet is the digit of a number
data Digit (b n : ℕ) : Type 0 where
  numeral : n ≤ 9 → b ≡ 0x30 + n → Digit b n
  upper : 10 ≤ n → n ≤ 15 → b ≡ 0x41 + (n - 10) → Digit b n
  lower : 10 ≤ n → n ≤ 15 → b ≡ 0x61 + (n - 10) → Digit b n

small : {b n : ℕ} → Digit b n → n ≤ 15
small (numeral m e) = omega arith
small (upper l m e) = m
small (lower l m e) = m

zero_digit : {b n : ℕ} → Digit b n → n ≡ 0 → b ≡ 0x30
zero_digit (numeral m e) z = omega arith
zero_digit (upper l m e) z = absurd (omega arith)
zero_digit (lower l m e) z = absurd (omega arith)

-- an octet of HEXDIG is the digit of its value
valued : (b : ℕ) → hexdig b ≡ true → Digit b (hex_value b)
valued b h =
    by_class (within 0x30 0x39 b) (within 0x41 0x46 b) (within 0x61 0x66 b) (within_true 0x30 0x39 b)
    (within_true 0x41 0x46 b) (within_true 0x61 0x66 b) h
  where
    by_class : (t u v : Bool) → (t ≡ true → (0x30 ≤ b) × (b ≤ 0x39)) → (u ≡ true → (0x41 ≤ b) × (b ≤ 0x46))
        → (v ≡ true → (0x61 ≤ b) × (b ≤ 0x66)) → t || u || v ≡ true
        → Digit b (cond t (b - 0x30) (cond u (b - 0x37) (b - 0x57)))
    by_class true u v f g k h = let (l, m) = f refl in numeral (omega arith) (omega arith)
    by_class false true v f g k h = let (l, m) = g refl in upper (omega arith) (omega arith) (omega arith)
    by_class false false v f g k h = let (l, m) = k h in lower (omega arith) (omega arith) (omega arith)

stands : {b n : ℕ} → Digit b n → stands_for b n ≡ true
unfolding stands_for
stands {b} {n} (numeral m e) = rw (in_bounds 0x30 0x39 b (omega arith)) (eq-eqb (b - 0x30) n (omega arith))
stands {b} {n} (upper l m e) =
    rw (above 0x30 0x39 b (omega arith), in_bounds 0x41 0x46 b (omega arith)) (eq-eqb (b - 0x37) n (omega arith))
stands {b} {n} (lower l m e) =
    rw (above 0x30 0x39 b (omega arith), above 0x41 0x46 b (omega arith), in_bounds 0x61 0x66 b (omega arith))
    (eq-eqb (b - 0x57) n (omega arith))

stood : (b n : ℕ) → stands_for b n ≡ true → Digit b n
unfolding stands_for
stood b n h =
    let (is, value) = both (hexdig b) (eqb (hex_value b) n) h in
    subst (Digit b) (eqb-true (hex_value b) n value) (valued b is)

-- ---- each way through `stands_for`

-- two tests hold together
alike : (t u : Bool) → (t ≡ true → u ≡ true) → (u ≡ true → t ≡ true) → t ≡ u
alike true u f g = sym (f refl)
alike false true f g = g refl
alike false false f g = refl

module _ (b n : ℕ) where
  pub stands_below : n < 10 → eqb b (0x30 + n) ≡ stands_for b n
  stands_below l =
      alike _ _ (λ t. stands (numeral (omega arith) (eqb-true b (0x30 + n) t))) (λ t. back (stood b n t))
    where
      back : Digit b n → eqb b (0x30 + n) ≡ true
      back (numeral m e) = eq-eqb b (0x30 + n) e
      back (upper k m e) = absurd (omega arith)
      back (lower k m e) = absurd (omega arith)

  pub stands_above : 10 ≤ n → n ≤ 15 → eqb b (0x41 + (n - 10)) || eqb b (0x61 + (n - 10)) ≡ stands_for b n
  stands_above l m =
      alike _ _ (λ t. either (eqb b (0x41 + (n - 10))) (eqb-true b (0x41 + (n - 10))) t) (λ t. back (stood b n t))
    where
      either : (t : Bool) → (t ≡ true → b ≡ 0x41 + (n - 10)) → t || eqb b (0x61 + (n - 10)) ≡ true
          → stands_for b n ≡ true
      either true f h = stands (upper l m (f refl))
      either false f h = stands (lower l m (eqb-true b (0x61 + (n - 10)) h))

      back : Digit b n → eqb b (0x41 + (n - 10)) || eqb b (0x61 + (n - 10)) ≡ true
      back (numeral k e) = absurd (omega arith)
      back (upper k j e) = ap (λ t. t || eqb b (0x61 + (n - 10))) (eq-eqb b (0x41 + (n - 10)) e)
      back (lower k j e) =
          (λ i. ne_eqb b (0x41 + (n - 10)) (λ z. omega arith) i || eq-eqb b (0x61 + (n - 10)) e i)

-- ---- four digits that say a number of ASCII

-- what the four behind \u say
abbrev pub number : List ℕ → ℕ
number s = four_hex (at s 2) (at s 3) (at s 4) (at s 5)

-- the first two are 0
pub record Said (b : ℕ) (s : List ℕ) : Type 0 where
  pub first : at s 2 ≡ 0x30
  pub second : at s 3 ≡ 0x30
  pub third : stands_for (at s 4) (b / 16) ≡ true
  pub fourth : stands_for (at s 5) (b % 16) ≡ true

module _ (b : ℕ) (s : List ℕ) where
  pub four_said : b ≤ 0x7F → four s ≡ true → number s ≡ b → Said b s
  four_said ascii h e =
      let (h2, h3, h4, h5) = all_four (hexdig (at s 2)) (hexdig (at s 3)) (hexdig (at s 4)) (hexdig (at s 5)) h in
      by_value _ _ _ _ (valued _ h2) (valued _ h3) (valued _ h4) (valued _ h5) e
    where
      by_value : (w x y z : ℕ) → Digit (at s 2) w → Digit (at s 3) x → Digit (at s 4) y → Digit (at s 5) z
          → ((w * 16 + x) * 16 + y) * 16 + z ≡ b → Said b s
      by_value w x y z d2 d3 d4 d5 e =
          let hw = small d2 in
          let hx = small d3 in
          let hy = small d4 in
          let hz = small d5 in
          record {
            first = zero_digit d2 (omega arith);
            second = zero_digit d3 (omega arith);
            third = ap (stands_for (at s 4)) (omega arith) ∙ stands d4;
            fourth = ap (stands_for (at s 5)) (omega arith) ∙ stands d5;
          }

  pub said_four : Said b s → (four s ≡ true) × (number s ≡ b)
  unfolding stands_for
  said_four d =
      let (h4, v4) = both (hexdig (at s 4)) _ d.third in
      let (h5, v5) = both (hexdig (at s 5)) _ d.fourth in
      let e4 = eqb-true (hex_value (at s 4)) (b / 16) v4 in
      let e5 = eqb-true (hex_value (at s 5)) (b % 16) v5 in
      let sum : ((0 * 16 + 0) * 16 + b / 16) * 16 + b % 16 ≡ b = omega arith in (
        (λ i. hexdig (d.first i) && hexdig (d.second i) && h4 i && h5 i),
        (λ i. ((hex_value (d.first i) * 16 + hex_value (d.second i)) * 16 + e4 i) * 16 + e5 i) ∙ sum,
      )
