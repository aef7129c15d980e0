-- What a mask leaves of a number, so many bits from a place up, is the value of the bits that the
-- definitions read there one by one.
use mathlib.Core.Path.{◌≡◌, ◌∙◌, refl, sym, ap, ap₂}
use mathlib.Core.Bool.{Bool, true, false, cond, not}
use mathlib.Core.List.{List, [], ◌∷◌}
use Prim.Native.Nat.{ℕ, zero, suc, ◌+◌, ◌-◌, ◌*◌, ◌/◌, ◌%◌, ◌^◌, ◌<◌}
use native.Mathlib.Nat.{mod-lt, mod-one}
use native.Mathlib.Numerals.{add-one}
use native.Mathlib.Omega.{arith}
use lib.Bits.{and_high, bit_and}
use lib.Dec.{eqb, lit<}
use lib.Pow.{mod-pow-add, pow_pos, shr-shr}
use borrow.Author.Tests.{eq-eqb, ne_eqb}
use Rattle.rules.specs.Heads.{bit}

-- x's bits at the n places from j up
abbrev pub digits : ℕ → ℕ → ℕ → List Bool
digits x j zero = []
digits x j (suc n) = bit x j ∷ digits x (suc j) n

abbrev pub value : List Bool → ℕ
value [] = 0
value (b ∷ bs) = value bs * 2 + cond b 1 0

digit : (r : ℕ) → r < 2 → r ≡ cond (eqb r 1) 1 0
digit zero h = refl
digit (suc zero) h = refl
digit (suc (suc r)) h = let z : ⊥ = omega arith in absurd z

field : (x j n : ℕ) → x / 2 ^ j % 2 ^ n ≡ value (digits x j n)
field x j zero = mod-one (x / 2 ^ j)
field x j (suc n) =
    ap (λ (m : ℕ). x / 2 ^ j % 2 ^ m) (sym (add-one n)) ∙ mod-pow-add (x / 2 ^ j) n 1
    ∙ ap₂ (λ (a b : ℕ). a * 2 + b)
    (ap (λ (y : ℕ). y % 2 ^ n) (shr-shr x j 1 ∙ ap (λ (k : ℕ). x / 2 ^ k) (add-one j)) ∙ field x (suc j) n)
    (digit (x / 2 ^ j % 2) (mod-lt (x / 2 ^ j) (lit< tt)))

-- what a mask of n bits from place j up leaves
pub masked : (x j n : ℕ) → bit_and x (2 ^ (n + j) - 2 ^ j) ≡ value (digits x j n) * 2 ^ j
masked x j n = and_high x n j ∙ ap (λ (y : ℕ). y * 2 ^ j) (field x j n)

-- and of one bit, whether that is set
pub set : (x k : ℕ) → not (eqb (bit_and x (2 ^ (1 + k) - 2 ^ k)) 0) ≡ bit x k
set x k = ap (λ (m : ℕ). not (eqb m 0)) (masked x k 1) ∙ go (bit x k)
  where
    go : (b : Bool) → not (eqb (value (b ∷ []) * 2 ^ k) 0) ≡ b
    go true = ap not (ne_eqb (1 * 2 ^ k) 0 (λ e. omega (arith, pow_pos k)))
    go false = ap not (eq-eqb (0 * 2 ^ k) 0 (omega arith))
