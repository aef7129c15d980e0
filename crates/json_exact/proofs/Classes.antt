-- Classes of octets, compared one octet after the other: what follows for an octet from the class that it is of.
-- Assumes nothing.
use Prim.Native.Nat.{ℕ, zero, suc, ◌<◌}
use native.Mathlib.Decide.{ℕ_discrete}
use native.Mathlib.Omega.{arith}
use mathlib.Core.Bool.{Bool, true, false, not, ◌&&◌, ◌||◌}
use mathlib.Core.Logic.{⊎_elim}
use mathlib.Core.Path.{◌≡◌, ap, subst, ◌∙◌}
use borrow.Author.Tests.{eqb-true, leb-true, not-true}
use lib.Dec.{eqb, leb}
use Rattle.rules_json.specs.Abnf.{within}
use Rattle.rules_json.specs.Grammar.{blank, digit, digit1_9, e}
use Rattle.json_exact.proofs.Splits.{both, either}

abbrev all_below : ℕ → (ℕ → Bool) → Bool
all_below zero p = true
all_below (suc n) p = p n && all_below n p

all_below_lem : (n : ℕ) (p : ℕ → Bool) → all_below n p ≡ true → (b : ℕ) → b < n → p b ≡ true
all_below_lem zero p h b less = let z : ⊥ = omega arith in absurd z
all_below_lem (suc n) p h b less =
    let (here, below) = both (p n) (all_below n p) h in
    go (ℕ_discrete b n) here (λ other. all_below_lem n p below b (omega (arith, other)))
  where
    go : Dec (b ≡ n) → p n ≡ true → ((b ≡ n → ⊥) → p b ≡ true) → p b ≡ true
    go (yes same) here below = ap p same ∙ here
    go (no other) here below = below other

-- an octet of p, which has no octets beyond ASCII, is of q, or is not
module _ (p q : ℕ → Bool) (bound : (b : ℕ) → p b ≡ true → b < 128) where
  pub implied : all_below 128 (λ b. not (p b) || q b) ≡ true → (b : ℕ) → p b ≡ true → q b ≡ true
  implied h b is =
      subst (λ (t : Bool). (not t || q b) ≡ true) is (all_below_lem 128 (λ b. not (p b) || q b) h b (bound b is))

  pub apart : all_below 128 (λ b. not (p b) || not (q b)) ≡ true → (b : ℕ) → p b ≡ true → q b ≡ false
  apart h b is =
      let never = all_below_lem 128 (λ b. not (p b) || not (q b)) h b (bound b is) in
      not-true (q b) (subst (λ (t : Bool). (not t || not (q b)) ≡ true) is never)

-- ---- the bounds

abbrev pub Ascii : (ℕ → Bool) → Type 0
Ascii p = (b : ℕ) → p b ≡ true → b < 128

or_ascii : (p q : ℕ → Bool) → Ascii p → Ascii q → Ascii (λ b. p b || q b)
or_ascii p q hp hq b h = ⊎_elim (hp b) (hq b) (either (p b) (q b) h)

eq_ascii : (k : ℕ) → k < 128 → Ascii (λ b. eqb b k)
eq_ascii k less b h = let e = eqb-true b k h in omega arith

within_ascii : (least most : ℕ) → most < 128 → Ascii (within least most)
within_ascii least most less b h = let below = leb-true b most (both (leb least b) (leb b most) h).1 in omega arith

pub ascii_digit : Ascii digit
ascii_digit = within_ascii 0x30 0x39 (omega arith)

pub ascii_digit1_9 : Ascii digit1_9
ascii_digit1_9 = within_ascii 0x31 0x39 (omega arith)

pub ascii_e : Ascii e
ascii_e = or_ascii _ _ (eq_ascii 0x65 (omega arith)) (eq_ascii 0x45 (omega arith))

pub ascii_blank : Ascii blank
ascii_blank =
    or_ascii _ _ (or_ascii _ _ (or_ascii _ _ (eq_ascii 0x20 (omega arith)) (eq_ascii 0x09 (omega arith)))
    (eq_ascii 0x0A (omega arith))) (eq_ascii 0x0D (omega arith))

-- the first octet of a number
abbrev pub starts : ℕ → Bool
starts b = eqb b 0x2D || digit b

pub ascii_starts : Ascii starts
ascii_starts = or_ascii _ _ (eq_ascii 0x2D (omega arith)) ascii_digit
