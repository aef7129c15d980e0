-- A number's fewest decimal digits are the definition's, and how many they are.
use mathlib.Core.Path.{◌≡◌, refl, sym, ap, ap₂, ◌∙◌}
use mathlib.Core.Bool.{Bool, true, false, cond}
use mathlib.Core.Logic.{⊎_elim}
use mathlib.Core.List.{List, [], ◌∷◌, ◌++◌}
use Prim.Native.Nat.{ℕ, zero, suc, ◌+◌, ◌-◌, ◌/◌, ◌%◌, ◌^◌, ◌≤◌, ◌<◌}
use native.Mathlib.Nat.{add-suc, add-zero, suc-add, eq-or-lt_of_le, pow-le-pow_right}
use native.Mathlib.Omega.{arith}
use lib.Dec.{lit<, ltb}
use lib.ListN.{length, length-append}
use borrow.Author.Tests.{lt-ltb, ltb-true, ltb-false}
use Rattle.io.specs.Digits.{IsDigitCount, last_digits}
use Rattle.rules.specs.Printer.{decimal, final_digits, places_from}

-- what holds in both cases of a test
pub by_test : {A : Type 0} (P : A → Type 0) (t : Bool) {a b : A} → (t ≡ true → P a) → (t ≡ false → P b) → P (cond t a b)
by_test P true f g = f refl
by_test P false f g = g refl

powers : (i j : ℕ) → i ≤ j → 10 ^ i ≤ 10 ^ j
powers i j h = pow-le-pow_right (lit< tt) h

-- n has more than `least` digits
above : (least n k : ℕ) → least ≤ k → n < 10 ^ k → 10 ^ least ≤ n → suc least ≤ k
above least n k h s t =
    ⊎_elim (λ e. let z : ⊥ = omega (arith, ap (λ j. 10 ^ j) e) in absurd z) (λ less. less) (eq-or-lt_of_le h)

-- n has no more than `least` digits
only : (n least r : ℕ) → IsDigitCount 10 least n r → n < 10 ^ least → r ≡ least
only n least r f s =
    ⊎_elim (λ e. sym e)
    (λ h. let z : ⊥ = omega (arith, f.2 h, powers least (r - 1) (omega arith)) in absurd z)
    (eq-or-lt_of_le f.0)

more_than : (n least r : ℕ) → IsDigitCount 10 least n r → 10 ^ least ≤ n → IsDigitCount 10 (suc least) n r
more_than n least r f s = (above least n r f.0 f.1 s, f.1, λ h. f.2 (omega arith))

fewest : (more least n r : ℕ) → n < 10 ^ (least + more) → IsDigitCount 10 least n r → r ≡ places_from more least n
fewest zero least n r h f = only n least r f (rw add-zero at h)
fewest (suc more) least n r h f =
    by_test (λ k. r ≡ k) (ltb n (10 ^ least)) (λ t. only n least r f (ltb-true n (10 ^ least) t))
    (λ t.
    fewest more (suc least) n r (rw (add-suc, ← suc-add) at h) (more_than n least r f (ltb-false n (10 ^ least) t)))

-- the kit's digits are letters from ten on, and a decimal one is not
same_digits : (k n : ℕ) → last_digits 10 k n ≡ final_digits k n
same_digits zero n = refl
same_digits (suc k) n =
    ap₂ (λ (l : List ℕ) (b : Bool). l ++ (cond b (48 + n % 10) (87 + n % 10) ∷ []))
    (same_digits k (n / 10))
    (lt-ltb (n % 10) 10 (omega arith))

-- So a u64's digits, as `io::decimal` writes them, are the definition's.
pub decimal_is : (n r : ℕ) → n < 10 ^ 20 → IsDigitCount 10 1 n r → last_digits 10 r n ≡ decimal n
unfolding decimal
decimal_is n r h f = same_digits r n ∙ ap (λ k. final_digits k n) (fewest 20 1 n r (omega arith) f)

digits_length : (k n : ℕ) → length (final_digits k n) ≡ k
digits_length zero n = refl
digits_length (suc k) n = rw length-append (omega (arith, digits_length k (n / 10)))

at_most : (more least n k : ℕ) → least ≤ k → n < 10 ^ k → places_from more least n ≤ k
at_most zero least n k h s = h
at_most (suc more) least n k h s =
    by_test (λ r. r ≤ k) (ltb n (10 ^ least)) (λ t. h)
    (λ t. at_most more (suc least) n k (above least n k h s (ltb-false n (10 ^ least) t)) s)

-- at most k digits below ten to the k
pub decimal_most : (n k : ℕ) → 1 ≤ k → n < 10 ^ k → length (decimal n) ≤ k
unfolding decimal
decimal_most n k h s = rw digits_length (at_most 20 1 n k h s)

-- and one below ten, the number itself
pub decimal_digit : (n : ℕ) → n < 10 → decimal n ≡ (48 + n) ∷ []
unfolding decimal
decimal_digit n s =
    let last : n % 10 ≡ n = omega arith in
    ap (λ (b : Bool). final_digits (cond b 1 (places_from 19 2 n)) n) (lt-ltb n 10 s)
    ∙ ap (λ (d : ℕ). (48 + d) ∷ []) last

pub decimal_one : (n : ℕ) → n < 10 → length (decimal n) ≡ 1
decimal_one n s = ap length (decimal_digit n s)
