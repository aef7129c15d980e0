-- Numbers end within the text.
-- Assumes nothing.
use Prim.Native.Nat.{ℕ, zero, suc, ◌+◌, ◌≤◌}
use mathlib.Core.Bool.{Bool, cond, false, true}
use mathlib.Core.List.{List, [], ◌∷◌}
use mathlib.Core.Path.{◌≡◌, refl}
use native.Mathlib.Omega.{arith}
use lib.Dec.{eqb}
use lib.ListN.{drop, length, length-drop}
use Rattle.json_reader.proofs.Further.{cond_some}
use Rattle.json_reader.proofs.Places.{taken_in_text}
use Rattle.rules_json.specs.Grammar.{digit, e}
use Rattle.rules_json.specs.Reader.{at, digits, exp_size, frac_size, further, int_size, leading}
use Rattle.rules_json.specs.Reader.{minus_size, number_size, rest_size, sign_size, unsigned_size}

module _ (s : List ℕ) where
  either_within : (t : Bool) (n m : ℕ) → (t ≡ true → n ≤ length s) → (t ≡ false → m ≤ length s) → cond t n m ≤ length s
  either_within true n m h l = h refl
  either_within false n m h l = l refl

  -- some octets where a test holds, and otherwise none
  if_within : (t : Bool) (n : ℕ) → (t ≡ true → n ≤ length s) → cond t n 0 ≤ length s
  if_within t n h = either_within t n 0 h (λ e. omega arith)

  further_within : (n m : ℕ) → m ≤ length (drop n s) → further n m ≤ length s
  further_within n zero h = omega arith
  further_within n (suc m) h = omega (arith, cond_some (suc m) (n + suc m) (λ z. omega arith), length-drop n s)

  -- the text goes past an octet of a class
  past_octet : (class : ℕ → Bool) → class 0 ≡ false → (place : ℕ) → class (at s place) ≡ true → suc place ≤ length s
  past_octet class none place h = taken_in_text s place class none h

leading_within : (class : ℕ → Bool) (s : List ℕ) → leading class s ≤ length s
leading_within class [] = omega arith
leading_within class (b ∷ s) =
    if_within (b ∷ s) (class b) (suc (leading class s)) (λ t. omega (arith, leading_within class s))

digits_within : (s : List ℕ) → digits s ≤ length s
unfolding digits
digits_within s = leading_within digit s

int_within : (s : List ℕ) → int_size s ≤ length s
unfolding int_size
int_within s =
    either_within s (eqb (at s 0) 0x30) 1 (digits s) (past_octet s (λ b. eqb b 0x30) refl 0) (λ t. digits_within s)

frac_within : (s : List ℕ) → frac_size s ≤ length s
unfolding frac_size
frac_within s = if_within s (eqb (at s 0) 0x2E) _ (λ t. further_within s 1 _ (digits_within (drop 1 s)))

exp_within : (s : List ℕ) → exp_size s ≤ length s
unfolding exp_size
exp_within s =
    let head = 1 + sign_size (drop 1 s) in
    if_within s (e (at s 0)) _ (λ t. further_within s head _ (digits_within (drop head s)))

rest_within : (s : List ℕ) → rest_size s ≤ length s
rest_within s = omega (arith, frac_within s, exp_within (drop (frac_size s) s), length-drop (frac_size s) s)

unsigned_within : (s : List ℕ) → unsigned_size s ≤ length s
unsigned_within s =
    either_within s (eqb (int_size s) 0) 0 (int_size s + rest_size (drop (int_size s) s)) (λ t. omega arith)
    (λ t. omega (arith, int_within s, rest_within (drop (int_size s) s), length-drop (int_size s) s))

pub number_within : (s : List ℕ) → number_size s ≤ length s
unfolding number_size
number_within s = further_within s (minus_size s) _ (unsigned_within (drop (minus_size s) s))
