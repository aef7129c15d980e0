-- A number of one octet: nothing stands behind its digit with which it would go on, or it is a number of ours that is
-- at most 1.
-- Assumes nothing.
use Prim.Native.Nat.{ℕ, zero, suc, ◌+◌, ◌-◌, ◌*◌, ◌≤◌}
use mathlib.Core.Bool.{Bool, false, false≢true, not, true, ◌&&◌, ◌||◌}
use mathlib.Core.List.{List, [], ◌∷◌}
use mathlib.Core.Option.{some}
use mathlib.Core.Path.{◌≡◌, ap, refl, sym, ◌∙◌}
use native.Mathlib.Omega.{arith}
use borrow.Author.Tests.{le-leb}
use lib.Dec.{eqb, leb}
use lib.ListN.{drop, take}
use Rattle.chains.proofs.Chains.{neither}
use Rattle.digits.proofs.Counted.{grows, no_digit}
use Rattle.json_reader.proofs.Cases.{by_test, within_true}
use Rattle.json_reader.proofs.Places.{first_behind, octet_behind}
use Rattle.rules.specs.Screen.{number_after, our_number, provided}
use Rattle.rules.specs.Words.{any}
use Rattle.rules_json.specs.Grammar.{blank, digit, e}
use Rattle.rules_json.specs.Reader.{at, blanks, digits, exp_size, frac_size, int_size, leading, number_size}
use Rattle.screen.proofs.Counting.{digit_text_lem, head_digit, no_number, number_none, number_some}
use Rattle.screen.proofs.Counting.{number_unread, other_than}
use Rattle.screen.proofs.Within.{number_within}
use Rattle.screen.specs.Places.{goes_on_with, number_here}

-- ---- what stands behind the digit

none_leading : (class : ℕ → Bool) (s : List ℕ) → class (at s 0) ≡ false → leading class s ≡ 0
none_leading class [] h = refl
none_leading class (b ∷ s) h = rw h

-- a whole part of one octet, with neither a fraction nor an exponent behind it
whole_alone : (b : ℕ) (s : List ℕ) → digit b ≡ true → int_size (b ∷ s) ≡ 1 → eqb (at s 0) 0x2E ≡ false
    → e (at s 0) ≡ false → number_size (b ∷ s) ≡ 1
unfolding number_size frac_size exp_size
whole_alone b s first one point exponent = rw (other_than digit b first 0x2D refl, one, point, exponent)

int_alone : (b : ℕ) (s : List ℕ) → digit b ≡ true → digit (at s 0) ≡ false → int_size (b ∷ s) ≡ 1
unfolding int_size digits
int_alone b s first h = rw (first, none_leading digit s h) (by_test (eqb b 0x30) (λ t. rw t) (λ t. rw t))

-- where the number does not go on, it is one octet
digit_alone : (s : List ℕ) → digit (at s 0) ≡ true → goes_on_with (at s 1) ≡ false → number_size s ≡ 1
digit_alone [] first h = absurd (false≢true first)
digit_alone (b ∷ s) first h =
    let (two, exponent) = neither _ (e (at s 0)) h in
    let (other, point) = neither _ _ two in
    whole_alone b s first (int_alone b s first other) point exponent

-- what stands behind blanks tells it too: none of them makes a number go on
pub ends_behind : (text : List ℕ) (past next octet : ℕ) → next ≡ past + blanks (drop past text) → octet ≡ at text next
    → goes_on_with octet ≡ false → goes_on_with (at text past) ≡ false
unfolding blanks
ends_behind text past next octet skips is h =
    by_test (goes_on_with (at text past)) (λ on. absurd (false≢true (sym h ∙ ap goes_on_with (none_between on) ∙ on)))
    (λ t. t)
  where
    none_between : goes_on_with (at text past) ≡ true → octet ≡ at text past
    none_between on =
        let other = other_than goes_on_with (at text past) on in
        let no_blank : blank (at text past) ≡ false =
        rw (other 0x20 refl, other 0x09 refl, other 0x0A refl, other 0x0D refl) in
        let none = none_leading blank (drop past text) (ap blank (first_behind text past) ∙ no_blank) in
        is ∙ ap (at text) (omega arith)

-- ---- the number of one digit

pub number_alone : (s : List ℕ) → digit (at s 0) ≡ true → number_size s ≡ 1 → number_here s ≡ some (at s 0 - 48)
unfolding number_here our_number
number_alone [] first one = absurd (false≢true first)
number_alone (b ∷ s) first one =
    let (least, most) = within_true 0x30 0x39 b first in
    ap (our_number 65535) (digit_text_lem (b ∷ s) first ∙ ap (λ n. take n (b ∷ s)) one)
    ∙ rw (first, le-leb (10 * 0 + (b - 48)) 65535 (omega arith)) (ap some (omega arith))

-- ---- at a place

module _ (place : ℕ) (text : List ℕ) (begins : digit (at text place) ≡ true) where
  pub alone_at : goes_on_with (at text (place + 1)) ≡ false → number_size (drop place text) ≡ 1
  alone_at h =
      digit_alone (drop place text) (head_digit place text begins) (ap goes_on_with (octet_behind text place 1) ∙ h)

  pub number_at : number_size (drop place text) ≡ 1 → number_here (drop place text) ≡ some (at text place - 48)
  number_at one =
      number_alone (drop place text) (head_digit place text begins) one
      ∙ ap (λ b. some (b - 48)) (first_behind text place)

  pub one_digit : goes_on_with (at text (place + 1)) ≡ false
      → number_here (drop place text) ≡ some (at text place - 48)
  one_digit h = number_at (alone_at h)

-- ---- a number that is at most 1

-- behind a zero no digit is taken
zero_alone : (c : ℕ) (rest : List ℕ) → digit c ≡ true → number_size (0x30 ∷ c ∷ rest) ≡ 1
unfolding int_size
zero_alone c rest h =
    let other = other_than digit c h in
    whole_alone 0x30 (c ∷ rest) refl refl (other 0x2E refl) (rw (other 0x65 refl, other 0x45 refl))

-- two octets or more: the second is a digit, and the first a zero
two_octets : (b c m : ℕ) (rest : List ℕ) → digit b ≡ true → our_number 65535 (b ∷ c ∷ rest) ≡ some m → m ≤ 1
    → (digit c ≡ true) × (b ≡ 0x30)
unfolding our_number
two_octets b c m rest first h l =
    let value = number_after 0 (b ∷ c ∷ rest) in
    let (second, small) = by_tests (digit b) (digit c) (any no_digit rest) (leb value 65535) value h in
    (second, omega (arith, small, l, grows (number_after 0 (b ∷ c ∷ [])) rest, (within_true 0x30 0x39 b first).0))
  where
    by_tests : (d e other fits : Bool) (n : ℕ) → provided (not (not d || (not e || other)) && fits) n ≡ some m
        → (e ≡ true) × (n ≡ m)
    by_tests false e other fits n h = absurd (cc)
    by_tests true false other fits n h = absurd (cc)
    by_tests true true true fits n h = absurd (cc)
    by_tests true true false false n h = absurd (cc)
    by_tests true true false true n h = (refl, cc)

one_octet : (n m : ℕ) (s : List ℕ) → number_size s ≡ n → digit (at s 0) ≡ true
    → our_number 65535 (take n s) ≡ some m → m ≤ 1 → n ≡ 1
unfolding our_number
one_octet zero m s size first h l = absurd (cc)
one_octet (suc zero) m s size first h l = refl
one_octet (suc (suc n)) m [] size first h l = absurd (omega (arith, number_within []))
one_octet (suc (suc n)) m (b ∷ []) size first h l = absurd (omega (arith, number_within (b ∷ [])))
one_octet (suc (suc n)) m (b ∷ c ∷ s) size first h l =
    let (second, is) = two_octets b c m (take n s) first h l in
    sym size ∙ ap (λ d. number_size (d ∷ c ∷ s)) is ∙ zero_alone c s second

module _ (s : List ℕ) (n : ℕ) (is : number_here s ≡ some n) where
  pub number_begins : digit (at s 0) ≡ true
  unfolding number_here
  number_begins =
      by_test (digit (at s 0)) (λ t. t) (λ t. absurd (let none = no_number 65535 s t in cc))

  pub small_alone : n ≤ 1 → number_size s ≡ 1
  unfolding number_here
  small_alone small =
      one_octet (number_size s) n s refl number_begins
      (sym (ap (our_number 65535) (digit_text_lem s number_begins)) ∙ is) small

-- what number rests on
pub ruleset numbers = (number_none, number_unread, number_some, one_digit)
