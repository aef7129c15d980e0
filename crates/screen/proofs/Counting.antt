-- Our numbers at the head of a text and at a place.
-- Assumes nothing.
use Prim.Native.Nat.{ℕ, zero, suc, ◌+◌, ◌-◌, ◌≤◌}
use mathlib.Core.Bool.{Bool, cond, false, false≢true, not, true, ◌&&◌, ◌||◌}
use mathlib.Core.List.{List, [], ◌∷◌}
use mathlib.Core.Option.{none}
use mathlib.Core.Path.{◌≡◌, ap, refl, sym, ◌∙◌}
use native.Mathlib.Omega.{arith}
use borrow.Author.Tests.{eqb-true, ne_eqb}
use lib.Dec.{eqb, leb}
use lib.ListN.{drop, length, length-drop, take}
use Rattle.digits.proofs.Counted.{no_digit, ours_up_to}
use Rattle.json_reader.proofs.Nested.{scalar_value}
use Rattle.json_reader.proofs.Places.{first_behind, taken_in_text}
use Rattle.json_reader.proofs.Read.{none_read, some_read}
use Rattle.std.specs.Prelude.{None, Some}
use Rattle.rules.specs.Screen.{and_then, number_after, number_of, number_text, our_number, provided}
use Rattle.rules.specs.Words.{any}
use Rattle.rules_json.specs.Grammar.{digit}
use Rattle.rules_json.specs.Reader.{at, number_size, past, scalar_said, scalar_size, value_said, value_size}
use Rattle.rules_json.specs.Tree.{Member, Tree, array, number, object, scalar, string, false_literal, null_literal}
use Rattle.rules_json.specs.Tree.{true_literal}
use Rattle.screen.proofs.Within.{number_within}
use Rattle.screen.specs.Places.{number_here}

-- ---- the number at the head of a text

other_first : (most n : ℕ) (s : List ℕ) → digit (at s 0) ≡ false → our_number most (take n s) ≡ none
unfolding our_number
other_first most zero s h = refl
other_first most (suc n) [] h = refl
other_first most (suc n) (b ∷ s) h =
    ap (λ d. provided (not (not d || any no_digit (take n s)) && leb (number_after 0 (b ∷ take n s)) most)
    (number_after 0 (b ∷ take n s))) h

other_kind : (most : ℕ) (quote f n t : Bool) (units text : List ℕ) → our_number most text ≡ none
    → our_number most (number_text (cond quote (string units)
    (cond f false_literal (cond n null_literal (cond t true_literal (number text)))))) ≡ none
unfolding our_number
other_kind most true f n t units text h = refl
other_kind most false true n t units text h = refl
other_kind most false false true t units text h = refl
other_kind most false false false true units text h = refl
other_kind most false false false false units text h = h

-- what begins with another octet than a digit is no number of ours
pub no_number : (most : ℕ) (s : List ℕ) → digit (at s 0) ≡ false → our_number most (number_text (scalar_said s)) ≡ none
unfolding scalar_said
no_number most s h =
    other_kind most (eqb (at s 0) 0x22) (eqb (at s 0) 0x66) (eqb (at s 0) 0x6E) (eqb (at s 0) 0x74) _ _
    (other_first most (number_size s) s h)

-- what a value's number is, is told by the scalar that begins there
pub number_said_lem : (most deep : ℕ) (s : List ℕ)
    → number_of most (value_said (suc deep) s) ≡ our_number most (number_text (scalar_said s))
unfolding value_said
number_said_lem most deep s = by_head (eqb (at s 0) 0x7B) (eqb (at s 0) 0x5B) refl refl _ _
  where
    bracket : (b : ℕ) → digit b ≡ false → eqb (at s 0) b ≡ true → our_number most (number_text (scalar_said s)) ≡ none
    bracket b h e = no_number most s (ap digit (eqb-true (at s 0) b e) ∙ h)

    by_head : (t u : Bool) → eqb (at s 0) 0x7B ≡ t → eqb (at s 0) 0x5B ≡ u
        → (members : List (Member (Tree deep))) (values : List (Tree deep))
        → number_of most (cond t (object members) (cond u (array values) (scalar (scalar_said s))))
        ≡ our_number most (number_text (scalar_said s))
    by_head true u e f members values = sym (bracket 0x7B refl e)
    by_head false true e f members values = sym (bracket 0x5B refl f)
    by_head false false e f members values = refl

-- an octet of a class is none that is not of it
pub apart : (class : ℕ → Bool) (a b : ℕ) → class a ≡ true → class b ≡ false → a ≡ b → ⊥
apart class a b h n z = false≢true (sym n ∙ ap class (sym z) ∙ h)

pub other_than : (class : ℕ → Bool) (a : ℕ) → class a ≡ true → (b : ℕ) → class b ≡ false → eqb a b ≡ false
other_than class a h b n = ne_eqb a b (apart class a b h n)

module _ (s : List ℕ) (h : digit (at s 0) ≡ true) where
  other : (b : ℕ) → digit b ≡ false → eqb (at s 0) b ≡ false
  other = other_than digit (at s 0) h

  digit_size : scalar_size s ≡ number_size s
  unfolding scalar_size
  digit_size = rw (other 0x22 refl, other 0x66 refl, other 0x6E refl, other 0x74 refl)

  pub digit_text_lem : number_text (scalar_said s) ≡ take (number_size s) s
  unfolding scalar_said
  digit_text_lem = rw (other 0x22 refl, other 0x66 refl, other 0x6E refl, other 0x74 refl)

-- ---- the number at a place

-- a value's number, up to a most
pub number_up_to : (most deep : ℕ) (s : List ℕ) → most ≤ 65535
    → number_of most (value_said (suc deep) s) ≡ and_then (number_here s) (λ n. provided (leb n most) n)
unfolding number_here
number_up_to most deep s h = number_said_lem most deep s ∙ ours_up_to most (number_text (scalar_said s)) h

module _ (place : ℕ) (text : List ℕ) where
  pub number_none : digit (at text place) ≡ false → number_here (drop place text) ≡ none
  unfolding number_here
  number_none h = no_number 65535 (drop place text) (ap digit (first_behind text place) ∙ h)

  module _ (h : digit (at text place) ≡ true) where
    pub head_digit : digit (at (drop place text) 0) ≡ true
    head_digit = ap digit (first_behind text place) ∙ h

    -- what begins with a digit is a number
    pub number_value_lem : (deep : ℕ) → value_size deep (drop place text) ≡ number_size (drop place text)
    number_value_lem deep =
        scalar_value text place deep (apart digit _ _ h refl) (apart digit _ _ h refl)
        ∙ digit_size (drop place text) head_digit

    pub number_unread : None ≡ past place (value_size 0 (drop place text)) → number_here (drop place text) ≡ none
    unfolding number_here our_number
    number_unread e =
        let size = sym (number_value_lem 0) ∙ none_read place (value_size 0 (drop place text)) e in
        ap (our_number 65535) (digit_text_lem (drop place text) head_digit ∙ ap (λ n. take n (drop place text)) size)

    module _ (end : ℕ) (e : Some end ≡ past place (value_size 0 (drop place text))) where
      sized : end ≡ place + number_size (drop place text)
      sized = omega (arith, some_read place (value_size 0 (drop place text)) end e, number_value_lem 0)

      pub number_ends : (place ≤ end) × (end ≤ length text)
      number_ends = (
        omega (arith, sized),
        omega (
          arith,
          sized,
          number_within (drop place text),
          length-drop place text,
          taken_in_text text place digit refl h,
        ),
      )

      pub number_some : number_here (drop place text) ≡ our_number 65535 (take (end - place) (drop place text))
      unfolding number_here
      number_some =
          let size : end - place ≡ number_size (drop place text) = omega (arith, sized) in
          ap (our_number 65535)
          (digit_text_lem (drop place text) head_digit ∙ ap (λ n. take n (drop place text)) (sym size))
