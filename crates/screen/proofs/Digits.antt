-- A track: five digits, one after the other.
-- Assumes nothing.
use Prim.Native.Nat.{ℕ, ◌+◌, ◌-◌, ◌≤◌, ◌<◌}
use mathlib.Core.Bool.{Bool, false, true}
use mathlib.Core.List.{List, [], ◌∷◌, ◌++◌}
use mathlib.Core.Option.{Option, none, some}
use mathlib.Core.Path.{◌≡◌, ap, refl, sym, subst, ◌∙◌}
use native.Mathlib.Numerals.{add-one}
use native.Mathlib.Omega.{arith}
use borrow.Author.Tests.{eq-eqb, le-leb, leb-true, ne_eqb}
use lib.Dec.{eqb, leb}
use lib.ListN.{drop, length, length-set, replicate, set, take}
use lib.Seq.{length-take-le, take_all, take-suc-set}
use Rattle.json_reader.proofs.Bracketed.{Item}
use Rattle.json_reader.proofs.Cases.{by_test, within_true}
use Rattle.json_reader.proofs.Places.{first_behind}
use Rattle.json_reader.proofs.Read.{past_some}
use Rattle.std.specs.Prelude.{None, Some}
use Rattle.rules.specs.Screen.{and_then, number_of, provided}
use Rattle.rules_json.specs.Grammar.{digit}
use Rattle.rules_json.specs.Reader.{at, blanks, number_size, value_said, value_size}
use Rattle.screen.proofs.Counting.{number_up_to, number_value_lem}
use Rattle.screen.proofs.Listed.{Listed, closed, given, gives_all, gives_none, gives_too_many}
use Rattle.screen.proofs.Listed.{list_begins, list_empty, list_ends, list_on, no_list}
use Rattle.screen.proofs.Single.{alone_at, ends_behind, number_alone, number_at, number_begins, small_alone}
use Rattle.screen.specs.Places.{five_at, five_of, goes_on_with, number_here}

module _ (text : List ℕ) (start : ℕ) where
  -- the digits that the value gives
  abbrev pub five : Option (List ℕ)
  five = given (λ n. eqb n 5) 5 (number_of 1) text start

  five_by : {g : Option (List ℕ)} → five ≡ g → five_at text start ≡ five_of (start + value_size 6 (drop start text)) g
  unfolding five_at
  five_by e = ap (five_of (start + value_size 6 (drop start text))) e

  pub no_five : five ≡ none → None ≡ five_at text start
  no_five e = sym (five_by e)

  pub other_form : (at text start ≡ 0x5B → ⊥) → five ≡ none
  other_form = no_list (λ n. eqb n 5) 5 (number_of 1) text start

  pub no_digits :
      at text start ≡ 0x5B → (place found : ℕ) → place ≡ start + 1 + blanks (drop (start + 1) text)
      → found ≡ at text place
      → found ≡ 0x5D → five ≡ none
  no_digits is place found p o e = list_empty (λ n. eqb n 5) 5 (number_of 1) text start is place found p o e refl

  -- The digits so far are gathered, and count as many.
  pub record Digits (place : ℕ) (digits : List ℕ) (count : ℕ) : Type 0 where
    pub fits : count ≤ 5
    pub long : length digits ≡ 5
    pub listed : Listed (λ n. eqb n 5) 5 (number_of 1) text start (take count digits) place

pub first_digit :
    (text : List ℕ) (start : ℕ) → at text start ≡ 0x5B → (place found : ℕ)
    → place ≡ start + 1 + blanks (drop (start + 1) text)
    → found ≡ at text place → (found ≡ 0x5D → ⊥) → (value_size 6 (drop start text) ≡ 0 → ⊥)
    → Digits text start place (replicate 5 0) 0
first_digit text start is place found p o h t =
    record {
      fits = omega arith;
      long = refl;
      listed =
          list_begins (λ n. eqb n 5) 5 (number_of 1) text start is place found p o h t;
    }

module _ {text : List ℕ} {start place count : ℕ} {digits : List ℕ} (d : Digits text start place digits count) where
  counted : length (take count digits) ≡ count
  counted = length-take-le count digits (omega (arith, d.fits, d.long))

  pub too_many_digits : 5 ≤ count → five text start ≡ none
  too_many_digits h =
      gives_too_many d.listed (λ n one. ne_eqb (length (take count digits) + n) 5 (λ e. omega (arith, counted)))

  abbrev here : List ℕ
  here = drop place text

  by_number : {n : Option ℕ} → number_here here ≡ n
      → number_of 1 (value_said 5 here) ≡ and_then n (λ n. provided (leb n 1) n)
  by_number e = number_up_to 1 4 here (omega arith) ∙ ap (λ n. and_then n (λ n. provided (leb n 1) n)) e

  -- a number that is at most 1 stands there, or the value is of another form
  by_size : ((n : ℕ) → number_here here ≡ some n → n ≤ 1 → five text start ≡ none) → five text start ≡ none
  by_size f = by_form (number_here here) refl
    where
      by_form : (o : Option ℕ) → number_here here ≡ o → five text start ≡ none
      by_form none e = gives_none d.listed (by_number e)
      by_form (some n) e =
          by_test (leb n 1) (λ t. f n e (leb-true n 1 t))
          (λ t. gives_none d.listed (by_number e ∙ ap (λ t. provided t n) t))

  pub other_digit : (at text place ≡ 0x30 → ⊥) → (at text place ≡ 0x31 → ⊥) → five text start ≡ none
  other_digit h k =
      by_size (λ n is small.
      let first = number_begins here n is in
      let value : some (at here 0 - 48) ≡ some n = sym (number_alone here first (small_alone here n is small)) ∙ is in
      let same : at here 0 - 48 ≡ n = cc in
      absurd (omega (arith, within_true 0x30 0x39 (at here 0) first, first_behind text place)))

-- A digit was read at a place, and an octet behind it and its blanks.
pub record DigitRead (text : List ℕ) (start place : ℕ) (digits : List ℕ) (count found next octet : ℕ) : Type 0 where
  pub so_far : Digits text start place digits count
  pub found_is : found ≡ at text place
  pub small : (0x30 ≤ found) × (found ≤ 0x31)
  pub less : count < 5
  pub skips : next ≡ place + 1 + blanks (drop (place + 1) text)
  pub octet_is : octet ≡ at text next

module _ {text : List ℕ} {start place : ℕ} {digits : List ℕ} {count found next octet : ℕ}
    (r : DigitRead text start place digits count found next octet) where
  abbrev had : List ℕ
  had = take count digits

  abbrev with : List ℕ
  with = set digits count (found - 48)

  listed : Listed (λ n. eqb n 5) 5 (number_of 1) text start had place
  listed = r.so_far.listed

  begins : digit (at text place) ≡ true
  begins =
      ap digit (sym r.found_is) ∙ rw (le-leb 0x30 found r.small.0, le-leb found 0x39 (omega (arith, r.small)))

  with_digit : take (count + 1) with ≡ had ++ (found - 48) ∷ []
  with_digit =
      ap (λ n. take n with) (add-one count)
      ∙ take-suc-set digits count (found - 48) (omega (arith, r.so_far.long, r.less))

  -- the number is one octet
  module _ (one : number_size (drop place text) ≡ 1) where
    digit_is : number_of 1 (value_said 5 (drop place text)) ≡ some (found - 48)
    digit_is =
        by_number r.so_far (number_at place text begins one ∙ ap (λ b. some (b - 48)) (sym r.found_is))
        ∙ ap (λ t. provided t (found - 48)) (le-leb (found - 48) 1 (omega (arith, r.small)))

    digit_item : Item (value_size 5) text place next octet
    digit_item =
        record {
          end = place + 1;
          read = sym (past_some place (λ z. omega (arith, one, number_value_lem place text begins 5))
              (omega (arith, one, number_value_lem place text begins 5)));
          skips = r.skips;
          octet = r.octet_is;
        }

    given_by : (octet ≡ 0x2C → ⊥) → (t : Bool) → eqb (count + 1) 5 ≡ t
        → five text start ≡ provided t (had ++ (found - 48) ∷ [])
    given_by c t e =
        gives_all listed digit_is digit_item c
        ∙ ap (λ t. provided t (had ++ (found - 48) ∷ [])) (ap (λ n. eqb (n + 1) 5) (counted r.so_far) ∙ e)

  alone : goes_on_with octet ≡ false → number_size (drop place text) ≡ 1
  alone h = alone_at place text begins (ends_behind text (place + 1) next octet r.skips r.octet_is h)

  pub digit_on : octet ≡ 0x2C → {after : ℕ} → after ≡ next + 1 + blanks (drop (next + 1) text)
      → Digits text start after with (count + 1)
  digit_on c {after} q =
      let one = alone (ap goes_on_with c) in
      record {
        fits = omega (arith, r.less);
        long = length-set digits count (found - 48) ∙ r.so_far.long;
        listed =
            subst (λ had. Listed (λ n. eqb n 5) 5 (number_of 1) text start had after) (sym with_digit)
            (list_on listed (digit_is one) (digit_item one) c after q);
      }

  -- behind the fifth digit stands the bracket, and behind another a comma
  pub not_last : (octet ≡ 0x2C → ⊥) → (octet ≡ 0x5D → count + 1 ≡ 5 → ⊥) → five text start ≡ none
  not_last c h =
      by_size r.so_far (λ n is small.
      let one = small_alone (drop place text) n is small in
      let bracket = closed listed (digit_item one) c in
      given_by one c false (ne_eqb (count + 1) 5 (h bracket)))

  module _ (bracket : octet ≡ 0x5D) (fifth : count + 1 ≡ 5) where
    pub all_digits : Some (record { past = next + 1; digits = with }) ≡ five_at text start
    all_digits =
        let one = alone (ap goes_on_with bracket) in
        let no_comma : octet ≡ 0x2C → ⊥ = λ c. omega (arith, bracket) in
        let long : length with ≤ count + 1 =
        omega (arith, length-set digits count (found - 48), r.so_far.long) in
        (λ i. Some (record { past = list_ends listed (digit_is one) (digit_item one) no_comma i; digits = with }))
        ∙ sym (five_by text start
        (given_by one no_comma true (eq-eqb (count + 1) 5 fifth)
        ∙ ap some (sym with_digit ∙ take_all (count + 1) with long)))
