-- The steps of a string: characters up to a quotation mark.
-- Assumes nothing.
use mathlib.Core.Path.{◌≡◌, refl, sym, ap, subst, ◌∙◌}
use mathlib.Core.Bool.{Bool, cond, false, true, not, ◌&&◌, ◌||◌}
use mathlib.Core.List.{List}
use Prim.Native.Nat.{ℕ, zero, suc, ◌≤◌, ◌<◌, ◌+◌}
use native.Mathlib.Omega.{arith}
use borrow.Author.Tests.{leb-true, le-leb, le-ltb, lt-ltb, ne_eqb}
use lib.Dec.{T, eqb, eqb-suc-zero, leb, leb→le, ltb}
use lib.ListN.{drop, length}
use Rattle.rules_json.specs.Reader.{at, char_size, escape_size, fails, goes_on, last, past, string_size}
use Rattle.rules_json.specs.Reader.{string_step, utf8_size}
use Rattle.json_reader.proofs.Behind.{here, not_here}
use Rattle.json_reader.proofs.Ending.{ending, ending_fails, ending_last, ending_on, ending_over, whole_ending}
use Rattle.json_reader.proofs.Read.{none_read, past_none, some_read}
use Rattle.std.specs.Prelude.{None, Option, Some}
use Rattle.json_reader.proofs.Places.{first_behind}
use Rattle.json_reader.proofs.Turning.{Grows, Turning}

by_size : (t : Bool) (n : ℕ) → Grows (cond t (last 1) (cond (eqb n 0) fails (goes_on n)))
by_size true n = tt
by_size false zero = tt
by_size false (suc n) = subst (λ t. Grows (cond t fails (goes_on (suc n)))) (sym (eqb-suc-zero n)) (omega arith)

pub turning : Turning string_step
unfolding char_size
turning = record { none = refl; grows = λ s. by_size (eqb (at s 0) 0x22) (char_size s) }

-- ---- characters of ASCII that stand for themselves

abbrev is_plain : ℕ → Bool
is_plain b = leb 0x20 b && ltb b 0x80 && not (eqb b 0x22) && not (eqb b 0x5C)

plain_chosen : (low high quote slash less : Bool) (escape others : ℕ)
    → low && high && not quote && not slash ≡ true → (low ≡ true → less ≡ false)
    → cond quote (last 1)
    (cond (eqb (cond (less || quote) 0 (cond slash escape (cond high 1 others))) 0) fails
    (goes_on (cond (less || quote) 0 (cond slash escape (cond high 1 others)))))
    ≡ goes_on 1
plain_chosen false high quote slash less escape others h k = absurd (subst T (sym h) tt)
plain_chosen true false quote slash less escape others h k = absurd (subst T (sym h) tt)
plain_chosen true true true slash less escape others h k = absurd (subst T (sym h) tt)
plain_chosen true true false true less escape others h k = absurd (subst T (sym h) tt)
plain_chosen true true false false less escape others h k =
    ap (λ t. cond (eqb (cond (t || false) 0 1) 0) fails (goes_on (cond (t || false) 0 1))) (k refl)

plain_step : (s : List ℕ) → is_plain (at s 0) ≡ true → string_step s ≡ goes_on 1
unfolding char_size utf8_size
plain_step s h =
    let b = at s 0 in
    plain_chosen (leb 0x20 b) (ltb b 0x80) (eqb b 0x22) (eqb b 0x5C) (ltb b 0x20) _ _ h
    (λ e. le-ltb b 0x20 (leb-true 0x20 b e))

-- a character has six octets at most
small_either : (t : Bool) (x y : ℕ) → x ≤ 6 → y ≤ 6 → cond t x y ≤ 6
small_either true x y h l = h
small_either false x y h l = l

pub char_small : (s : List ℕ) → char_size s ≤ 6
unfolding char_size escape_size utf8_size
char_small s = search (small_either, leb→le) depth 9

pub no_string : (text : List ℕ) (place : ℕ) → (at text place ≡ 0x22 → ⊥)
    → past place (string_size (drop place text)) ≡ None
unfolding string_size
no_string text place h = past_none place (rw (not_here text place 0x22 h) refl)

module _ (text : List ℕ) where
  -- where the characters from a place on end
  unfoldable pub string_end : ℕ → Option ℕ
  string_end place = ending string_step text place

  pub string_begins : (place : ℕ) → at text place ≡ 0x22
      → string_end (place + 1) ≡ past place (string_size (drop place text))
  unfolding string_end string_size
  string_begins place h =
      whole_ending turning text place 1 (string_size (drop place text)) (rw (here text place 0x22 h))

  module _ (place : ℕ) where
    pub string_over : length text ≤ place → string_end place ≡ None
    unfolding string_end
    string_over h = ending_over turning text place h

    pub string_runs : 0x20 ≤ at text place → at text place < 0x80 → (at text place ≡ 0x22 → ⊥)
        → (at text place ≡ 0x5C → ⊥) → string_end place ≡ string_end (place + 1)
    unfolding string_end
    string_runs low high quote slash =
        let plain : is_plain (at text place) ≡ true =
        rw (le-leb 0x20 (at text place) low, lt-ltb (at text place) 0x80 high)
        (rw (ne_eqb (at text place) 0x22 quote, ne_eqb (at text place) 0x5C slash) refl) in
        ending_on turning text place 1 (plain_step (drop place text) (ap is_plain (first_behind text place) ∙ plain))

    pub string_closes : at text place ≡ 0x22 → string_end place ≡ Some (place + 1)
    unfolding string_end
    string_closes h = ending_last turning text place 1 (omega arith) (rw (here text place 0x22 h))

    module _ (h : at text place ≡ 0x22 → ⊥) where
      pub string_breaks : None ≡ past place (char_size (drop place text)) → string_end place ≡ None
      unfolding string_end
      string_breaks e =
          let none = none_read place (char_size (drop place text)) e in
          ending_fails turning text place (rw (not_here text place 0x22 h, none))

      pub string_goes_on : (next : ℕ) → Some next ≡ past place (char_size (drop place text))
          → string_end place ≡ string_end next
      unfolding string_end
      string_goes_on next e =
          let (size, some) = some_read place (char_size (drop place text)) next e in
          ending_on turning text place (char_size (drop place text))
          (rw (not_here text place 0x22 h, ne_eqb (char_size (drop place text)) 0 some))
          ∙ ap (ending string_step text) (sym size)

pub ruleset quotations = (string_begins, string_over, string_runs, string_closes, string_breaks, string_goes_on)
