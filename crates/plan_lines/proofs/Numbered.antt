-- A word as a number: up to which most it is one, and what is wrong with it where another is expected.
-- Assumes nothing.
use Prim.Native.Nat.{ℕ, ◌<◌}
use native.Mathlib.Omega.{arith}
use mathlib.Core.List.{List, [], ◌∷◌}
use mathlib.Core.Path.{◌≡◌, ap, refl, sym, ◌∙◌}
use borrow.Author.Tests.{le-leb, lt-leb}
use lib.Dec.{leb}
use lib.ListN.{get_or}
use Rattle.digits.proofs.Counted.{ours_up_to}
use Rattle.rules.specs.Answered.{given}
use Rattle.rules.specs.Screen.{and_then, or_else, our_number, provided}
use Rattle.std.proofs.Common.{Bor, Err, None, Ok, Option, Result, Some}
use Rattle.std.proofs.Math.Option as Math
use Rattle.std.proofs.Math.Option.{none, some}
use Rattle.std.specs.Option.{MatchOption, unwrap_or}
use Rattle.std.specs.Result.{OkIff, result_ok}

-- ---- a number that fits a byte

up_to_byte : (word : List ℕ) (o : Math.Option ℕ) → o ≡ our_number 65535 word
    → and_then o (λ n. provided (leb n 255) n) ≡ our_number 255 word
up_to_byte word o e = ap (λ o. and_then o (λ n. provided (leb n 255) n)) e ∙ sym (ours_up_to 255 word (omega arith))

pub no_byte : (r : Option ℕ) (word : List ℕ) → r ≡ None → none ≡ our_number 65535 word → given r ≡ our_number 255 word
no_byte r word z e = ap given z ∙ up_to_byte word none e

pub byte_of : {E : Type 0} (o : Option ℕ) (r : Result ℕ E) (n : ℕ) (word : List ℕ) → o ≡ result_ok r
    → OkIff r (n < 256) n → some n ≡ our_number 65535 word → given o ≡ our_number 255 word
byte_of o (Ok m) n word z h e =
    ap given z ∙ ap some h.1 ∙ sym (ap (λ t. provided t n) (le-leb n 255 (omega arith))) ∙ up_to_byte word (some n) e
byte_of o (Err f) n word z h e =
    ap given z ∙ sym (ap (λ t. provided t n) (lt-leb n 255 (omega arith))) ∙ up_to_byte word (some n) e

-- ---- the next word's number

pub next_value : (most : ℕ) (next : Option (Bor (List ℕ))) (r : Option ℕ) (words behind : List (List ℕ))
    → MatchOption next ((words ≡ []) × (behind ≡ [])) (λ word. words ≡ word.now ∷ behind)
    → MatchOption next (r ≡ None) (λ word. given r ≡ our_number most word.now)
    → unwrap_or r 0 ≡ or_else 0 (our_number most (get_or words 0 []))
unfolding our_number
next_value most None r words behind h e =
    ap (λ o. unwrap_or o 0) e ∙ ap (λ ws. or_else 0 (our_number most (get_or ws 0 []))) (sym h.0)
next_value most (Some word) r words behind h e =
    or_zero r ∙ ap (or_else 0) e ∙ ap (λ ws. or_else 0 (our_number most (get_or ws 0 []))) (sym h)
  where
    or_zero : (r : Option ℕ) → unwrap_or r 0 ≡ or_else 0 (given r)
    or_zero None = refl
    or_zero (Some n) = refl
