-- The text of a message that is within its ranges is at most 87 octets long.
-- Assumes nothing.
use Prim.Native.Nat.{ℕ, ◌+◌, ◌*◌, ◌≤◌}
use native.Mathlib.Omega.{arith}
use mathlib.Core.Path.{◌≡◌, ap}
use mathlib.Core.Bool.{true}
use mathlib.Core.List.{List, [], ◌∷◌, map}
use lib.ListN.{drop, length, length-append, length-take, take}
use Rattle.rules.specs.Screen.{listed, message_fits, written}
use Rattle.rules.specs.declared.Message.{Message}
use Rattle.screen.proofs.Messages.{of_one_to_four}
use Rattle.screen.proofs.Ranges.{fits_so}
use Rattle.screen.proofs.Spelling.{same_texts, texts}
use Rattle.screen.specs.Texts.{digit_text}
use Rattle.text.proofs.Decimals.{decimal_most, decimal_one}

-- five digits, four commas and two brackets
five_most : (l : List ℕ) → length l ≤ 5 → length (listed (map digit_text l)) ≤ 11
five_most [] h = omega arith
five_most (a ∷ []) h = omega arith
five_most (a ∷ b ∷ []) h = omega arith
five_most (a ∷ b ∷ c ∷ []) h = omega arith
five_most (a ∷ b ∷ c ∷ d ∷ []) h = omega arith
five_most (a ∷ b ∷ c ∷ d ∷ e ∷ []) h = omega arith
five_most (a ∷ b ∷ c ∷ d ∷ e ∷ f ∷ l) h = let z : ⊥ = omega arith in absurd z

track_most : (l : List ℕ) → length (listed (map digit_text (take 5 l))) ≤ 11
track_most l = five_most (take 5 l) (omega (arith, length-take 5 l))

abbrev Most : ℕ → Type 0
Most n = (l : List ℕ) → length (listed (texts digit_text n l)) ≤ 12 * n + 1

tracks_most : (n : ℕ) → 1 ≤ n → n ≤ 4 → Most n
tracks_most n h k =
    of_one_to_four Most n h k one two three four
  where
    one : Most 1
    one l = simp length-append (omega (arith, track_most l))

    two : Most 2
    two l = simp length-append (omega (arith, track_most l, track_most (drop 5 l)))

    three : Most 3
    three l = simp length-append (omega (arith, track_most l, track_most (drop 5 l), track_most (drop 5 (drop 5 l))))

    four : Most 4
    four l =
        let third = drop 5 (drop 5 l) in
        simp length-append
        (omega (arith, track_most l, track_most (drop 5 l), track_most third, track_most (drop 5 third)))

pub written_most : (m : Message) → message_fits m ≡ true → length (written m) ≤ 87
unfolding written
written_most m fits =
    let so = fits_so m fits in
    let list = ap (λ (l : List (List ℕ)). length (listed l)) (same_texts m.tracks m.digits so.digits) in
    simp length-append
    (omega (
      arith,
      list,
      tracks_most m.tracks so.least so.most m.digits,
      so.most,
      decimal_most m.station 5 (omega arith) (omega (arith, so.station)),
      decimal_one m.aspect (omega (arith, so.aspect)),
    ))
