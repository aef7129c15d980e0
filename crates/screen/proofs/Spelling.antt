-- The text of a message, as the code puts it together, is the definition's.
-- Assumes nothing.
use Prim.Native.Nat.{ℕ, zero, suc, ◌+◌, ◌*◌, ◌≤◌}
use native.Mathlib.Omega.{arith}
use mathlib.Core.Path.{◌≡◌, refl, sym, ap, ap₂, subst, ◌∙◌}
use mathlib.Core.Bool.{true, false}
use mathlib.Core.List.{List, [], ◌∷◌, ◌++◌, map, append_assoc, append-nil}
use borrow.Author.Tests.{ltb-false}
use lib.Dec.{ltb}
use lib.ListN.{drop, get_or, length, replicate, take}
use lib.Seq.{take-add}
use Rattle.chains.proofs.Chains.{neither}
use Rattle.islands.proofs.Below.{any_append}
use Rattle.islands.proofs.Listed.{listed as each-listed, tabulate}
use Rattle.rules.specs.Printer.{decimal}
use Rattle.rules.specs.Screen.{fives, listed, message_fits, written}
use Rattle.rules.specs.Words.{any}
use Rattle.rules.specs.declared.Message.{Message}
use Rattle.rules_json.specs.Abnf.{octets}
use Rattle.screen.proofs.Messages.{of_one_to_four}
use Rattle.screen.proofs.Ranges.{Fits, fits_so}
use Rattle.screen.specs.Texts.{digit_text, track_text, track_texts}
use Rattle.text.proofs.Decimals.{decimal_digit}
use Rattle.std.specs.Prelude.{Option}
use Rattle.text.proofs.Placing.{Told, filled}

-- ---- the tracks

one_digit : (d : ℕ) → ltb 1 d ≡ false → decimal d ≡ digit_text d
unfolding decimal
one_digit zero e = refl
one_digit (suc zero) e = refl
one_digit (suc (suc d)) e = let z : ⊥ = omega (arith, ltb-false 1 (suc (suc d)) e) in absurd z

digit_texts : (l : List ℕ) → any (ltb 1) l ≡ false → map decimal l ≡ map digit_text l
digit_texts [] e = refl
digit_texts (d ∷ l) e =
    let none = neither (ltb 1 d) (any (ltb 1) l) e in
    ap₂ (λ (x : List ℕ) (xs : List (List ℕ)). x ∷ xs) (one_digit d none.0) (digit_texts l none.1)

abbrev pub texts : (ℕ → List ℕ) → ℕ → List ℕ → List (List ℕ)
texts f n digits = map (λ five. listed (map f five)) (fives n digits)

pub same_texts : (n : ℕ) (l : List ℕ) → any (ltb 1) (take (5 * n) l) ≡ false
    → texts decimal n l ≡ texts digit_text n l
same_texts zero l e = refl
same_texts (suc n) l e =
    let more : 5 * suc n ≡ 5 + 5 * n = omega arith in
    let first = take 5 l in
    let rest = take (5 * n) (drop 5 l) in
    let whole : take (5 * suc n) l ≡ first ++ rest = ap (λ (k : ℕ). take k l) more ∙ take-add 5 (5 * n) l in
    let none = neither _ _ (sym (any_append (ltb 1) first rest) ∙ ap (any (ltb 1)) (sym whole) ∙ e) in
    ap₂ (λ (x : List ℕ) (xs : List (List ℕ)). x ∷ xs)
    (ap listed (digit_texts first none.0))
    (same_texts n (drop 5 l) none.1)

-- twelve octets for each track, and the last bracket
abbrev Cut : List ℕ → ℕ → Type 0
Cut digits n =
    let shown = take (12 * n) (track_texts digits) in
    (listed (texts digit_text n digits) ≡ shown ++ (93 ∷ [])) × (length shown ≡ 12 * n)

cut : (digits : List ℕ) (n : ℕ) → length digits ≡ 20 → 1 ≤ n → n ≤ 4 → Cut digits n
unfolding track_texts track_text
cut digits n twenty h k =
    subst (λ (l : List ℕ). Cut l n) (sym (each-listed 0 digits 20 twenty))
    (of_one_to_four (Cut (tabulate 20 (λ a. get_or digits a 0))) n h k
    (refl, refl) (refl, refl) (refl, refl) (refl, refl))

-- four tracks one after the other
pub four_texts : (digits : List ℕ) → length digits ≡ 20 → length (track_texts digits) ≡ 48
unfolding track_texts track_text
four_texts digits twenty =
    subst (λ (l : List ℕ). length (track_texts l) ≡ 48) (sym (each-listed 0 digits 20 twenty)) refl

regroup : (a b c d : List ℕ) → a ++ (b ++ (c ++ (d ++ []))) ≡ a ++ b ++ c ++ d
regroup a b c d = simp (append_assoc, append-nil)

-- in a buffer that they fill
pub four_filled : (digits : List ℕ) {first second third fourth b' : List ℕ} {r : Option ℕ} → length digits ≡ 20
    → first ≡ track_text 91 (take 5 digits)
    → second ≡ track_text 44 (take 5 (drop 5 digits))
    → third ≡ track_text 44 (take 5 (drop 10 digits))
    → fourth ≡ track_text 44 (take 5 (drop 15 digits))
    → Told (first ++ (second ++ (third ++ (fourth ++ [])))) (replicate 48 0) r b'
    → b' ≡ track_texts digits
unfolding track_texts
four_filled digits {first} {second} {third} {fourth} twenty e0 e1 e2 e3 told =
    let same : first ++ (second ++ (third ++ (fourth ++ []))) ≡ track_texts digits =
    regroup first second third fourth ∙ (λ i. e0 i ++ e1 i ++ e2 i ++ e3 i) in
    filled _ _ (ap length same ∙ four_texts digits twenty) told ∙ same

-- ---- the whole

abbrev before_station : List ℕ
before_station = octets "{\"station\":"

abbrev before_aspect : List ℕ
before_aspect = octets ",\"aspect\":"

abbrev before_tracks : List ℕ
before_tracks = octets ",\"tracks\":"

module _ (m : Message) (fits : message_fits m ≡ true) (twenty : length m.digits ≡ 20) where
  abbrev shown : List ℕ
  shown = take (12 * m.tracks) (track_texts m.digits)

  abbrev so : Fits m
  so = fits_so m fits

  tracks_cut : Cut m.digits m.tracks
  tracks_cut = cut m.digits m.tracks twenty so.least so.most

  -- what the code puts in a row
  pub spelt : {number tracks : List ℕ} {count : ℕ} → number ≡ decimal m.station → tracks ≡ track_texts m.digits
      → count ≡ m.tracks
      → before_station
      ++ (number
      ++ (before_aspect ++ ((48 + m.aspect) ∷ (before_tracks ++ (take (12 * count) tracks ++ octets "]}")))))
      ≡ written m
  unfolding written
  spelt {number} {tracks} {count} e t n =
      (λ i. before_station ++ (e i ++ (before_aspect ++ (aspect i ++ (before_tracks ++ list i)))))
    where
      aspect : (48 + m.aspect) ∷ [] ≡ decimal m.aspect
      aspect = sym (decimal_digit m.aspect (omega (arith, so.aspect)))

      list : take (12 * count) tracks ++ octets "]}" ≡ listed (texts decimal m.tracks m.digits) ++ octets "}"
      list =
          (λ i. take (12 * n i) (t i) ++ octets "]}")
          ∙ sym (append_assoc shown (93 ∷ []) (125 ∷ []))
          ∙ ap (λ l. l ++ octets "}") (sym (ap listed (same_texts m.tracks m.digits so.digits) ∙ tracks_cut.0))
