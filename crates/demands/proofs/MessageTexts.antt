-- Document 02, request 1: the text of a message, how long it is, and that it has no blanks.
-- Assumes nothing.
use Prim.Native.Nat.{ℕ, suc, ◌+◌, ◌*◌, ◌≤◌}
use native.Mathlib.Omega.{arith}
use mathlib.Core.Path.{◌≡◌, refl, ◌∙◌}
use mathlib.Core.Bool.{Bool, false, not, ◌||◌}
use mathlib.Core.List.{List, [], ◌∷◌, ◌++◌, map}
use borrow.Author.Tests.{leb-true, ne_eqb, not-false}
use lib.Dec.{leb}
use lib.ListN.{length, length-append, length-map}
use Rattle.chains.proofs.Chains.{both, neither}
use Rattle.demands.proofs.FiveDigits.{any_append, count_fives}
use Rattle.demands.proofs.NumberTexts.{Digits, decimal_digits, decimal_length}
use Rattle.demands.proofs.PlainTexts.{all_map, all_so}
use Rattle.demands.specs.Screens.{All, Five}
use Rattle.rules.specs.Printer.{decimal}
use Rattle.rules.specs.Screen.{fives, listed, written}
use Rattle.rules.specs.Words.{any}
use Rattle.rules.specs.declared.Message.{Message}
use Rattle.rules_json.specs.Abnf.{octets}
use Rattle.rules_json.specs.Grammar.{blank, digit, joined}

-- ---- no blanks

none_of : (p : ℕ → Bool) (s t : List ℕ) → any p s ≡ false → any p t ≡ false → any p (s ++ t) ≡ false
none_of p s t e f = any_append p s t ∙ λ i. e i || f i

abbrev Solid : List ℕ → Type 0
Solid s = any blank s ≡ false

digits_solid : (s : List ℕ) → Digits s → Solid s
digits_solid [] e = refl
digits_solid (b ∷ s) e =
    let h = neither (not (digit b)) _ e in
    let least = leb-true 48 b (both (leb 48 b) (leb b 57) (not-false (digit b) h.0)).0 in
    λ i.
    (ne_eqb b 0x20 (omega arith) i
    || ne_eqb b 0x09 (omega arith) i
    || ne_eqb b 0x0A (omega arith) i
    || ne_eqb b 0x0D (omega arith) i)
    || digits_solid s h.1 i

rest_solid : (xs : List (List ℕ)) → All Solid xs → Solid (joined (map (λ y. octets "," ++ y) xs))
rest_solid [] h = refl
rest_solid (x ∷ xs) h = none_of blank x _ h.0 (rest_solid xs h.1)

listed_solid : (xs : List (List ℕ)) → All Solid xs → Solid (listed xs)
listed_solid [] h = refl
listed_solid (x ∷ xs) h =
    none_of blank x _ h.0
    (none_of blank (joined (map (λ y. octets "," ++ y) xs)) (octets "]") (rest_solid xs h.1) refl)

-- ---- lengths

module _ (most : ℕ) where
  abbrev Short : List ℕ → Type 0
  Short s = length s ≤ most

  rest_length : (xs : List (List ℕ)) → All Short xs
      → length (joined (map (λ y. octets "," ++ y) xs)) ≤ suc most * length xs
  rest_length [] h = omega arith
  rest_length (x ∷ xs) h =
      omega (arith, length-append x (joined (map (λ y. octets "," ++ y) xs)), rest_length xs h.1, h.0)

  listed_length : (xs : List (List ℕ)) → All Short xs → length (listed xs) ≤ 2 + suc most * length xs
  listed_length [] h = omega arith
  listed_length (x ∷ xs) h =
      let rest = joined (map (λ y. octets "," ++ y) xs) in
      omega (arith, length-append x (rest ++ octets "]"), length-append rest (octets "]"), rest_length xs h.1, h.0)

-- ---- a message

abbrev pub track_text : List ℕ → List ℕ
track_text five = listed (map decimal five)

abbrev tracks_text : Message → List ℕ
tracks_text m = listed (map track_text (fives m.tracks m.digits))

module _ (a b c : List ℕ) where
  abbrev spelling : List ℕ
  spelling = octets "{\"station\":"
      ++ (a ++ (octets ",\"aspect\":" ++ (b ++ (octets ",\"tracks\":" ++ (c ++ octets "}")))))

  spelling_length : length spelling ≡ 32 + (length a + (length b + length c))
  spelling_length = simp length-append (omega arith)

  spelling_solid : Solid a → Solid b → Solid c → Solid spelling
  spelling_solid h k l = none_of blank a _ h (none_of blank b _ k (none_of blank c (octets "}") l refl))

pub written_solid : (m : Message) → any blank (written m) ≡ false
unfolding written
written_solid m = spelling_solid (decimal m.station) (decimal m.aspect) (tracks_text m) (solid m.station)
    (solid m.aspect) (tracks (fives m.tracks m.digits))
  where
    solid : (n : ℕ) → Solid (decimal n)
    solid n = digits_solid (decimal n) (decimal_digits n)

    each : (five : List ℕ) → All (λ d. Solid (decimal d)) five
    each [] = tt
    each (d ∷ five) = (solid d, each five)

    all : (l : List (List ℕ)) → All (λ five. Solid (track_text five)) l
    all [] = tt
    all (five ∷ l) = (listed_solid (map decimal five) (all_map Solid decimal five (each five)), all l)

    tracks : (l : List (List ℕ)) → Solid (listed (map track_text l))
    tracks l = listed_solid (map track_text l) (all_map Solid track_text l (all l))

-- a track's text is at most 2 + 6 * 5 octets, so that of all tracks at most 2 + 33 * 4
track_length : (five : List ℕ) → Five five → length (track_text five) ≤ 32
track_length five h =
    let short = all_so (λ d. d ≤ 1) (λ d. length (decimal d) ≤ 5) five (λ d l. decimal_length d (omega arith)) h.1 in
    omega (
      arith,
      listed_length 5 (map decimal five) (all_map (Short 5) decimal five short),
      length-map five decimal,
      h.0,
    )

pub written_length : (m : Message) → m.station ≤ 65535 → m.aspect ≤ 65535 → m.tracks ≤ 4
    → All Five (fives m.tracks m.digits)
    → length (written m) ≤ 4096
unfolding written
written_length m s a few h =
    let l = fives m.tracks m.digits in
    let short = all_map (Short 32) track_text l (all_so Five (λ five. length (track_text five) ≤ 32) l track_length h)
    in
    omega (
      arith,
      spelling_length (decimal m.station) (decimal m.aspect) (tracks_text m),
      decimal_length m.station s,
      decimal_length m.aspect a,
      listed_length 32 (map track_text l) short,
      length-map l track_text,
      count_fives m.tracks m.digits,
    )
