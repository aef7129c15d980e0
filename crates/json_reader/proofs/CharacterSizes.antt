-- Past a character, by the octets that stand at its place.
-- Assumes nothing.
use Prim.Native.Nat.{ℕ, ◌+◌, ◌-◌, ◌≤◌, ◌<◌}
use mathlib.Core.Bool.{Bool, cond, false, not, true, ◌&&◌, ◌||◌}
use mathlib.Core.List.{List}
use mathlib.Core.Path.{◌≡◌, ap, refl, ◌∙◌}
use native.Mathlib.Omega.{arith}
use borrow.Author.Tests.{eq-eqb, le-leb, le-ltb, lt-leb, lt-ltb, ne_eqb}
use lib.Dec.{eqb, ltb}
use lib.ListN.{drop, get_or-eq_default, length}
use Rattle.std.specs.Bool.{then_some}
use Rattle.std.specs.Prelude.{None, Some}
use Rattle.std.specs.Char.{is_ascii_hexdigit}
use Rattle.json_reader.proofs.Places.{first_behind, octet_behind}
use Rattle.json_reader.proofs.Read.{past_if, past_none, past_some}
use Rattle.rules_json.specs.Abnf.{within}
use Rattle.rules_json.specs.Grammar.{escaped, hexdig}
use Rattle.rules_json.specs.Reader.{at, char_size, escape_size, past, second, tail, utf8_size}

-- the digits behind \u
abbrev pub four : List ℕ → Bool
four s = hexdig (at s 2) && hexdig (at s 3) && hexdig (at s 4) && hexdig (at s 5)

hex_is : (b : ℕ) → hexdig b ≡ is_ascii_hexdigit b
hex_is b = grind arith

none_if : (t : Bool) (n : ℕ) → then_some (t && false) n ≡ None
none_if true n = refl
none_if false n = refl

-- ---- RFC 3629

abbrev utf8_by : ℕ → ℕ → ℕ → ℕ → ℕ
utf8_by a b c d =
    cond (ltb a 0x80) 1
    (cond (within 0xC2 0xDF a) (cond (tail b) 2 0)
    (cond (within 0xE0 0xEF a) (cond (second a b && tail c) 3 0)
    (cond (within 0xF0 0xF4 a) (cond (second a b && tail c && tail d) 4 0) 0)))

module _ (p : ℕ) (text : List ℕ) where
  abbrev octet : ℕ → ℕ
  octet k = at text (p + k)

  utf8_is : utf8_size (drop p text) ≡ utf8_by (at text p) (octet 1) (octet 2) (octet 3)
  unfolding utf8_size
  utf8_is =
      λ i. utf8_by (first_behind text p i) (octet_behind text p 1 i) (octet_behind text p 2 i) (octet_behind text p 3 i)

  pub one_octet : at text p < 0x80 → past p (utf8_size (drop p text)) ≡ Some (p + 1)
  one_octet h = ap (past p) utf8_is ∙ rw (lt-ltb (at text p) 0x80 h) (past_some p (λ z. omega arith) refl)

  pub two_octets : 0xC2 ≤ at text p → at text p ≤ 0xDF
      → past p (utf8_size (drop p text)) ≡ then_some (tail (octet 1)) (p + 2)
  two_octets h l =
      ap (past p) utf8_is
      ∙ rw (le-ltb (at text p) 0x80 (omega arith), le-leb 0xC2 (at text p) h, le-leb (at text p) 0xDF l)
      (past_if p 1 (tail (octet 1)))

  pub three_octets : 0xE0 ≤ at text p → at text p ≤ 0xEF
      → past p (utf8_size (drop p text)) ≡ then_some (second (at text p) (octet 1) && tail (octet 2)) (p + 3)
  three_octets h l =
      ap (past p) utf8_is
      ∙ rw (le-ltb (at text p) 0x80 (omega arith), le-leb 0xC2 (at text p) (omega arith))
      (rw (lt-leb (at text p) 0xDF (omega arith), le-leb 0xE0 (at text p) h)
      (rw (le-leb (at text p) 0xEF l) (past_if p 2 (second (at text p) (octet 1) && tail (octet 2)))))

  pub four_octets : 0xF0 ≤ at text p → at text p ≤ 0xF4
      → past p (utf8_size (drop p text))
      ≡ then_some (second (at text p) (octet 1) && tail (octet 2) && tail (octet 3)) (p + 4)
  four_octets h l =
      ap (past p) utf8_is
      ∙ rw (le-ltb (at text p) 0x80 (omega arith), le-leb 0xC2 (at text p) (omega arith))
      (rw (lt-leb (at text p) 0xDF (omega arith), le-leb 0xE0 (at text p) (omega arith))
      (rw (lt-leb (at text p) 0xEF (omega arith), le-leb 0xF0 (at text p) h, le-leb (at text p) 0xF4 l)
      (past_if p 3 (second (at text p) (octet 1) && tail (octet 2) && tail (octet 3)))))

  -- the first is that of no character
  pub no_first : 0x80 ≤ at text p → at text p < 0xC2 → past p (utf8_size (drop p text)) ≡ None
  no_first h l =
      ap (past p) utf8_is
      ∙ rw (le-ltb (at text p) 0x80 h, lt-leb 0xC2 (at text p) l)
      (rw (lt-leb 0xE0 (at text p) (omega arith), lt-leb 0xF0 (at text p) (omega arith)) (past_none p refl))

  pub great_first : 0xF4 < at text p → past p (utf8_size (drop p text)) ≡ None
  great_first h =
      ap (past p) utf8_is
      ∙ rw (le-ltb (at text p) 0x80 (omega arith), le-leb 0xC2 (at text p) (omega arith))
      (rw (lt-leb (at text p) 0xDF (omega arith), le-leb 0xE0 (at text p) (omega arith))
      (rw (lt-leb (at text p) 0xEF (omega arith), le-leb 0xF0 (at text p) (omega arith), lt-leb (at text p) 0xF4 h)
      (past_none p refl)))

  -- ---- escapes

  abbrev escape_by : ℕ → Bool → Bool → Bool → Bool → ℕ
  escape_by letter a b c d =
      cond (eqb letter 0x75) (cond (a && b && c && d) 6 0) (cond (eqb (escaped letter) 0) 0 2)

  escape_with : escape_size (drop p text)
      ≡ escape_by (octet 1) (hexdig (octet 2)) (hexdig (octet 3)) (hexdig (octet 4)) (hexdig (octet 5))
  unfolding escape_size
  escape_with =
      λ i. escape_by (octet_behind text p 1 i) (hexdig (octet_behind text p 2 i)) (hexdig (octet_behind text p 3 i))
      (hexdig (octet_behind text p 4 i)) (hexdig (octet_behind text p 5 i))

  pub long_escape : octet 1 ≡ 0x75
      → past p (escape_size (drop p text))
      ≡ then_some (is_ascii_hexdigit (octet 2) && is_ascii_hexdigit (octet 3) && is_ascii_hexdigit (octet 4)
      && is_ascii_hexdigit (octet 5)) (p + 6)
  long_escape h =
      ap (past p) escape_with
      ∙ rw (eq-eqb (octet 1) 0x75 h)
      (past_if p 5 (hexdig (octet 2) && hexdig (octet 3) && hexdig (octet 4) && hexdig (octet 5))
      ∙ (λ i. then_some (hex_is (octet 2) i && hex_is (octet 3) i && hex_is (octet 4) i && hex_is (octet 5) i) (p + 6)))

  -- the text ends among the digits
  pub cut_escape : octet 1 ≡ 0x75 → length text - p < 6 → past p (escape_size (drop p text)) ≡ None
  cut_escape h l =
      long_escape h
      ∙ ap (λ b. then_some (is_ascii_hexdigit (octet 2) && is_ascii_hexdigit (octet 3) && is_ascii_hexdigit (octet 4)
      && is_ascii_hexdigit b) (p + 6)) (get_or-eq_default text 0 (omega arith))
      ∙ none_if _ (p + 6)

  pub short_escape : (octet 1 ≡ 0x75 → ⊥)
      → past p (escape_size (drop p text)) ≡ then_some (not (eqb (escaped (octet 1)) 0)) (p + 2)
  short_escape h =
      ap (past p) escape_with
      ∙ rw (ne_eqb (octet 1) 0x75 h) (ap (past p) (turned (eqb (escaped (octet 1)) 0)) ∙ past_if p 1 _)
    where
      turned : (t : Bool) → cond {A = ℕ} t 0 2 ≡ cond (not t) 2 0
      turned true = refl
      turned false = refl

  -- ---- characters

  abbrev char_by : ℕ → ℕ
  char_by first =
      cond (ltb first 0x20 || eqb first 0x22) 0
      (cond (eqb first 0x5C) (escape_size (drop p text)) (utf8_size (drop p text)))

  char_is : char_size (drop p text) ≡ char_by (at text p)
  unfolding char_size
  char_is = ap char_by (first_behind text p)

  pub low_character : at text p < 0x20 → past p (char_size (drop p text)) ≡ None
  low_character h = ap (past p) char_is ∙ rw (lt-ltb (at text p) 0x20 h) (past_none p refl)

  pub quoted_character : at text p ≡ 0x22 → past p (char_size (drop p text)) ≡ None
  quoted_character h = ap (past p) (char_is ∙ ap char_by h) ∙ past_none p refl

  pub escaped_character : at text p ≡ 0x5C → past p (char_size (drop p text)) ≡ past p (escape_size (drop p text))
  escaped_character h = ap (past p) (char_is ∙ ap char_by h)

  pub encoded_character : 0x20 ≤ at text p → (at text p ≡ 0x22 → ⊥) → (at text p ≡ 0x5C → ⊥)
      → past p (char_size (drop p text)) ≡ past p (utf8_size (drop p text))
  encoded_character h q b =
      ap (past p) char_is
      ∙ rw (le-ltb (at text p) 0x20 h, ne_eqb (at text p) 0x22 q, ne_eqb (at text p) 0x5C b) refl

pub ruleset encodings = (one_octet, two_octets, three_octets, four_octets, no_first, great_first)

pub ruleset escapes = (long_escape, cut_escape, short_escape)

pub ruleset characters = (low_character, quoted_character, escaped_character, encoded_character)
