-- The code units of a character, and the size of a letter: what each way through the code returns.
-- Assumes nothing.
use Prim.Native.Nat.{ℕ, ◌+◌, ◌-◌, ◌/◌, ◌%◌, ◌≤◌}
use mathlib.Core.Bool.{Bool, cond, false, false≢true, true, ◌&&◌, ◌||◌}
use mathlib.Core.List.{List, [], ◌∷◌}
use mathlib.Core.Logic.{⊎_elim}
use mathlib.Core.Path.{◌≡◌, ap, refl, sym, ◌∙◌}
use native.Mathlib.Omega.{arith}
use borrow.Author.Tests.{eq-eqb, eqb-true, le-ltb, lt-ltb, ne_eqb}
use lib.Dec.{eqb, leb→le, ltb}
use lib.ListN.{drop, length}
use Rattle.std.specs.Bool.{then_some}
use Rattle.std.specs.Prelude.{None, Some}
use Rattle.json_reader.proofs.Cases.{both, by_test, good_if, within_true}
use Rattle.json_reader.proofs.CharacterSizes.{four}
use Rattle.json_reader.proofs.Places.{first_behind, octet_behind}
use Rattle.json_reader.proofs.Read.{past_none, past_some}
use Rattle.json_exact.proofs.Utf8.{utf8_sound}
use Rattle.rules.specs.Screen.{same}
use Rattle.rules_json.specs.Grammar.{escaped}
use Rattle.rules_json.specs.Reader.{at, char_size, char_units, decoded, escape_size, past, utf8_size}
use Rattle.rules_json.specs.Utf8.{utf16}
use Rattle.screen.proofs.Hexadecimal.{Said, four_said, number, said_four}
use Rattle.screen.specs.Letters.{is_letter, letter_size, stands_for}

-- ---- one code unit

same_alone : (us : List ℕ) (b : ℕ) → same us (b ∷ []) ≡ true → us ≡ b ∷ []
same_alone [] b h = let z : ◌≡◌ {A = ℕ} 0 1 = cc in absurd (omega arith)
same_alone (u ∷ []) b h = ap (λ k. k ∷ []) (eqb-true u b (both (eqb u b) true h).0)
same_alone (u ∷ v ∷ us) b h =
    let never = (both (eqb u b) false h).1 in
    let z : ◌≡◌ {A = ℕ} 0 1 = cc in absurd (omega arith)

-- ---- the code units of a character: itself, or two of which the first is beyond ASCII

pub data Coded (c : ℕ) : List ℕ → Type 0 where
  itself : Coded c (c ∷ [])
  pair : (u v : ℕ) → 0x80 ≤ u → Coded c (u ∷ v ∷ [])

coded : (c : ℕ) → Coded c (utf16 c)
unfolding utf16
coded c = by_plane (ltb c 0x10000)
  where
    by_plane : (t : Bool)
        → Coded c (cond t (c ∷ []) ((0xD800 + (c - 0x10000) / 1024) ∷ (0xDC00 + (c - 0x10000) % 1024) ∷ []))
    by_plane true = itself
    by_plane false = pair (0xD800 + (c - 0x10000) / 1024) _ (omega arith)

alone : {c b : ℕ} {us : List ℕ} → Coded c us → us ≡ b ∷ [] → c ≡ b
alone itself e = cc
alone (pair u v l) e = absurd (omega (arith, ap length e))

-- what is said at the head of a text, where there is a character
abbrev said_there : List ℕ → ℕ
said_there s = cond (eqb (at s 0) 0x5C) (cond (eqb (at s 1) 0x75) (number s) (escaped (at s 1))) (decoded s)

pub units : (s : List ℕ) → (char_size s ≡ 0 → ⊥) → Coded (said_there s) (char_units s)
unfolding char_units
units s some = rw (ne_eqb (char_size s) 0 some) (by_kind (eqb (at s 0) 0x5C) (eqb (at s 1) 0x75))
  where
    by_kind : (escapes long : Bool)
        → Coded (cond escapes (cond long (number s) (escaped (at s 1))) (decoded s))
        (cond escapes (cond long (number s ∷ []) (escaped (at s 1) ∷ [])) (utf16 (decoded s)))
    by_kind true true = itself
    by_kind true false = itself
    by_kind false long = coded (decoded s)

pub no_units : (s : List ℕ) → char_size s ≡ 0 → char_units s ≡ []
unfolding char_units
no_units s z = rw z

-- ---- the size of a letter, by what a character says

module _ (s : List ℕ) (b : ℕ) where
  size_by : {t : Bool} {n : ℕ} → same (char_units s) (b ∷ []) ≡ t → char_size s ≡ n → cond t n 0 ≡ letter_size b s
  unfolding letter_size
  size_by p q = λ i. cond (sym p i) (sym q i) 0

  other_size : (char_units s ≡ b ∷ [] → ⊥) → 0 ≡ letter_size b s
  other_size h =
      by_test (same (char_units s) (b ∷ [])) (λ t. absurd (h (same_alone (char_units s) b t))) (λ t. size_by t refl)

  own_size : {n : ℕ} → char_units s ≡ b ∷ [] → char_size s ≡ n → n ≡ letter_size b s
  own_size e q =
      size_by (ap (λ us. same us (b ∷ [])) e ∙ ap (λ t. t && true) (eq-eqb b b refl)) q

  pub said_letter : (letter_size b s ≡ 0 → ⊥) → (char_units s ≡ b ∷ []) × (letter_size b s ≡ char_size s)
  said_letter h =
      by_test (same (char_units s) (b ∷ []))
      (λ t. (same_alone (char_units s) b t, sym (size_by t refl)))
      (λ t. absurd (h (sym (size_by t refl))))

  -- there is a character, and this is what it says
  there : char_units s ≡ b ∷ [] → (char_size s ≡ 0 → ⊥) × (said_there s ≡ b)
  there e =
      let some : char_size s ≡ 0 → ⊥ = λ z. omega (arith, ap length (sym (no_units s z) ∙ e)) in
      (some, alone (units s some) e)

  pub no_letter : letter_size b s ≡ 0 → char_units s ≡ b ∷ [] → ⊥
  no_letter z e = (there e).0 (own_size e refl ∙ z)

-- ---- what a letter behind an escape stands for

small_either : (t : Bool) (x y : ℕ) → x ≤ 0x5C → y ≤ 0x5C → cond t x y ≤ 0x5C
small_either true x y h l = h
small_either false x y h l = l

escaped_small : (b : ℕ) → escaped b ≤ 0x5C
escaped_small b = search (small_either, leb→le) depth 10

pub none_either : (t : Bool) → cond {A = ℕ} t 0 0 ≡ 0
none_either true = refl
none_either false = refl

-- ---- each way through `letter_size` and `escape_size`

module _ (b : ℕ) (letter : is_letter b ≡ true) (s : List ℕ) where
  abbrev least : 0x61 ≤ b
  least = (within_true 0x61 0x7A b letter).0

  abbrev most : b ≤ 0x7A
  most = (within_true 0x61 0x7A b letter).1

  module _ (e : at s 0 ≡ b) where
    one_octet : char_size s ≡ 1
    unfolding char_size utf8_size
    one_octet =
        let l = least in
        let m = most in
        rw (
          e,
          le-ltb b 0x20 (omega arith),
          ne_eqb b 0x22 (λ z. omega arith),
          ne_eqb b 0x5C (λ z. omega arith),
          lt-ltb b 0x80 (omega arith),
        )

    one_unit : char_units s ≡ b ∷ []
    unfolding char_units decoded utf16
    one_unit =
        let l = least in
        let m = most in
        rw (
          one_octet,
          e,
          ne_eqb b 0x5C (λ z. omega arith),
          lt-ltb b 0x80 (omega arith),
          lt-ltb b 0x10000 (omega arith),
        )

    pub stands_there : 1 ≡ letter_size b s
    stands_there = own_size s b one_unit one_octet

  module _ (h : at s 0 ≡ 0x5C → ⊥) where
    encoded_there : (char_size s ≡ 0 → ⊥) → utf8_size s ≡ 0 → ⊥
    unfolding char_size
    encoded_there n z = n (rw (ne_eqb (at s 0) 0x5C h, z) (none_either (ltb (at s 0) 0x20 || eqb (at s 0) 0x22)))

    some_octet : (char_size s ≡ 0 → ⊥) → at s 0 ≡ 0 → ⊥
    unfolding char_size
    some_octet n z = n (rw z)

    pub other_there : (at s 0 ≡ b → ⊥) → 0 ≡ letter_size b s
    other_there o = other_size s b (λ e. never (there s b e))
      where
        never : (char_size s ≡ 0 → ⊥) × (said_there s ≡ b) → ⊥
        never (n, e) =
            let said : decoded s ≡ b = rw (ne_eqb (at s 0) 0x5C h) at e in
            let some = some_octet n in
            ⊎_elim (λ plain. o (sym plain ∙ said)) (λ beyond. omega (arith, most))
            (utf8_sound s (omega arith) (encoded_there n)).far

  module _ (e : at s 0 ≡ 0x5C) where
    escape_size_lem : char_size s ≡ escape_size s
    unfolding char_size
    escape_size_lem = rw e

    long_size : at s 1 ≡ 0x75 → char_size s ≡ cond (four s) 6 0
    unfolding escape_size
    long_size u = escape_size_lem ∙ rw (eq-eqb (at s 1) 0x75 u)

    pub other_escape : (at s 1 ≡ 0x75 → Said b s → ⊥) → 0 ≡ letter_size b s
    other_escape o = other_size s b (λ q. never (there s b q))
      where
        never : (char_size s ≡ 0 → ⊥) × (said_there s ≡ b) → ⊥
        never (n, q) =
            let said = rw (eq-eqb (at s 0) 0x5C e) at q in
            by_test (eqb (at s 1) 0x75)
            (λ t.
            let u = eqb-true (at s 1) 0x75 t in
            let number_is : number s ≡ b = rw t at said in
            o u
            (four_said b s (omega (arith, most)) (good_if (four s) 6 (λ z. n (long_size u ∙ z))) number_is))
            (λ t.
            let letter-is : escaped (at s 1) ≡ b = rw t at said in
            omega (arith, least, escaped_small (at s 1)))

    pub long_escape : at s 1 ≡ 0x75 → Said b s → 6 ≡ letter_size b s
    unfolding char_units
    long_escape u d =
        let (are, is) = said_four b s d in
        let size : char_size s ≡ 6 = long_size u ∙ ap (λ t. cond t 6 0) are in
        own_size s b (rw (size, e, u) (ap (λ k. k ∷ []) is)) size

-- ---- past a letter at a place

module _ (p b : ℕ) (text : List ℕ) (letter : is_letter b ≡ true) where
  pub letter_here : at text p ≡ b → past p (letter_size b (drop p text)) ≡ Some (p + 1)
  letter_here h =
      let size = stands_there b letter (drop p text) (first_behind text p ∙ h) in
      past_some p (λ z. omega (arith, size)) (omega (arith, size))

  pub letter_other : (at text p ≡ b → ⊥) → (at text p ≡ 0x5C → ⊥) → past p (letter_size b (drop p text)) ≡ None
  letter_other h k =
      past_none p (sym (other_there b letter (drop p text) (λ e. k (sym (first_behind text p) ∙ e))
      (λ e. h (sym (first_behind text p) ∙ e))))

  abbrev octet : ℕ → ℕ
  octet k = at text (p + k)

  -- what stands behind the escape's beginning
  abbrev says_letter : Bool
  says_letter =
      eqb (octet 1) 0x75 && eqb (octet 2) 0x30 && eqb (octet 3) 0x30 && stands_for (octet 4) (b / 16)
      && stands_for (octet 5) (b % 16)

  pub letter_escaped : at text p ≡ 0x5C → past p (letter_size b (drop p text)) ≡ then_some says_letter (p + 6)
  letter_escaped h = by_test says_letter said unsaid
    where
      behind : (k : ℕ) → at (drop p text) k ≡ octet k
      behind k = octet_behind text p k

      escapes : at (drop p text) 0 ≡ 0x5C
      escapes = first_behind text p ∙ h

      said : says_letter ≡ true → past p (letter_size b (drop p text)) ≡ then_some says_letter (p + 6)
      said t =
          let (four, t5) = both _ (stands_for (octet 5) (b % 16)) t in
          let (three, t4) = both _ (stands_for (octet 4) (b / 16)) four in
          let (two, t3) = both _ (eqb (octet 3) 0x30) three in
          let (t1, t2) = both (eqb (octet 1) 0x75) (eqb (octet 2) 0x30) two in
          let size =
          long_escape b letter (drop p text) escapes (behind 1 ∙ eqb-true _ _ t1)
          record {
            first = behind 2 ∙ eqb-true _ _ t2;
            second = behind 3 ∙ eqb-true _ _ t3;
            third = ap (λ o. stands_for o (b / 16)) (behind 4) ∙ t4;
            fourth = ap (λ o. stands_for o (b % 16)) (behind 5) ∙ t5;
          } in
          past_some p (λ z. omega (arith, size)) (omega (arith, size)) ∙ sym (ap (λ t. then_some t (p + 6)) t)

      unsaid : says_letter ≡ false → past p (letter_size b (drop p text)) ≡ then_some says_letter (p + 6)
      unsaid f =
          past_none p (sym (other_escape b letter (drop p text) escapes
          (λ u d. false≢true (sym f
          ∙ (λ i. eq-eqb (octet 1) 0x75 (sym (behind 1) ∙ u) i && eq-eqb (octet 2) 0x30 (sym (behind 2) ∙ d.first) i
          && eq-eqb (octet 3) 0x30 (sym (behind 3) ∙ d.second) i
          && (ap (λ o. stands_for o (b / 16)) (sym (behind 4)) ∙ d.third) i
          && (ap (λ o. stands_for o (b % 16)) (sym (behind 5)) ∙ d.fourth) i)))))
          ∙ sym (ap (λ t. then_some t (p + 6)) f)

pub ruleset letters = (letter_here, letter_other)

pub ruleset escapes = (letter_escaped)
