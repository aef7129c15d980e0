-- Whether a string says a word of letters, letter by letter.
-- Assumes nothing.
use Prim.Native.Nat.{ℕ, zero, suc, ◌+◌, ◌≤◌, ◌<◌}
use mathlib.Core.Bool.{Bool, cond, false, not, or-true, true, ◌&&◌, ◌||◌}
use mathlib.Core.List.{List, [], ◌∷◌, ◌++◌}
use mathlib.Core.Path.{◌≡◌, ap, refl, sym, ◌∙◌}
use native.Mathlib.Numerals.{add-one}
use native.Mathlib.Omega.{arith}
use borrow.Author.Tests.{eq-eqb, eqb-false, eqb-true, ne_eqb, not-false}
use lib.Dec.{eqb}
use lib.ListN.{drop, drop_of_length-le, get_or, length, length-drop}
use lib.Seq.{drop-cons}
use Rattle.json_reader.proofs.Cases.{by_test, within_true}
use Rattle.json_reader.proofs.Places.{first_behind, in_text, text_behind}
use Rattle.json_reader.proofs.Quoted.{turning}
use Rattle.json_reader.proofs.Read.{none_read, some_read}
use Rattle.std.specs.Prelude.{None, Some}
use Rattle.json_reader.proofs.Turning.{through, through_enough, unrolled as run-unrolled}
use Rattle.rules.specs.Screen.{same}
use Rattle.rules.specs.Words.{any}
use Rattle.rules_json.specs.Reader.{at, char_size, char_units, fails, further, goes_on, last, past, said_after}
use Rattle.rules_json.specs.Reader.{size_after, string_size, string_step, string_units}
use Rattle.screen.proofs.Letters.{Coded, itself, no_letter, no_units, none_either, pair, said_letter, units}
use Rattle.screen.proofs.Telling.{told, told_enough, unrolled}
use Rattle.screen.specs.Letters.{is_letter, letter_size}

-- ---- what a string says from a text on

-- the code units up to its end
pub units_from : List ℕ → List ℕ
units_from s = told string_step char_units s

step_ends : (t : Bool) (n : ℕ) → n ≡ 0 → (f : ℕ → List ℕ)
    → said_after (cond t (last 1) (cond (eqb n 0) fails (goes_on n))) f ≡ []
step_ends true n h f = refl
step_ends false n h f = ap (λ m. said_after (cond (eqb m 0) fails (goes_on m)) f) h

quote_ends : (s : List ℕ) → eqb (at s 0) 0x22 ≡ true → char_size s ≡ 0
unfolding char_size
quote_ends s e = rw (e, or-true)

step_goes : (s : List ℕ) → (char_size s ≡ 0 → ⊥) → string_step s ≡ goes_on (char_size s)
step_goes s h =
    by_test (eqb (at s 0) 0x22) (λ e. absurd (h (quote_ends s e)))
    (λ e. rw (e, ne_eqb (char_size s) 0 h))

none_from : (s : List ℕ) → char_size s ≡ 0 → units_from s ≡ []
unfolding units_from
none_from s h =
    unrolled turning char_units s (string_step s) refl
    ∙ (λ i. no_units s h i
    ++ step_ends (eqb (at s 0) 0x22) (char_size s) h (λ n. told string_step char_units (drop n s)) i)

some_from : (s : List ℕ) → (char_size s ≡ 0 → ⊥) → units_from s ≡ char_units s ++ units_from (drop (char_size s) s)
unfolding units_from
some_from s h = unrolled turning char_units s (goes_on (char_size s)) (step_goes s h)

-- the steps behind a character, where those from it on end
goes_behind : (s : List ℕ) → (char_size s ≡ 0 → ⊥) → (through string_step s ≡ 0 → ⊥)
    → through string_step (drop (char_size s) s) ≡ 0 → ⊥
goes_behind s h goes z =
    goes (run-unrolled turning s
    ∙ (λ i. size_after (step_goes s h i) (λ n. through string_step (drop n s)))
    ∙ ap (further (char_size s)) z)

-- where there is neither a character nor a quotation mark the steps fail
some_character : (s : List ℕ) → (through string_step s ≡ 0 → ⊥) → eqb (at s 0) 0x22 ≡ false → char_size s ≡ 0 → ⊥
some_character s goes e z =
    goes (run-unrolled turning s
    ∙ (λ i. size_after (cond (e i) (last 1) (cond (eqb (z i) 0) fails (goes_on (z i))))
    (λ n. through string_step (drop n s))))

-- ---- letter by letter

other_unit : {c b : ℕ} {us : List ℕ} (r w : List ℕ) → Coded c us → b ≤ 0x7F → (us ≡ b ∷ [] → ⊥)
    → same (us ++ r) (b ∷ w) ≡ false
other_unit {c} {b} r w itself most h = ap (λ t. t && same r w) (ne_eqb c b (λ z. h (ap (λ k. k ∷ []) z)))
other_unit {c} {b} r w (pair u v l) most h = ap (λ t. t && same (v ∷ r) w) (ne_eqb u b (λ z. omega arith))

more_units : {c : ℕ} {us : List ℕ} (r : List ℕ) → Coded c us → same (us ++ r) [] ≡ false
more_units r itself = refl
more_units r (pair u v l) = refl

none_of : (p : ℕ → Bool) (l : List ℕ) (i : ℕ) → any p l ≡ false → i < length l → p (get_or l i 0) ≡ false
none_of p [] i h less = absurd (omega arith)
none_of p (x ∷ l) i h less = by_place (p x) refl h i less (none_of p l)
  where
    by_place : (t : Bool) → p x ≡ t → t || any p l ≡ false → (i : ℕ) → i < length (x ∷ l)
        → ((i : ℕ) → any p l ≡ false → i < length l → p (get_or l i 0) ≡ false) → p (get_or (x ∷ l) i 0) ≡ false
    by_place true e h i less f = let y : ◌≡◌ {A = ℕ} 0 1 = cc in absurd (omega arith)
    by_place false e h zero less f = e
    by_place false e h (suc i) less f = f i h (omega arith)

pub letter_of : (word : List ℕ) (letter : ℕ) → any (λ b. not (is_letter b)) word ≡ false → letter < length word
    → is_letter (get_or word letter 0) ≡ true
letter_of word letter letters h = not-false _ (none_of (λ b. not (is_letter b)) word letter letters h)

-- ---- at a place of the text and at a letter of the word

-- What is left of the string says what is left of the word, where the whole does, and the string ends.
pub record Saying (text word : List ℕ) (start place letter : ℕ) : Type 0 where
  pub ends : through string_step (drop place text) ≡ 0 → ⊥
  pub agrees : same (units_from (drop place text)) (drop letter word) ≡ same (string_units (drop start text)) word

module _ (text word : List ℕ) (start : ℕ) (h : string_size (drop start text) ≡ 0 → ⊥) where
  abbrev head : List ℕ
  head = drop start text

  some : 0 < length head
  unfolding string_size
  some = in_text head 0 (λ z. h (rw z))

  pub string_within : start < length text
  string_within = omega (arith, some, length-drop start text)

  pub says_begins : Saying text word start (start + 1) 0
  unfolding units_from string_size string_units
  says_begins =
      record {
        ends =
            λ z. h (ap (λ n. cond (eqb (at head 0) 0x22) (further 1 n) 0)
            (through_enough turning (length head) (drop 1 head) (omega (arith, length-drop 1 head))
            ∙ ap (through string_step) (text_behind text start 1) ∙ z)
            ∙ none_either (eqb (at head 0) 0x22));
        agrees = ap (λ us. same us word)
            (ap (told string_step char_units) (sym (text_behind text start 1))
            ∙ sym (told_enough turning char_units (length head) (drop 1 head)
            (omega (arith, length-drop 1 head, some))));
      }

module _ {text word : List ℕ} {start place letter : ℕ} (w : Saying text word start place letter) where
  abbrev s : List ℕ
  s = drop place text

  abbrev whole : Bool
  whole = same (string_units (drop start text)) word

  pub says_over : length word ≤ letter → eqb (at text place) 0x22 ≡ whole
  says_over h =
      ap (λ k. eqb k 0x22) (sym (first_behind text place)) ∙ by_octet
      ∙ ap (same (units_from s)) (sym (drop_of_length-le word h)) ∙ w.agrees
    where
      by_octet : eqb (at s 0) 0x22 ≡ same (units_from s) []
      by_octet =
          by_test (eqb (at s 0) 0x22)
          (λ t. t ∙ ap (λ us. same us []) (sym (none_from s (quote_ends s t))))
          (λ t.
          let some = some_character s w.ends t in
          t ∙ sym (more_units _ (units s some))
          ∙ ap (λ us. same us []) (sym (some_from s some)))

  module _ (h : letter < length word) where
    abbrev b : ℕ
    b = get_or word letter 0

    by_letter : {us : List ℕ} → units_from s ≡ us → same us (b ∷ drop (suc letter) word) ≡ whole
    by_letter u = ap (λ us. same us (b ∷ drop (suc letter) word)) (sym u)
        ∙ ap (same (units_from s)) (sym (drop-cons word letter 0 h)) ∙ w.agrees

    pub says_other : any (λ b. not (is_letter b)) word ≡ false → None ≡ past place (letter_size b s) → false ≡ whole
    says_other letters z =
        let most = (within_true 0x61 0x7A b (letter_of word letter letters h)).1 in
        by_test (eqb (char_size s) 0)
        (λ t. by_letter (none_from s (eqb-true (char_size s) 0 t)))
        (λ t.
        let some = eqb-false (char_size s) 0 t in
        sym (other_unit _ _ (units s some) (omega (arith, most)) (no_letter s b (none_read place _ z)))
        ∙ by_letter (some_from s some))

    pub says_on : (next : ℕ) → Some next ≡ past place (letter_size b s) → Saying text word start next (letter + 1)
    says_on next e =
        let (size, some) = some_read place (letter_size b s) next e in
        let (alone, is) = said_letter s b some in
        let character : char_size s ≡ 0 → ⊥ = λ z. some (is ∙ z) in
        let rest = units_from (drop (char_size s) s) in
        let behind : drop next text ≡ drop (char_size s) s =
        ap (λ n. drop n text) (omega (arith, size, is)) ∙ sym (text_behind text place (char_size s)) in
        record {
          ends = λ z. goes_behind s character w.ends (ap (through string_step) (sym behind) ∙ z);
          agrees =
              (λ i. same (units_from (behind i)) (drop (add-one letter i) word))
              ∙ sym (ap (λ t. t && same rest (drop (suc letter) word)) (eq-eqb b b refl))
              ∙ by_letter (some_from s character ∙ ap (λ us. us ++ rest) alone);
        }
