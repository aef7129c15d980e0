-- RFC 8259, section 3: `scalar_size` and `scalar_said` take exactly the texts of literals, numbers and strings.
-- Assumes nothing.
use Prim.Native.Nat.{ℕ, suc, ◌+◌, ◌≤◌, ◌<◌}
use native.Mathlib.Omega.{arith}
use mathlib.Core.Bool.{Bool, true, false, ◌&&◌, ◌||◌}
use mathlib.Core.List.{List, [], ◌∷◌}
use mathlib.Core.Path.{◌≡◌, refl, sym, ap, subst, ◌∙◌}
use borrow.Author.Tests.{eqb-true, ltb-true}
use lib.Dec.{eqb, ltb}
use lib.ListN.{length, length-append, take}
use lib.Seq.{take_at}
use Rattle.rules_json.specs.Abnf.{Rule, octets, these}
use Rattle.rules_json.specs.Grammar.{Number, ScalarRule}
use Rattle.rules_json.specs.Reader.{at, number_size, scalar_said, scalar_size, spells, word_size}
use Rattle.rules_json.specs.Tree.{Scalar, false_literal, null_literal, number, string, true_literal}
use Rattle.json_exact.proofs.Classes.{apart, ascii_starts, starts}
use Rattle.json_exact.proofs.Numbers.{number_complete, number_head, number_sound}
use Rattle.json_exact.proofs.Sizes.{Ends, no_value}
use Rattle.json_exact.proofs.Splits.{Left, Spans, Takes, both, chosen, chosen_said, fronted, inside, left_text}
use Rattle.json_exact.proofs.Splits.{neither, octets_at, recast, spelled}
use Rattle.json_exact.proofs.Strings.{string_complete, string_sound}

-- ---- words

abbrev no_zero : List ℕ → Bool
no_zero [] = true
no_zero (b ∷ word) = ltb 0 b && no_zero word

spelt : (word : List ℕ) (place : ℕ) (s : List ℕ) → spells word place s ≡ true → octets_at (length word) place s ≡ word
spelt [] place s h = refl
spelt (b ∷ word) place s h =
    let (here, rest) = both (eqb (at s place) b) (spells word (suc place) s) h in
    let e = eqb-true (at s place) b here in
    let r = spelt word (suc place) s rest in
    λ i. e i ∷ r i

fits : (word : List ℕ) (place : ℕ) (s : List ℕ) → spells word place s ≡ true → no_zero word ≡ true → place ≤ length s
    → place + length word ≤ length s
fits [] place s h some room = omega arith
fits (b ∷ word) place s h some room =
    let (here, rest) = both (eqb (at s place) b) (spells word (suc place) s) h in
    let (big, bigs) = both (ltb 0 b) (no_zero word) some in
    let e = eqb-true (at s place) b here in
    let less = ltb-true 0 b big in
    let more = fits word (suc place) s rest bigs (inside s place (λ z. omega arith)) in
    omega arith

word_sound : (word s : List ℕ) → no_zero word ≡ true → (word_size word s ≡ 0 → ⊥)
    → Takes (Spans (these word)) (word_size word s) s
word_sound word s some =
    let n = length word in
    chosen (λ k. Takes (Spans (these word)) k s) (spells word 0 s) n 0
    (λ h _. fronted n s (omega (arith, fits word 0 s h some (omega arith))) (spelt word 0 s h)) (λ _ z. absurd (z refl))

-- ---- numbers, with their text

text_is : {P : Rule} {n : ℕ} {s u : List ℕ} → Left n s u → (w : Spans P s u) → take n s ≡ w.text
text_is {n} {s} {u} h w =
    let long : length w.text ≡ n = omega (arith, h.count, ap length w.split, length-append w.text u) in
    ap (take n) w.split ∙ take_at w.text u n long

numeral_sound : (s : List ℕ) → (number_size s ≡ 0 → ⊥)
    → Takes (Spans (ScalarRule (number (take (number_size s) s)))) (number_size s) s
numeral_sound s some =
    let w = number_sound s some in
    record { left = w.left; part = recast w.part (sym (text_is w.left w.part), w.part.of) }

-- ---- scalars

pub scalar_sound : (s : List ℕ) → (scalar_size s ≡ 0 → ⊥) → Takes (Spans (ScalarRule (scalar_said s))) (scalar_size s) s
unfolding scalar_size scalar_said
scalar_sound s =
    chosen_said R (eqb (at s 0) 0x22) _ _ _ _ (λ _. string_sound s)
    (λ _. chosen_said R (eqb (at s 0) 0x66) _ _ _ _ (λ _. word_sound (octets "false") s refl)
    (λ _. chosen_said R (eqb (at s 0) 0x6E) _ _ _ _ (λ _. word_sound (octets "null") s refl)
    (λ _. chosen_said R (eqb (at s 0) 0x74) _ _ _ _ (λ _. word_sound (octets "true") s refl) (λ _. numeral_sound s))))
  where
    R : Scalar → ℕ → Type 0
    R x n = Takes (Spans (ScalarRule x)) n s

-- objects and arrays begin with other octets, and so does what is no value
abbrev pub other : ℕ → Bool
other b = no_value b || eqb b 0x7B || eqb b 0x5B

-- what tells a number from words and strings
abbrev quoted : ℕ → Bool
quoted b = eqb b 0x22 || eqb b 0x66 || eqb b 0x6E || eqb b 0x74

numeral : {text s u : List ℕ} → Spans (ScalarRule (number text)) s u → Spans Number s u
numeral w = recast w w.of.1

-- how a scalar begins, and that it takes something
abbrev Begun : List ℕ → List ℕ → Type 0
Begun s u = (other (at s 0) ≡ false) × (length u < length s)

pub scalar_begins : (x : Scalar) {s u : List ℕ} → Spans (ScalarRule x) s u → Begun s u
scalar_begins false_literal {u} w = subst (λ (l : List ℕ). Begun l u) (sym (spelled w)) (refl, omega arith)
scalar_begins null_literal {u} w = subst (λ (l : List ℕ). Begun l u) (sym (spelled w)) (refl, omega arith)
scalar_begins true_literal {u} w = subst (λ (l : List ℕ). Begun l u) (sym (spelled w)) (refl, omega arith)
scalar_begins (number text) {s} w =
    let (first, less) = number_head (numeral w) in
    (apart starts other ascii_starts refl (at s 0) first, less)
scalar_begins (string units) w = let q = string_complete w in (ap other q.head, q.shorter)

abbrev Good : Scalar → List ℕ → List ℕ → Type 0
Good x s u = Left (scalar_size s) s u × (scalar_said s ≡ x)

string_good : {units s u : List ℕ} → Spans (ScalarRule (string units)) s u → Good (string units) s u
unfolding scalar_size scalar_said
string_good w =
    let q = string_complete w in
    let quote = ap (λ (b : ℕ). eqb b 0x22) q.head in
    (rw quote q.left, rw quote (ap string q.said))

number_good : {text s u : List ℕ} → Spans (ScalarRule (number text)) s u → Ends u → Good (number text) s u
unfolding scalar_size scalar_said
number_good {text} {s} {u} w end =
    let b = at s 0 in
    let left = number_complete end (numeral w) in
    let unquoted = apart starts quoted ascii_starts refl b (number_head (numeral w)).0 in
    let (three, t) = neither (eqb b 0x22 || eqb b 0x66 || eqb b 0x6E) (eqb b 0x74) unquoted in
    let (two, n) = neither (eqb b 0x22 || eqb b 0x66) (eqb b 0x6E) three in
    let (q, f) = neither (eqb b 0x22) (eqb b 0x66) two in
    (rw (q, f, n, t) left, rw (q, f, n, t) (ap number (text_is left w ∙ w.of.0)))

pub scalar_complete : (x : Scalar) {s u : List ℕ} → Spans (ScalarRule x) s u → Ends u → Good x s u
unfolding scalar_size scalar_said
scalar_complete false_literal {u} w _ =
    subst (λ (l : List ℕ). Good false_literal l u) (sym (spelled w)) (left_text (octets "false") u, refl)
scalar_complete null_literal {u} w _ =
    subst (λ (l : List ℕ). Good null_literal l u) (sym (spelled w)) (left_text (octets "null") u, refl)
scalar_complete true_literal {u} w _ =
    subst (λ (l : List ℕ). Good true_literal l u) (sym (spelled w)) (left_text (octets "true") u, refl)
scalar_complete (number text) w end = number_good w end
scalar_complete (string units) w end = string_good w
