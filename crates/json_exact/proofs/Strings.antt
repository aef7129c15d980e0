-- RFC 8259, section 7: `string_size` and `string_units` take exactly the texts of the rule `string`, and say what it
-- says.
-- Assumes nothing.
use Prim.Native.Nat.{ℕ, suc, ◌<◌}
use native.Mathlib.Omega.{arith}
use mathlib.Core.Bool.{true, cond, or-true}
use mathlib.Core.List.{List, [], ◌∷◌, ◌++◌}
use mathlib.Core.Path.{◌≡◌, refl, sym, ap, subst, subst₂, ◌∙◌}
use borrow.Author.Tests.{eqb-false, eqb-true}
use lib.Dec.{eqb, ltb}
use lib.ListN.{drop, length}
use Rattle.rules_json.specs.Abnf.{row, ◌then◌}
use Rattle.rules_json.specs.Grammar.{Char, Quotation, String, joined}
use Rattle.rules_json.specs.Reader.{Step, at, char_size, char_units, collects, fails, further, goes_on, last, runs}
use Rattle.rules_json.specs.Reader.{string_size, string_step, string_units}
use Rattle.json_exact.proofs.Characters.{char_complete, char_sound}
use Rattle.json_exact.proofs.Sizes.{further_left, further_takes, nonzero}
use Rattle.json_exact.proofs.Splits.{Left, Part, Spans, Takes, by_test, chosen, cut, headed, join, left_cons}
use Rattle.json_exact.proofs.Splits.{left_none, recast, spell, spelled}
use Rattle.json_exact.proofs.Steps.{Fits, Laws, Stepped, Steps, end, runs_complete, runs_sound, shorter_steps}
use Rattle.json_exact.proofs.Steps.{turn}

-- ---- a step

abbrev Closes : List ℕ → Part
Closes x s u = (x ≡ []) × (s ≡ 0x22 ∷ u)

abbrev Goes : List ℕ → Part
Goes x = Spans (Char x)

abbrev Chars : List ℕ → Part
Chars = Steps Closes Goes

no_units : (s : List ℕ) → eqb (at s 0) 0x22 ≡ true → char_units s ≡ []
unfolding char_size char_units
no_units s e = rw (e, or-true (ltb (at s 0) 0x20))

string_fits : (s : List ℕ) → Fits Closes Goes (char_units s) s (string_step s)
string_fits s =
    by_test (λ t. F (cond t (last 1) (cond (eqb (char_size s) 0) fails (goes_on (char_size s))))) (eqb (at s 0) 0x22)
    quote
    (λ _. by_test (λ t. F (cond t fails (goes_on (char_size s)))) (eqb (char_size s) 0) (λ _. tt)
    (λ some. char_sound s (eqb-false (char_size s) 0 some)))
  where
    F : Step → Type 0
    F = Fits Closes Goes (char_units s) s

    quote : eqb (at s 0) 0x22 ≡ true → Takes (Closes (char_units s)) 1 s
    quote q =
        let w = headed s 0x21 (eqb-true (at s 0) 0x22 q) in
        record { left = w.left; part = (no_units s q, w.part) }

closing : {x s u : List ℕ} → Closes x s u → Stepped string_step char_units last x s u
closing {x} {s} {u} (empty, quote) =
    subst₂ (λ (y l : List ℕ). Stepped string_step char_units last y l u) (sym empty) (sym quote)
    (record {
      size = 1;
      is = refl;
      left = left_cons 0x22 left_none;
      said = no_units (0x22 ∷ u) refl;
      shorter = omega arith;
    })

going : {x s u : List ℕ} → Goes x s u → Stepped string_step char_units goes_on x s u
going {s} w =
    let g = char_complete w in
    record {
      size = char_size s;
      is = rw (g.no_quote, nonzero g.left g.shorter);
      left = g.left;
      said = g.says;
      shorter = g.shorter;
    }

string_laws : Laws string_step char_units Closes Goes
string_laws = record { fits = string_fits; at_end = closing; at_turn = going }

-- ---- steps and the rule

-- the characters that steps take, up to the quotation mark
record Row (units m u : List ℕ) : Type 0 where
  chars : List (List ℕ)
  same : units ≡ joined chars
  rest : List ℕ
  spans : Spans (row Char chars) m rest
  quote : rest ≡ 0x22 ∷ u

row_of : {units m u : List ℕ} → Chars units m u → Row units m u
row_of (end (empty, quote)) = record { chars = []; same = empty; rest = _; spans = spell [] refl; quote = quote }
row_of (turn {x} w r) =
    let next = row_of r in
    record {
      chars = x ∷ next.chars;
      same = ap (λ (l : List ℕ). x ++ l) next.same;
      rest = next.rest;
      spans = join w next.spans;
      quote = next.quote;
    }

chars_of : (chars : List (List ℕ)) {m k u : List ℕ} → Spans (row Char chars) m k → k ≡ 0x22 ∷ u
    → Chars (joined chars) m u
chars_of [] w quote = end (refl, spelled w ∙ quote)
chars_of (x ∷ chars) w quote =
    let (m, p, q) = cut (Char x) (row Char chars) w in
    turn p (chars_of chars q quote)

string_of : {units s m u : List ℕ} → s ≡ 0x22 ∷ m → Chars units m u → Spans (String units) s u
string_of quote r =
    let w = row_of r in
    let whole = join (spell (0x22 ∷ []) quote) (join w.spans (spell (0x22 ∷ []) w.quote)) in
    recast whole (w.chars, w.same, whole.of)

opened : {units s u : List ℕ} → Spans (String units) s u → (m : List ℕ) × (s ≡ 0x22 ∷ m) × Chars units m u
opened {s} {u} w =
    let (chars, same, of) = w.of in
    let (m, p, q) = cut Quotation (row Char chars then Quotation) (recast w of) in
    let (k, r, quote) = cut (row Char chars) Quotation q in
    (m, spelled p, subst (λ (units : List ℕ). Chars units m u) (sym same) (chars_of chars r (spelled quote)))

-- ---- strings

pub string_sound : (s : List ℕ) → (string_size s ≡ 0 → ⊥) → Takes (Spans (String (string_units s))) (string_size s) s
unfolding string_size string_units
string_sound s =
    chosen (λ n. Takes (Spans (String units)) n s) (eqb (at s 0) 0x22) _ 0 quote (λ _ z. absurd (z refl))
  where
    units : List ℕ
    units = collects string_step char_units (length s) (drop 1 s)

    inner : ℕ
    inner = runs string_step (length s) (drop 1 s)

    quote : eqb (at s 0) 0x22 ≡ true → (further 1 inner ≡ 0 → ⊥) → Takes (Spans (String units)) (further 1 inner) s
    quote q =
        let w = headed s 0x21 (eqb-true (at s 0) 0x22 q) in
        further_takes (Spans (String units)) (Chars units) w.left (runs_sound string_laws (length s) (drop 1 s))
        (λ u r. string_of w.part r)

pub record Quoted (units s u : List ℕ) : Type 0 where
  pub left : Left (string_size s) s u
  pub said : string_units s ≡ units
  pub head : at s 0 ≡ 0x22
  pub shorter : length u < length s

pub string_complete : {units s u : List ℕ} → Spans (String units) s u → Quoted units s u
unfolding string_size string_units
string_complete {units} {s} {u} w =
    let (m, quote, r) = opened w in
    let (left, said) = runs_complete string_laws r (suc (length m)) (omega arith) in
    let less = shorter_steps string_laws r in
    subst (λ (l : List ℕ). Quoted units l u) (sym quote)
    (record {
      left = further_left (runs string_step (suc (length m))) (left_cons 0x22 left_none) left less;
      said = said;
      head = refl;
      shorter = omega arith;
    })
