-- RFC 8259, section 7: `char_size` and `char_units` take exactly the texts of the rule `char`, and say what it says.
-- Assumes nothing.
use Prim.Native.Nat.{ℕ, ◌≤◌, ◌<◌}
use native.Mathlib.Decide.{dec_lt}
use native.Mathlib.Omega.{arith}
use mathlib.Core.Bool.{Bool, true, false, false≢true, cond, or-true, ◌&&◌, ◌||◌}
use mathlib.Core.List.{List, [], ◌∷◌, ◌++◌}
use mathlib.Core.Logic.{inl, inr, ⊎_elim}
use mathlib.Core.Path.{◌≡◌, refl, sym, ap, subst, subst₂, ◌∙◌}
use borrow.Author.Tests.{eqb-false, eqb-true, le-ltb, leb-true, ltb-false, ne_eqb}
use lib.Dec.{eqb, leb, ltb}
use lib.ListN.{length, length-append}
use Rattle.rules_json.specs.Abnf.{within}
use Rattle.rules_json.specs.Grammar.{Char, escaped, four_hex, hexdig, unescaped}
use Rattle.rules_json.specs.Reader.{at, char_size, char_units, decoded, escape_size, utf8_size}
use Rattle.rules_json.specs.Utf8.{character, utf16, utf8}
use Rattle.json_exact.proofs.Octets.{bounds, in_bounds}
use Rattle.json_exact.proofs.Sizes.{nonzero}
use Rattle.json_exact.proofs.Splits.{Left, Spans, Takes, both, chosen, chosen_said, either, first_of, fronted}
use Rattle.json_exact.proofs.Splits.{inside, left_text, neither, recast}
use Rattle.json_exact.proofs.Utf8.{utf8_complete, utf8_sound}

-- ---- which characters need no escape

-- an octet or a character that is neither a control, nor a quotation mark, nor an escape
record Plain (c : ℕ) : Type 0 where
  low : 0x20 ≤ c
  no_quote : c ≡ 0x22 → ⊥
  no_escape : c ≡ 0x5C → ⊥

unescaped_plain : (c : ℕ) → Plain c → c ≤ 0x10FFFF → unescaped c ≡ true
unescaped_plain c p most = go (dec_lt c 0x22) (dec_lt c 0x5C)
  where
    go : Dec (c < 0x22) → Dec (c < 0x5C) → unescaped c ≡ true
    go (yes x) _ = rw (in_bounds 0x20 0x21 c (p.low, omega arith))
    go (no x) (yes y) =
        ap (λ (t : Bool). within 0x20 0x21 c || t || within 0x5D 0x10FFFF c) (in_bounds 0x23 0x5B c (omega (arith, p)))
        ∙ ap (λ (t : Bool). t || within 0x5D 0x10FFFF c) (or-true (within 0x20 0x21 c))
    go (no x) (no y) =
        ap (λ (t : Bool). within 0x20 0x21 c || within 0x23 0x5B c || t) (in_bounds 0x5D 0x10FFFF c (omega (arith, p)))
        ∙ or-true (within 0x20 0x21 c || within 0x23 0x5B c)

plain_unescaped : (c : ℕ) → unescaped c ≡ true → Plain c
plain_unescaped c h =
    ⊎_elim
    (λ k. ⊎_elim (λ j. let w = bounds 0x20 0x21 c j in omega arith) (λ j. let w = bounds 0x23 0x5B c j in omega arith)
    (either (within 0x20 0x21 c) (within 0x23 0x5B c) k)) (λ k. let w = bounds 0x5D 0x10FFFF c k in omega arith)
    (either (within 0x20 0x21 c || within 0x23 0x5B c) (within 0x5D 0x10FFFF c) h)

-- ---- from a text to the character at its head

abbrev escape_units : List ℕ → List ℕ
escape_units s = cond (eqb (at s 1) 0x75) (four_hex (at s 2) (at s 3) (at s 4) (at s 5) ∷ []) (escaped (at s 1) ∷ [])

abbrev units_read : List ℕ → List ℕ
units_read s = cond (eqb (at s 0) 0x5C) (escape_units s) (utf16 (decoded s))

abbrev Read : List ℕ → List ℕ → ℕ → Type 0
Read s units n = Takes (Spans (Char units)) n s

plain_sound : (s : List ℕ) → Plain (at s 0) → (utf8_size s ≡ 0 → ⊥) → Read s (utf16 (decoded s)) (utf8_size s)
plain_sound s p some =
    let w = utf8_sound s (omega (arith, p)) some in
    let most = leb-true (decoded s) 0x10FFFF (both (leb (decoded s) 0x10FFFF) _ w.valid).0 in
    let text = w.octets.part in
    let plain = ⊎_elim (λ e. subst Plain (sym e) p) (λ high. omega arith) w.far in
    let free = unescaped_plain (decoded s) plain most in
    record { left = w.octets.left; part = first_of (recast text (decoded s, free, w.valid, refl, text.of)) }

module _ (s : List ℕ) (back : at s 0 ≡ 0x5C) where
  short_sound : (eqb (escaped (at s 1)) 0 ≡ false) → Read s (escaped (at s 1) ∷ []) 2
  short_sound h =
      fronted 2 s (inside s 1 (λ z. eqb-false (escaped (at s 1)) 0 h (ap escaped z)))
      (inr (inl (at s 1, h, refl, ap {B = List ℕ} (λ k. k ∷ at s 1 ∷ []) back)))

  abbrev hex : Bool
  hex = hexdig (at s 2) && hexdig (at s 3) && hexdig (at s 4) && hexdig (at s 5)

  long_sound : eqb (at s 1) 0x75 ≡ true → hex ≡ true → Read s (four_hex (at s 2) (at s 3) (at s 4) (at s 5) ∷ []) 6
  long_sound u h =
      let (habc, hd) = both (hexdig (at s 2) && hexdig (at s 3) && hexdig (at s 4)) (hexdig (at s 5)) h in
      let (hab, hc) = both (hexdig (at s 2) && hexdig (at s 3)) (hexdig (at s 4)) habc in
      let (ha, hb) = both (hexdig (at s 2)) (hexdig (at s 3)) hab in
      let letter = eqb-true (at s 1) 0x75 u in
      let rest = at s 2 ∷ at s 3 ∷ at s 4 ∷ at s 5 ∷ [] in
      fronted 6 s (inside s 5 (λ z. false≢true (ap hexdig (sym z) ∙ hd)))
      (inr (inr (at s 2, at s 3, at s 4, at s 5, ha, hb, hc, hd, refl, λ i. back i ∷ letter i ∷ rest)))

  escape_sound : (escape_size s ≡ 0 → ⊥) → Read s (escape_units s) (escape_size s)
  unfolding escape_size
  escape_sound =
      chosen_said (Read s) (eqb (at s 1) 0x75) _ _ _ _
      (λ u. chosen (Read s _) hex 6 0 (λ h _. long_sound u h) (λ _ z. absurd (z refl)))
      (λ _. chosen (Read s _) (eqb (escaped (at s 1)) 0) 0 2 (λ _ z. absurd (z refl)) (λ h _. short_sound h))

pub char_sound : (s : List ℕ) → (char_size s ≡ 0 → ⊥) → Takes (Spans (Char (char_units s))) (char_size s) s
unfolding char_size char_units
char_sound s some =
    subst (λ (t : Bool). Read s (cond t [] (units_read s)) (char_size s)) (sym (ne_eqb (char_size s) 0 some))
    (chosen (Read s (units_read s)) (ltb (at s 0) 0x20 || eqb (at s 0) 0x22) 0 _ (λ _ z. absurd (z refl))
    (λ out. chosen_said (Read s) (eqb (at s 0) 0x5C) _ _ _ _ (λ e. escape_sound s (eqb-true (at s 0) 0x5C e))
    (λ e. plain_sound s (plain out (eqb-false (at s 0) 0x5C e)))) some)
  where
    plain : ltb (at s 0) 0x20 || eqb (at s 0) 0x22 ≡ false → (at s 0 ≡ 0x5C → ⊥) → Plain (at s 0)
    plain out no_escape =
        let (low, quote) = neither (ltb (at s 0) 0x20) (eqb (at s 0) 0x22) out in
        record { low = ltb-false (at s 0) 0x20 low; no_quote = eqb-false (at s 0) 0x22 quote; no_escape = no_escape }

-- ---- from a character to the text

pub record Given (units s u : List ℕ) : Type 0 where
  pub left : Left (char_size s) s u
  pub says : char_units s ≡ units
  pub no_quote : eqb (at s 0) 0x22 ≡ false
  pub shorter : length u < length s

short_complete : (b : ℕ) (u : List ℕ) → eqb (escaped b) 0 ≡ false → Given (escaped b ∷ []) (0x5C ∷ b ∷ u) u
unfolding char_size char_units escape_size
short_complete b u h =
    let no-u = ne_eqb b 0x75 (λ z. false≢true (sym h ∙ ap (λ (k : ℕ). eqb (escaped k) 0) z)) in
    let left = left_text (0x5C ∷ b ∷ []) u in
    record { left = rw (no-u, h) left; says = rw (no-u, h); no_quote = refl; shorter = omega arith }

long_complete : (a b c d : ℕ) (u : List ℕ) → hexdig a ≡ true → hexdig b ≡ true → hexdig c ≡ true → hexdig d ≡ true
    → Given (four_hex a b c d ∷ []) (0x5C ∷ 0x75 ∷ a ∷ b ∷ c ∷ d ∷ u) u
unfolding char_size char_units escape_size
long_complete a b c d u ha hb hc hd =
    let left = left_text (0x5C ∷ 0x75 ∷ a ∷ b ∷ c ∷ d ∷ []) u in
    record { left = rw (ha, hb, hc, hd) left; says = rw (ha, hb, hc, hd); no_quote = refl; shorter = omega arith }

plain_complete : (c : ℕ) (u : List ℕ) → Plain c → character c ≡ true → Given (utf16 c) (utf8 c ++ u) u
unfolding char_size char_units
plain_complete c u plain valid =
    let s = utf8 c ++ u in
    let w = utf8_complete c valid in
    let p : Plain (at s 0) = ⊎_elim (λ e. subst Plain (sym e) plain) (λ high. omega arith) (w.head u) in
    let low = le-ltb (at s 0) 0x20 p.low in
    let no_quote = ne_eqb (at s 0) 0x22 p.no_quote in
    let no_escape = ne_eqb (at s 0) 0x5C p.no_escape in
    let left : Left (utf8_size s) s u = subst (λ (n : ℕ). Left n s u) (sym (w.size u)) (left_text (utf8 c) u) in
    let shorter : length u < length s = omega (arith, length-append (utf8 c) u, w.some) in
    let says : char_units s ≡ utf16 c = rw (low, no_quote, no_escape, nonzero left shorter) (ap utf16 (w.said u)) in
    record { left = rw (low, no_quote, no_escape) left; says = says; no_quote = no_quote; shorter = shorter }

pub char_complete : {units s u : List ℕ} → Spans (Char units) s u → Given units s u
char_complete {units} {s} {u} w = go w.text w.split w.of
  where
    moved : {said text t : List ℕ} → s ≡ t ++ u → units ≡ said → t ≡ text → Given said (text ++ u) u → Given units s u
    moved split e same g =
        subst₂ (λ (x l : List ℕ). Given x l u) (sym e) (sym (split ∙ ap (λ (l : List ℕ). l ++ u) same)) g

    go : (t : List ℕ) → s ≡ t ++ u → Char units t → Given units s u
    go t split (inl (c, h, valid, e, same)) = moved split e same (plain_complete c u (plain_unescaped c h) valid)
    go t split (inr (inl (b, h, e, same))) = moved split e same (short_complete b u h)
    go t split (inr (inr (a, b, c, d, ha, hb, hc, hd, e, same))) =
        moved split e same (long_complete a b c d u ha hb hc hd)
