-- RFC 3629: `utf8_size` and `decoded` take exactly the octets of a character at the head of a text.
-- Assumes nothing.
use Prim.Native.Nat.{ℕ, ◌+◌, ◌-◌, ◌*◌, ◌/◌, ◌≤◌, ◌<◌}
use native.Mathlib.Decide.{dec_le}
use native.Mathlib.Omega.{arith}
use mathlib.Core.Bool.{Bool, true, false, cond, not, ◌&&◌}
use mathlib.Core.List.{List, [], ◌∷◌, ◌++◌}
use mathlib.Core.Logic.{◌⊎◌, inl, inr, ⊎_elim}
use mathlib.Core.Path.{◌≡◌, refl, sym, ap, subst, ◌∙◌}
use borrow.Author.Tests.{le-leb, le-ltb, leb-false, leb-true, lt-ltb, ltb-false, ltb-true, not-true}
use lib.Dec.{leb, ltb}
use lib.ListN.{length}
use Rattle.rules_json.specs.Abnf.{these, within}
use Rattle.rules_json.specs.Reader.{at, below, decoded, second, tail, utf8_size}
use Rattle.rules_json.specs.Utf8.{character, following, utf8}
use Rattle.json_exact.proofs.Octets.{Said, above, bounds, character_low, four_said, four_of, in_bounds, join_four}
use Rattle.json_exact.proofs.Octets.{second_four, second_three, three_said, three_of, two_said, utf8_four}
use Rattle.json_exact.proofs.Octets.{utf8_one, utf8_three, utf8_two}
use Rattle.json_exact.proofs.Splits.{Spans, Takes, both, chosen, fronted, inside, octets_at}

-- ---- from a text to the character at its head

-- n octets of s are the octets of the character that is read there
pub record Reads (n : ℕ) (s : List ℕ) : Type 0 where
  pub octets : Takes (Spans (these (utf8 (decoded s)))) n s
  pub valid : character (decoded s) ≡ true
  pub far : (decoded s ≡ at s 0) ⊎ (0x80 ≤ decoded s)

module _ (s : List ℕ) where
  from_said : (n c : ℕ) → n ≤ length s → decoded s ≡ c → Said (octets_at n 0 s) c → Reads n s
  from_said n c h e w =
      let octets = fronted n s h (sym (ap utf8 e ∙ w.same)) in
      record { octets = octets; valid = ap character e ∙ w.valid; far = inr (omega (arith, w.far)) }

  one_octet : 0 < at s 0 → ltb (at s 0) 0x80 ≡ true → Reads 1 s
  unfolding decoded
  one_octet some h =
      let low = ltb-true (at s 0) 0x80 h in
      let e : decoded s ≡ at s 0 = rw h in
      let octets = fronted 1 s (inside s 0 (λ z. omega arith)) (sym (ap utf8 e ∙ utf8_one (at s 0) (omega arith))) in
      record { octets = octets; valid = ap character e ∙ character_low (at s 0) (omega arith); far = inl e }

  two_octets : 0x80 ≤ at s 0 → within 0xC2 0xDF (at s 0) ≡ true → tail (at s 1) ≡ true → Reads 2 s
  unfolding decoded
  two_octets low h k =
      let ha = bounds 0xC2 0xDF (at s 0) h in
      let hb = bounds 0x80 0xBF (at s 1) k in
      from_said 2 (below (at s 0 - 0xC0) (at s 1)) (inside s 1 (λ z. omega arith))
      (rw (le-ltb (at s 0) 0x80 low, lt-ltb (at s 0) 0xE0 (omega arith))) (two_said (at s 0) (at s 1) ha hb)

  three_octets : within 0xE0 0xEF (at s 0) ≡ true → second (at s 0) (at s 1) && tail (at s 2) ≡ true → Reads 3 s
  unfolding decoded
  three_octets h k =
      let ha = bounds 0xE0 0xEF (at s 0) h in
      let (kb, kd) = both (second (at s 0) (at s 1)) (tail (at s 2)) k in
      let hd = bounds 0x80 0xBF (at s 2) kd in
      from_said 3 (three_of (at s 0) (at s 1) (at s 2)) (inside s 2 (λ z. omega arith))
      (rw (le-ltb (at s 0) 0x80 (omega arith), le-ltb (at s 0) 0xE0 ha.0, lt-ltb (at s 0) 0xF0 (omega arith)))
      (three_said (at s 0) (at s 1) (at s 2) ha kb hd)

  four_octets : within 0xF0 0xF4 (at s 0) ≡ true → second (at s 0) (at s 1) && tail (at s 2) && tail (at s 3) ≡ true
      → Reads 4 s
  unfolding decoded
  four_octets h k =
      let ha = bounds 0xF0 0xF4 (at s 0) h in
      let (kbd, kf) = both (second (at s 0) (at s 1) && tail (at s 2)) (tail (at s 3)) k in
      let (kb, kd) = both (second (at s 0) (at s 1)) (tail (at s 2)) kbd in
      let hd = bounds 0x80 0xBF (at s 2) kd in
      let hf = bounds 0x80 0xBF (at s 3) kf in
      from_said 4 (four_of (at s 0) (at s 1) (at s 2) (at s 3)) (inside s 3 (λ z. omega arith))
      (rw (le-ltb (at s 0) 0x80 (omega arith), le-ltb (at s 0) 0xE0 (omega arith), le-ltb (at s 0) 0xF0 ha.0))
      (four_said (at s 0) (at s 1) (at s 2) (at s 3) ha kb hd hf)

  abbrev R : ℕ → Type 0
  R n = Reads n s

  -- where a test is passed or the size is 0
  passing : (t : Bool) (n : ℕ) → (t ≡ true → Reads n s) → (cond t n 0 ≡ 0 → ⊥) → Reads (cond t n 0) s
  passing t n read = chosen R t n 0 (λ e _. read e) (λ _ z. absurd (z refl))

  pub utf8_sound : 0 < at s 0 → (utf8_size s ≡ 0 → ⊥) → Reads (utf8_size s) s
  unfolding utf8_size
  utf8_sound some =
      chosen R (ltb (at s 0) 0x80) _ _ (λ h _. one_octet some h)
      (λ low. chosen R (within 0xC2 0xDF (at s 0)) _ _
      (λ h. passing (tail (at s 1)) 2 (two_octets (ltb-false (at s 0) 0x80 low) h))
      (λ _. chosen R (within 0xE0 0xEF (at s 0)) _ _
      (λ h. passing (second (at s 0) (at s 1) && tail (at s 2)) 3 (three_octets h))
      (λ _. chosen R (within 0xF0 0xF4 (at s 0)) _ _
      (λ h. passing (second (at s 0) (at s 1) && tail (at s 2) && tail (at s 3)) 4 (four_octets h))
      (λ _ z. absurd (z refl)))))

-- ---- from a character to the text

-- these octets, whatever stands behind them, say the character; beyond ASCII the first of them is none of ASCII
pub record Says (c : ℕ) (l : List ℕ) : Type 0 where
  pub size : (u : List ℕ) → utf8_size (l ++ u) ≡ length l
  pub said : (u : List ℕ) → decoded (l ++ u) ≡ c
  pub some : 0 < length l
  pub head : (u : List ℕ) → (at (l ++ u) 0 ≡ c) ⊎ (0x80 ≤ at (l ++ u) 0)

says_one_lem : (c : ℕ) → c ≤ 0x7F → Says c (c ∷ [])
unfolding utf8_size decoded
says_one_lem c h =
    let t = lt-ltb c 0x80 (omega arith) in
    record { size = λ _. rw t; said = λ _. rw t; some = omega arith; head = λ _. inl refl }

says_two : (c : ℕ) → 0x7F < c → c ≤ 0x7FF → Says c ((0xC0 + c / 64) ∷ following c ∷ [])
unfolding utf8_size decoded
says_two c h k =
    let a = 0xC0 + c / 64 in
    let wide = le-ltb a 0x80 (omega arith) in
    let first = in_bounds 0xC2 0xDF a (omega arith) in
    let last = in_bounds 0x80 0xBF (following c) (omega arith) in
    record {
      size = λ _. rw (wide, first, last);
      said = λ _. rw (wide, lt-ltb a 0xE0 (omega arith)) (omega arith);
      some = omega arith;
      head = λ _. inr (omega arith);
    }

no_surrogate : (c : ℕ) → character c ≡ true → (c ≤ 0x10FFFF) × ((c < 0xD800) ⊎ (0xDFFF < c))
no_surrogate c h =
    let (most, out) = both (leb c 0x10FFFF) (not (within 0xD800 0xDFFF c)) h in
    (leb-true c 0x10FFFF most, go (dec_le 0xD800 c) (not-true (within 0xD800 0xDFFF c) out))
  where
    go : Dec (0xD800 ≤ c) → within 0xD800 0xDFFF c ≡ false → (c < 0xD800) ⊎ (0xDFFF < c)
    go (yes low) out = inr (leb-false c 0xDFFF (ap (λ (t : Bool). t && leb c 0xDFFF) (sym (le-leb 0xD800 c low)) ∙ out))
    go (no low) out = inl (omega arith)

says_three : (c : ℕ) → 0x7FF < c → c ≤ 0xFFFF → (c < 0xD800) ⊎ (0xDFFF < c)
    → Says c ((0xE0 + c / 4096) ∷ following (c / 64) ∷ following c ∷ [])
unfolding utf8_size decoded
says_three c h k out =
    let a = 0xE0 + c / 4096 in
    let b = following (c / 64) in
    let surrogates : (a * 256 + b < 0xEDA0) ⊎ (0xEE00 ≤ a * 256 + b) =
    ⊎_elim (λ most. inl (omega arith)) (λ least. inr (omega arith)) out in
    let wide = le-ltb a 0x80 (omega arith) in
    let no-two = above 0xC2 0xDF a (omega arith) in
    let first = in_bounds 0xE0 0xEF a (omega arith) in
    let narrow = (second_three a b (omega arith)).1 (omega arith, omega arith, surrogates) in
    let last = in_bounds 0x80 0xBF (following c) (omega arith) in
    record {
      size = λ _. rw (wide, no-two, first, narrow, last);
      said = λ _. rw (wide, le-ltb a 0xE0 (omega arith), lt-ltb a 0xF0 (omega arith)) (omega arith);
      some = omega arith;
      head = λ _. inr (omega arith);
    }

says_four : (c : ℕ) → 0xFFFF < c → c ≤ 0x10FFFF
    → Says c ((0xF0 + c / 262144) ∷ following (c / 4096) ∷ following (c / 64) ∷ following c ∷ [])
unfolding utf8_size decoded
says_four c h k =
    let a = 0xF0 + c / 262144 in
    let b = following (c / 4096) in
    let wide = le-ltb a 0x80 (omega arith) in
    let no-two = above 0xC2 0xDF a (omega arith) in
    let no-three = above 0xE0 0xEF a (omega arith) in
    let first = in_bounds 0xF0 0xF4 a (omega arith) in
    let narrow = (second_four a b (omega arith)).1 (omega arith) in
    let third = in_bounds 0x80 0xBF (following (c / 64)) (omega arith) in
    let last = in_bounds 0x80 0xBF (following c) (omega arith) in
    let back = le-ltb a 0xF0 (omega arith) in
    record {
      size = λ _. rw (wide, no-two, no-three, first, narrow, third, last);
      said = λ _. rw (wide, le-ltb a 0xE0 (omega arith), back) (omega (arith, join_four c));
      some = omega arith;
      head = λ _. inr (omega arith);
    }

pub utf8_complete : (c : ℕ) → character c ≡ true → Says c (utf8 c)
utf8_complete c h = let (most, out) = no_surrogate c h in go most out (dec_le c 0x7F) (dec_le c 0x7FF) (dec_le c 0xFFFF)
  where
    go : c ≤ 0x10FFFF → (c < 0xD800) ⊎ (0xDFFF < c) → Dec (c ≤ 0x7F) → Dec (c ≤ 0x7FF) → Dec (c ≤ 0xFFFF)
        → Says c (utf8 c)
    go most out (yes x) _ _ = subst (Says c) (sym (utf8_one c x)) (says_one_lem c x)
    go most out (no x) (yes y) _ =
        let x' : 0x7F < c = omega arith in subst (Says c) (sym (utf8_two c x' y)) (says_two c x' y)
    go most out (no x) (no y) (yes z) =
        let y' : 0x7FF < c = omega arith in subst (Says c) (sym (utf8_three c y' z)) (says_three c y' z out)
    go most out (no x) (no y) (no z) =
        let z' : 0xFFFF < c = omega arith in subst (Says c) (sym (utf8_four c z')) (says_four c z' most)
