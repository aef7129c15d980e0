-- Document 01, "The register": header of 16 bytes, each entry 8 bytes. What is read out of them is what was put in, and
-- bytes put in one place leave the others.
-- Assumes nothing.
use Prim.Native.Nat.{ℕ, zero, suc, ◌+◌, ◌*◌, ◌-◌, ◌%◌, ◌≤◌, ◌<◌}
use native.Mathlib.Nat.{mod-add-div}
use native.Mathlib.Omega.{arith}
use mathlib.Core.Path.{◌≡◌, refl, sym, ap, ◌∙◌}
use mathlib.Core.Bool.{Bool, not, ◌&&◌, ◌||◌}
use mathlib.Core.List.{List, [], ◌∷◌}
use borrow.Author.Tests.{eq-eqb, le-ltb}
use lib.Dec.{eqb, ltb}
use lib.ListN.{length, take, drop, get_or, length-append, length-drop}
use lib.Seq.{drop_at, drop-drop, get_or-take, length-take-le, take_at, take-take}
use Rattle.rules.specs.Layout.{answer_in, aspect_in, entries, entry_at, entry_of, entry_start, header, report_in}
use Rattle.rules.specs.Layout.{settings_in}
use Rattle.rules.specs.Register.{head_answer, length_answer}
use Rattle.rules.specs.Words.{put, ◌if◌then◌}
use Rattle.rules.specs.declared.Report.{Report}
use Rattle.rules.specs.declared.Settings.{Settings}

-- ---- bytes put in one place

module _ (at : ℕ) (v b : List ℕ) (fits : at + length v ≤ length b) where
  before_length : length (take at b) ≡ at
  before_length = length-take-le at b (omega arith)

  pub put_before : take at (put at v b) ≡ take at b
  put_before = take_at (take at b) _ at before_length

  pub put_there : take (length v) (drop at (put at v b)) ≡ v
  put_there = ap (take (length v)) (drop_at (take at b) _ at before_length) ∙ take_at v _ (length v) refl

  pub put_after : drop (at + length v) (put at v b) ≡ drop (at + length v) b
  put_after =
      sym (drop-drop (length v) at (put at v b))
      ∙ ap (drop (length v)) (drop_at (take at b) _ at before_length)
      ∙ drop_at v _ (length v) refl

  pub put_length : length (put at v b) ≡ length b
  put_length = simp (length-append, length-drop, before_length) (omega arith)

-- ---- the first bytes

pub same_first : (m n : ℕ) (b b' : List ℕ) → m ≤ n → take n b ≡ take n b' → take m b ≡ take m b'
same_first m n b b' h e = sym (take-take m n b h) ∙ ap (take m) e ∙ take-take m n b' h

-- ---- the header

-- settings are read as they were written
pub header_settings : (c : Settings) → settings_in (header c) ≡ c
unfolding header settings_in
header_settings c =
    λ i.
    record {
      tracks = c.tracks;
      t1 = mod-add-div c.t1 256 i;
      t2 = mod-add-div c.t2 256 i;
      t3 = mod-add-div c.t3 256 i;
      t4 = mod-add-div c.t4 256 i;
      t5 = mod-add-div c.t5 256 i;
    }

-- from the first 16 bytes alone
first_byte : (b : List ℕ) (n : ℕ) → n < 16 → get_or (take 16 b) n 0 ≡ get_or b n 0
first_byte b n h = get_or-take 16 b n 0 h

first_settings : (b : List ℕ) → settings_in (take 16 b) ≡ settings_in b
unfolding settings_in
first_settings b =
    let at = first_byte b in
    λ i.
    record {
      tracks = at 5 (omega arith) i;
      t1 = at 6 (omega arith) i + 256 * at 7 (omega arith) i;
      t2 = at 8 (omega arith) i + 256 * at 9 (omega arith) i;
      t3 = at 10 (omega arith) i + 256 * at 11 (omega arith) i;
      t4 = at 12 (omega arith) i + 256 * at 13 (omega arith) i;
      t5 = at 14 (omega arith) i + 256 * at 15 (omega arith) i;
    }

pub same_settings_lem : (b b' : List ℕ) → take 16 b ≡ take 16 b' → settings_in b ≡ settings_in b'
same_settings_lem b b' e = sym (first_settings b) ∙ ap settings_in e ∙ first_settings b'

-- 9 and 10 are answered from the first 16 bytes, and from whether there are as many
abbrev head_from : Bool → List ℕ → ℕ
head_from short b =
    9 if short || not (eqb (get_or b 0 0) 67 && eqb (get_or b 1 0) 69 && eqb (get_or b 2 0) 65) then
    10 if not (eqb (get_or b 3 0 + 256 * get_or b 4 0) 1) then
    0

first_head : (b : List ℕ) → head_from (ltb (length b) 16) (take 16 b) ≡ head_answer b
unfolding head_answer
first_head b =
    let at = first_byte b in
    λ i.
    9 if ltb (length b) 16
    || not (eqb (at 0 (omega arith) i) 67 && eqb (at 1 (omega arith) i) 69 && eqb (at 2 (omega arith) i) 65) then
    10 if not (eqb (at 3 (omega arith) i + 256 * at 4 (omega arith) i) 1) then
    0

pub same_head : (b b' : List ℕ) → take 16 b ≡ take 16 b' → ltb (length b) 16 ≡ ltb (length b') 16
    → head_answer b ≡ head_answer b'
same_head b b' e l = sym (first_head b) ∙ (λ i. head_from (l i) (e i)) ∙ first_head b'

-- bytes that begin with a header hold its settings, and are refused with neither number
pub begun_settings : (c : Settings) (b : List ℕ) → take 16 b ≡ header c → settings_in b ≡ c
begun_settings c b e = sym (first_settings b) ∙ ap settings_in e ∙ header_settings c

pub begun_head : (c : Settings) (b : List ℕ) → take 16 b ≡ header c → 16 ≤ length b → head_answer b ≡ 0
unfolding header ◌if◌then◌
begun_head c b e h =
    sym (first_head b) ∙ λ i. head_from (le-ltb (length b) 16 h i) (e i)

-- ---- the length

-- whole entries, and not too many: neither 11 nor 12
pub length_done : (b : List ℕ) (n : ℕ) → length b ≡ entry_start n → n ≤ 8190 → length_answer b ≡ 0
unfolding length_answer ◌if◌then◌
length_done b n l few =
    λ i.
    11 if not (eq-eqb ((length b - 16) % 8) 0 (omega arith) i) then
    12 if le-ltb 8190 (entries b) (omega arith) i then
    0

-- ---- an entry

pub entry_report : (r : Report) (answer aspect : ℕ) → report_in (entry_of r answer aspect) ≡ r
unfolding entry_of report_in
entry_report r answer aspect =
    λ i. record { kind = r.kind; a = r.a; b = r.b; spare = r.spare; value = mod-add-div r.value 256 i }

pub entry_answer_lem : (r : Report) (answer aspect : ℕ) → answer_in (entry_of r answer aspect) ≡ answer
unfolding entry_of
entry_answer_lem r answer aspect = refl

pub entry_aspect : (r : Report) (answer aspect : ℕ) → aspect_in (entry_of r answer aspect) ≡ aspect
unfolding entry_of
entry_aspect r answer aspect = refl

-- bytes that end before the cut
part_of_first : (at size n : ℕ) (b : List ℕ) → at + size ≤ n → take size (drop at (take n b)) ≡ take size (drop at b)
part_of_first zero size n b h = take-take size n b (omega arith)
part_of_first (suc at) size zero b h = let z : ⊥ = omega arith in absurd z
part_of_first (suc at) size (suc n) [] h = refl
part_of_first (suc at) size (suc n) (x ∷ b) h = part_of_first at size n b (omega arith)

pub first_entry : (n j : ℕ) (b : List ℕ) → entry_start (suc j) ≤ n → entry_at (take n b) j ≡ entry_at b j
unfolding entry_at
first_entry n j b h = part_of_first (entry_start j) 8 n b (omega arith)

pub same_entry : (n j : ℕ) (b b' : List ℕ) → take n b ≡ take n b' → entry_start (suc j) ≤ n →
    entry_at b j ≡ entry_at b' j
same_entry n j b b' e h = sym (first_entry n j b h) ∙ ap (λ (l : List ℕ). entry_at l j) e ∙ first_entry n j b' h
