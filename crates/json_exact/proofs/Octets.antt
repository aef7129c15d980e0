-- RFC 3629: `utf8_size` and `decoded` take exactly the octets of a character, of each of the four lengths.
-- Assumes nothing.
use Prim.Native.Nat.{ℕ, ◌+◌, ◌-◌, ◌*◌, ◌/◌, ◌%◌, ◌≤◌, ◌<◌}
use native.Mathlib.Decide.{dec_lt, ℕ_discrete}
use native.Mathlib.Omega.{arith}
use mathlib.Core.Bool.{Bool, and-false, true, false, ◌&&◌}
use mathlib.Core.List.{List, [], ◌∷◌}
use mathlib.Core.Logic.{◌⊎◌, inl, inr, ⊎_elim, ◌↔◌}
use mathlib.Core.Path.{◌≡◌, sym, ap, ap₂, ◌∙◌}
use borrow.Author.Tests.{le-leb, leb-true, lt-leb, ne_eqb}
use lib.Dec.{leb}
use Rattle.rules_json.specs.Abnf.{within}
use Rattle.rules_json.specs.Reader.{below, second}
use Rattle.rules_json.specs.Utf8.{character, following, utf8}
use Rattle.json_exact.proofs.Splits.{both}

-- ---- the numbers

module _ (x y : ℕ) (hy : y < 64) where
  split_two : ((x * 64 + y) / 64 ≡ x) × ((x * 64 + y) % 64 ≡ y)
  split_two = omega arith

module _ (x y z : ℕ) (hy : y < 64) (hz : z < 64) where
  split_three : (((x * 64 + y) * 64 + z) / 4096 ≡ x) × ((((x * 64 + y) * 64 + z) / 64) % 64 ≡ y)
      × (((x * 64 + y) * 64 + z) % 64 ≡ z)
  split_three = omega arith

module _ (w x y z : ℕ) (hx : x < 64) (hy : y < 64) (hz : z < 64) where
  abbrev four : ℕ
  four = ((w * 64 + x) * 64 + y) * 64 + z

  split_four : (four / 262144 ≡ w) × ((four / 4096) % 64 ≡ x) × ((four / 64) % 64 ≡ y) × (four % 64 ≡ z)
  split_four = omega arith

module _ (c : ℕ) where
  pub join_four : (((c / 262144) * 64 + (c / 4096) % 64) * 64 + (c / 64) % 64) * 64 + c % 64 ≡ c
  join_four = omega arith

-- ---- the four rows of the table

module _ (c : ℕ) where
  pub utf8_one : c ≤ 0x7F → utf8 c ≡ c ∷ []
  unfolding utf8
  utf8_one h = rw (le-leb c 0x7F h)

  pub utf8_two : 0x7F < c → c ≤ 0x7FF → utf8 c ≡ (0xC0 + c / 64) ∷ following c ∷ []
  unfolding utf8
  utf8_two h k = rw (lt-leb c 0x7F h, le-leb c 0x7FF k)

  pub utf8_three : 0x7FF < c → c ≤ 0xFFFF → utf8 c ≡ (0xE0 + c / 4096) ∷ following (c / 64) ∷ following c ∷ []
  unfolding utf8
  utf8_three h k = rw (lt-leb c 0x7F (omega arith), lt-leb c 0x7FF h, le-leb c 0xFFFF k)

  pub utf8_four : 0xFFFF < c
      → utf8 c ≡ (0xF0 + c / 262144) ∷ following (c / 4096) ∷ following (c / 64) ∷ following c ∷ []
  unfolding utf8
  utf8_four h = rw (lt-leb c 0x7F (omega arith), lt-leb c 0x7FF (omega arith), lt-leb c 0xFFFF h)

  pub character_low : c < 0xD800 → character c ≡ true
  character_low h = rw (le-leb c 0x10FFFF (omega arith), lt-leb 0xD800 c h)

  character_high : 0xE000 ≤ c → c ≤ 0x10FFFF → character c ≡ true
  character_high h k = rw (le-leb c 0x10FFFF k, le-leb 0xD800 c (omega arith), lt-leb c 0xDFFF h)

abbrev pub Within : ℕ → ℕ → ℕ → Type 0
Within least most b = (least ≤ b) × (b ≤ most)

pub bounds : (least most b : ℕ) → within least most b ≡ true → Within least most b
bounds least most b h =
    let (low, high) = both (leb least b) (leb b most) h in
    (leb-true least b low, leb-true b most high)

pub in_bounds : (least most b : ℕ) → Within least most b → within least most b ≡ true
in_bounds least most b h = ap₂ ◌&&◌ (le-leb least b h.0) (le-leb b most h.1)

pub above : (least most b : ℕ) → most < b → within least most b ≡ false
above least most b h = ap (λ (t : Bool). leb least b && t) (lt-leb b most h) ∙ and-false (leb least b)

-- ---- the second octet, which the first may narrow

second_any : (a b : ℕ) → (a ≡ 0xE0 → ⊥) → (a ≡ 0xED → ⊥) → (a ≡ 0xF0 → ⊥) → (a ≡ 0xF4 → ⊥)
    → second a b ≡ within 0x80 0xBF b
second_any a b x y z w = rw (ne_eqb a 0xE0 x, ne_eqb a 0xED y, ne_eqb a 0xF0 z, ne_eqb a 0xF4 w)

abbrev pub Three : ℕ → ℕ → Type 0
Three a b = Within 0x80 0xBF b × (0xE0A0 ≤ a * 256 + b) × ((a * 256 + b < 0xEDA0) ⊎ (0xEE00 ≤ a * 256 + b))

abbrev pub Four : ℕ → ℕ → Type 0
Four a b = Within 0x80 0xBF b × Within 0xF090 0xF48F (a * 256 + b)

module _ (a b : ℕ) where
  at_first : {k : ℕ} → a ≡ k → second a b ≡ second k b
  at_first = ap (λ (first : ℕ). second first b)

  pub second_three : Within 0xE0 0xEF a → second a b ≡ true ↔ Three a b
  second_three ha = go (ℕ_discrete a 0xE0) (ℕ_discrete a 0xED) (dec_lt a 0xED)
    where
      go : Dec (a ≡ 0xE0) → Dec (a ≡ 0xED) → Dec (a < 0xED) → second a b ≡ true ↔ Three a b
      go (yes x) _ _ = (
        λ h. let w = bounds 0xA0 0xBF b (sym (at_first x) ∙ h) in (omega arith, omega arith, inl (omega arith)),
        λ w. at_first x ∙ in_bounds 0xA0 0xBF b (omega arith),
      )
      go (no x) (yes y) _ = (
        λ h. let w = bounds 0x80 0x9F b (sym (at_first y) ∙ h) in (omega arith, omega arith, inl (omega arith)),
        λ w. at_first y ∙ in_bounds 0x80 0x9F b (⊎_elim (λ most. omega arith) (λ least. omega arith) w.2),
      )
      go (no x) (no y) less =
          let any = second_any a b x y (λ z. omega arith) (λ z. omega arith) in (
            λ h. let w = bounds 0x80 0xBF b (sym any ∙ h) in (w, omega arith, side w less),
            λ w. any ∙ in_bounds 0x80 0xBF b w.0,
          )
        where
          side : Within 0x80 0xBF b → Dec (a < 0xED) → (a * 256 + b < 0xEDA0) ⊎ (0xEE00 ≤ a * 256 + b)
          side w (yes z) = inl (omega arith)
          side w (no z) = inr (omega arith)

  pub second_four : Within 0xF0 0xF4 a → second a b ≡ true ↔ Four a b
  second_four ha = go (ℕ_discrete a 0xF0) (ℕ_discrete a 0xF4)
    where
      go : Dec (a ≡ 0xF0) → Dec (a ≡ 0xF4) → second a b ≡ true ↔ Four a b
      go (yes x) _ = (
        λ h. let w = bounds 0x90 0xBF b (sym (at_first x) ∙ h) in omega arith,
        λ w. at_first x ∙ in_bounds 0x90 0xBF b (omega arith),
      )
      go (no x) (yes y) = (
        λ h. let w = bounds 0x80 0x8F b (sym (at_first y) ∙ h) in omega arith,
        λ w. at_first y ∙ in_bounds 0x80 0x8F b (omega arith),
      )
      go (no x) (no y) =
          let any = second_any a b (λ z. omega arith) (λ z. omega arith) x y in (
            λ h. let w = bounds 0x80 0xBF b (sym any ∙ h) in omega arith,
            λ w. any ∙ in_bounds 0x80 0xBF b w.0,
          )

-- ---- from octets to a character

-- what octets say, and the character's own
pub record Said (octets : List ℕ) (c : ℕ) : Type 0 where
  pub same : utf8 c ≡ octets
  pub valid : character c ≡ true
  pub far : 0x80 ≤ c

pub two_said : (a b : ℕ) → Within 0xC2 0xDF a → Within 0x80 0xBF b → Said (a ∷ b ∷ []) (below (a - 0xC0) b)
two_said a b ha hb =
    let c = below (a - 0xC0) b in
    let (x, y) = split_two (a - 0xC0) (b - 0x80) (omega arith) in
    let x' : 0xC0 + c / 64 ≡ a = omega arith in
    let y' : following c ≡ b = omega arith in
    let same = utf8_two c (omega arith) (omega arith) ∙ (λ i. x' i ∷ y' i ∷ []) in
    record { same = same; valid = character_low c (omega arith); far = omega arith }

abbrev pub three_of : ℕ → ℕ → ℕ → ℕ
three_of a b d = below (below (a - 0xE0) b) d

pub three_said : (a b d : ℕ) → Within 0xE0 0xEF a → second a b ≡ true → Within 0x80 0xBF d
    → Said (a ∷ b ∷ d ∷ []) (three_of a b d)
three_said a b d ha h hd =
    let c = three_of a b d in
    let (hb, low, out) = (second_three a b ha).0 h in
    let (x, y, z) = split_three (a - 0xE0) (b - 0x80) (d - 0x80) (omega arith) (omega arith) in
    let x' : 0xE0 + c / 4096 ≡ a = omega arith in
    let y' : following (c / 64) ≡ b = omega arith in
    let z' : following c ≡ d = omega arith in
    let same = utf8_three c (omega arith) (omega arith) ∙ (λ i. x' i ∷ y' i ∷ z' i ∷ []) in
    let valid = ⊎_elim (λ k. character_low c (omega arith)) (λ k. character_high c (omega arith) (omega arith)) out in
    record { same = same; valid = valid; far = omega arith }

abbrev pub four_of : ℕ → ℕ → ℕ → ℕ → ℕ
four_of a b d f = below (below (below (a - 0xF0) b) d) f

pub four_said : (a b d f : ℕ) → Within 0xF0 0xF4 a → second a b ≡ true → Within 0x80 0xBF d → Within 0x80 0xBF f
    → Said (a ∷ b ∷ d ∷ f ∷ []) (four_of a b d f)
four_said a b d f ha h hd hf =
    let c = four_of a b d f in
    let (hb, pair) = (second_four a b ha).0 h in
    let below_64 : (b - 0x80 < 64) × (d - 0x80 < 64) × (f - 0x80 < 64) = omega arith in
    let (p, q, r) = below_64 in
    let (x, y, z, w) = split_four (a - 0xF0) (b - 0x80) (d - 0x80) (f - 0x80) p q r in
    let x' : 0xF0 + c / 262144 ≡ a = omega arith in
    let y' : following (c / 4096) ≡ b = omega arith in
    let z' : following (c / 64) ≡ d = omega arith in
    let w' : following c ≡ f = omega arith in
    let same = utf8_four c (omega arith) ∙ (λ i. x' i ∷ y' i ∷ z' i ∷ w' i ∷ []) in
    record { same = same; valid = character_high c (omega arith) (omega arith); far = omega arith }
