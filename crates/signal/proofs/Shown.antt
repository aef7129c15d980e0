-- A head's outputs, which the definition reads column by column, as the code reads them, mask by mask. What a
-- mask leaves is the value of its bits (`masked`), and what the code makes of them is right at every list of
-- bits, by a test computed over them all.
use mathlib.Core.Path.{◌≡◌, ◌∙◌, refl, sym, ap, ap₂}
use mathlib.Core.Bool.{Bool, true, false, cond, not, ◌&&◌, ◌||◌, beq}
use mathlib.Core.List.{List, [], ◌∷◌, ◌++◌}
use Prim.Native.Nat.{ℕ, suc, ◌+◌, ◌-◌, ◌*◌, ◌/◌, ◌%◌, ◌^◌, ◌≤◌, ◌<◌}
use native.Mathlib.Nat.{add_comm, add-zero, mod-lt}
use native.Mathlib.Omega.{arith}
use lib.Bits.{and_block, and_le_r, bit_and, bit_or, or_shifted_r}
use lib.Count.{ones}
use lib.Dec.{eqb, ltb}
use lib.ListN.{drop, get_or, replicate, take}
use lib.Pow.{pow_pos, split}
use borrow.Author.Tests.{eqb-true, le-ltb, lt-ltb, ltb-false, ltb-true}
use Rattle.rules.specs.Heads.{bit, communication_failed, failed_sounders, head_outputs}
use Rattle.rules.specs.Heads.{lamp_failed, out, power_failed, those}
use Rattle.rules.specs.Outputs.{Column, bits, columns, place}
use Rattle.rules.specs.Words.{count}
use Rattle.signal.proofs.Digits.{digits, masked, set, value}
use Rattle.signal.proofs.Every.{at_list}

-- the columns at which a test holds, weighed one by one
abbrev weight : (Column → Bool) → List Column → ℕ
weight p [] = 0
weight p (c ∷ cs) = cond (p c) (2 ^ place c) 0 + weight p cs

weighed : (p : Column → Bool) (cs : List Column) → bits (those p cs) ≡ weight p cs
weighed p [] = refl
weighed p (c ∷ cs) = go (p c) (weighed p cs)
  where
    go : (b : Bool) → bits (those p cs) ≡ weight p cs
        → bits (cond b (c ∷ those p cs) (those p cs)) ≡ cond b (2 ^ place c) 0 + weight p cs
    go true e = ap (λ (n : ℕ). 2 ^ place c + n) e
    go false e = omega arith

-- the same of the bits bs from place k up, of which fs are out
abbrev kept : ℕ → List Bool → List Bool → ℕ
kept k [] fs = 0
kept k (b ∷ bs) [] = 0
kept k (b ∷ bs) (f ∷ fs) = cond (b && not f) (2 ^ k) 0 + kept (suc k) bs fs

abbrev any : Bool → List Bool → Bool
any b [] = b
any b (c ∷ cs) = any (b || c) cs

-- What the code makes of what its masks leave: whether the head goes dark, its failed sounders counted and the count
-- tested against t; the lamps lit; the sounders heard, those that have failed being silent.
abbrev dark : ℕ → ℕ → ℕ → Bool
dark t power failed = not (eqb power 0) || ltb t (ones failed)

abbrev lit : ℕ → ℕ → ℕ
lit failed on = cond (eqb failed 0) on 0

abbrev silent : List Bool → ℕ
silent failed =
    bit_or (bit_or (bit_or (cond (get_or failed 0 false) 32 0) (cond (get_or failed 1 false) 64 0))
    (cond (get_or failed 2 false) 128 0))
    (cond (get_or failed 3 false) 256 0)

abbrev heard : List Bool → ℕ → ℕ
heard failed on = bit_and on (65535 - silent failed)

-- the tests of the three, over the bits of the condition first
dark_right : List Bool → Bool
dark_right bs = beq (dark 1 (value (take 2 bs) * 256) (value (drop 2 bs) * 16))
    (any false (take 2 bs) || ltb 1 (count (λ b. b) (drop 2 bs)))

lit_right : List Bool → Bool
lit_right bs =
    eqb (lit (value (take 4 bs) * 1) (value (drop 4 bs) * 1)) (kept 0 (drop 4 bs) (replicate 5 (any false (take 4 bs))))

heard_right : List Bool → Bool
heard_right bs = eqb (heard (take 4 bs) (value (drop 4 bs) * 32)) (kept 5 (drop 4 bs) (take 4 bs))

beq_true : (a b : Bool) → beq a b ≡ true → a ≡ b
beq_true true true t = refl
beq_true true false t = sym t
beq_true false true t = t
beq_true false false t = refl

apart : (a b c d e n : ℕ) → a + (b + (c + (d + (e + n)))) ≡ (a + (b + (c + (d + (e + 0))))) + n
apart a b c d e n = omega arith

more : (b : Bool) (t n : ℕ) → (b || ltb t n) ≡ true → 1 ≤ t → (b || ltb 1 n) ≡ true
more true t n e h = refl
more false t n e h = lt-ltb 1 n (omega (arith, ltb-true))

fewer : (b : Bool) (t n : ℕ) → (b || ltb t n) ≡ false → t ≤ 1 → (b || ltb 1 n) ≡ false
fewer true t n e h = e
fewer false t n e h = le-ltb 1 n (omega (arith, ltb-false))

-- bits above the lamps, whatever is taken of them, are no lamps
joined : (a b y : ℕ) → a < 2 ^ 5 → bit_or a (bit_and (b * 2 ^ 5) y) ≡ a + bit_and (b * 2 ^ 5) y
joined a b y h =
    ap (bit_or a) above ∙ or_shifted_r (bit_and b (y / 2 ^ 5)) 5 a h ∙ add_comm _ a ∙ ap (λ (n : ℕ). a + n) (sym above)
  where
    above : bit_and (b * 2 ^ 5) y ≡ bit_and b (y / 2 ^ 5) * 2 ^ 5
    above =
        ap₂ bit_and (sym (add-zero (b * 2 ^ 5))) (sym (split y 5))
        ∙ and_block 5 b (y / 2 ^ 5) 0 (y % 2 ^ 5) (pow_pos 5) (mod-lt y (pow_pos 5)) ∙ add-zero _

-- Of outputs o and a condition c. The masks of a condition are 15 for the lamps, 240 for the sounders, 16 to 128 for
-- each of them, and 768 for power and communication; of outputs, 31 for the lamps and 480 for the sounders.
module _ (o c : ℕ) where
  abbrev pub lamps : ℕ
  lamps = lit (bit_and c 15) (bit_and o 31)

  abbrev failed : List Bool
  failed =
      not (eqb (bit_and c 16) 0) ∷ not (eqb (bit_and c 32) 0)
      ∷ not (eqb (bit_and c 64) 0) ∷ not (eqb (bit_and c 128) 0) ∷ []

  abbrev sounders : ℕ
  sounders = heard failed (bit_and o 480)

  dark_is :
      dark 1 (bit_and c 768) (bit_and c 240) ≡ (power_failed c || communication_failed c || ltb 1 (failed_sounders c))
  unfolding dark_right ones
  dark_is =
      ap₂ (dark 1) (masked c 8 2) (masked c 4 4)
      ∙ beq_true _ _ (at_list dark_right (digits c 8 2 ++ digits c 4 4) refl)

  lit_is : lamps ≡ kept 0 (digits o 0 5) (replicate 5 (lamp_failed c))
  unfolding lit_right
  lit_is = ap₂ lit (masked c 0 4) (masked o 0 5) ∙ eqb-true _ _ (at_list lit_right (digits c 0 4 ++ digits o 0 5) refl)

  heard_is : sounders ≡ kept 5 (digits o 5 4) (digits c 4 4)
  unfolding heard_right
  heard_is =
      ap₂ heard (λ i. set c 4 i ∷ set c 5 i ∷ set c 6 i ∷ set c 7 i ∷ []) (masked o 5 4)
      ∙ eqb-true _ _ (at_list heard_right (digits c 4 4 ++ digits o 5 4) refl)

  lamps_small : lamps < 2 ^ 5
  lamps_small = go (eqb (bit_and c 15) 0)
    where
      go : (b : Bool) → cond b (bit_and o 31) 0 < 2 ^ 5
      go true = omega (arith, and_le_r o 31)
      go false = omega arith

  both : bit_or lamps sounders ≡ lamps + sounders
  both = rw (masked o 5 4) (joined lamps (value (digits o 5 4)) _ lamps_small)

  shown : head_outputs o c ≡ cond (dark 1 (bit_and c 768) (bit_and c 240)) 0 (bit_or lamps sounders)
  unfolding head_outputs
  shown =
      ap₂ (λ (t : Bool) (n : ℕ). cond t 0 n) (sym dark_is)
      (weighed (λ k. bit o (place k) && not (out c k)) columns ∙ apart _ _ _ _ _ _
      ∙ sym (both ∙ ap₂ ◌+◌ lit_is heard_is))

  -- a count tested against 1 or more darkens no head that is to show, and one tested against 1 or
  -- less shows no head that is to be dark
  pub dark_shows : (t : ℕ) → dark t (bit_and c 768) (bit_and c 240) ≡ true → 1 ≤ t → head_outputs o c ≡ 0
  dark_shows t e h = rw (shown, more (not (eqb (bit_and c 768) 0)) t (ones (bit_and c 240)) e h)

  pub lit_shows : (t : ℕ) → dark t (bit_and c 768) (bit_and c 240) ≡ false → t ≤ 1
      → head_outputs o c ≡ bit_or lamps sounders
  lit_shows t e h = rw (shown, fewer (not (eqb (bit_and c 768) 0)) t (ones (bit_and c 240)) e h)
