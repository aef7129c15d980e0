-- Where an entry handed back lies in its register, and how long it is.
-- Assumes nothing.
use Rattle.std.proofs.Common.{◌≡◌, ℕ, ◌+◌, ◌*◌, ◌-◌, ◌≤◌, List, drop, length, arith, sym, ap, ◌∙◌}
use lib.ListN.{length-drop}
use lib.Seq.{length-take-le}
use Rattle.register.proofs.Returned.{fits, part_done, part_refused}
use Rattle.rules.specs.Layout.{entry_at, entry_start}
use Rattle.rules.specs.Register.{entry_answer, handed_back, handed_back_at}
use mathlib.Core.Path.{refl}

module _ (b : List ℕ) (k : ℕ) (z : entry_answer b k ≡ 0) where
  pub place_done : (handed_back_at b k ≡ 16 + 8 * (k - 1)) × (length (handed_back b k) ≡ 8)
  unfolding entry_at
  place_done =
      let part = part_done b k 0 (sym z) refl (entry_at b (k - 1)) refl in
      let room : 8 ≤ length (drop (entry_start (k - 1)) b) =
      omega (arith, length-drop (entry_start (k - 1)) b, fits b k z) in
      (sym part.1, ap length (sym part.0) ∙ length-take-le 8 (drop (entry_start (k - 1)) b) room)

pub place_refused : (b : List ℕ) (k : ℕ) → (entry_answer b k ≡ 0 → ⊥)
    → (handed_back_at b k ≡ 0) × (length (handed_back b k) ≡ 0)
place_refused b k h =
    let part = part_refused b k (entry_answer b k) refl h in
    (sym part.1, ap length (sym part.0))

pub ruleset places = (fits, place_done, place_refused)
