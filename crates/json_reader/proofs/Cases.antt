-- What tests say.
-- Assumes nothing.
use Prim.Native.Nat.{ℕ, ◌≤◌}
use mathlib.Core.Bool.{Bool, and-eq-true_iff, cond, false, true, ◌&&◌}
use mathlib.Core.Path.{◌≡◌, refl}
use borrow.Author.Tests.{leb-true}
use lib.Dec.{leb}
use Rattle.rules_json.specs.Abnf.{within}

-- what holds whichever way a test goes
pub by_test : {A : Type 0} (t : Bool) → (t ≡ true → A) → (t ≡ false → A) → A
by_test true f g = f refl
by_test false f g = g refl

pub both : (a b : Bool) → (a && b) ≡ true → (a ≡ true) × (b ≡ true)
both a b h = (and-eq-true_iff a b).0 h

pub all_four : (a b c d : Bool) → (a && b && c && d) ≡ true → (a ≡ true) × (b ≡ true) × (c ≡ true) × (d ≡ true)
all_four a b c d h =
    let (abc, td) = both (a && b && c) d h in
    let (ab, tc) = both (a && b) c abc in
    let (ta, tb) = both a b ab in
    (ta, tb, tc, td)

pub within_true : (least most b : ℕ) → within least most b ≡ true → (least ≤ b) × (b ≤ most)
within_true least most b h =
    let (l, m) = both (leb least b) (leb b most) h in
    (leb-true least b l, leb-true b most m)

-- what has a size is good
pub good_if : (t : Bool) (n : ℕ) → (cond t n 0 ≡ 0 → ⊥) → t ≡ true
good_if true n h = refl
good_if false n h = absurd (h refl)
