-- Pieces one after the other: the first ends where the first parting byte stands, and the others begin behind it.
-- Assumes nothing.
use Prim.Native.Nat.{ℕ, suc}
use mathlib.Core.Bool.{Bool, cond, false, not, true}
use mathlib.Core.List.{List, [], ◌∷◌}
use mathlib.Core.Path.{◌≡◌, ap, refl, sym, ◌∙◌}
use native.Mathlib.Omega.{arith}
use lib.ListN.{drop, get_or, length, take}
use Rattle.plan_lines.specs.Leading.{not_hash}
use Rattle.rules_plan.specs.Words.{hash, onto, pieces, uncommented}
use Rattle.std.specs.List.{prefix_len}

-- How many bytes come first that pass a test: std's count, by recursion with a successor.
unfoldable pub leading : (ℕ → Bool) → List ℕ → ℕ
leading p [] = 0
leading p (b ∷ text) = cond (p b) (suc (leading p text)) 0

pub leading_is : (p : ℕ → Bool) (l : List ℕ) → prefix_len p l ≡ leading p l
unfolding leading
leading_is p [] = refl
leading_is p (b ∷ l) = ap (λ n. cond (p b) n 0) (omega (arith, leading_is p l))

module _ (parts : ℕ → Bool) where
  abbrev pub before_part : List ℕ → ℕ
  before_part l = leading (λ b. not (parts b)) l

  -- what first_piece says
  abbrev PartedFirst : List ℕ → Type 0
  PartedFirst l = pieces parts l ≡ take (before_part l) l ∷ pieces parts (drop (suc (before_part l)) l)

  pub first_piece : (l : List ℕ) → (length l ≡ 0 → ⊥) → PartedFirst l
  unfolding leading pieces
  first_piece [] h = absurd (h refl)
  first_piece (b ∷ l) h = by_test (parts b) l (first_piece l)
    where
      by_test : (t : Bool) (l : List ℕ) → ((length l ≡ 0 → ⊥) → PartedFirst l)
          → cond t ([] ∷ pieces parts l) (onto b (pieces parts l))
          ≡ take (cond (not t) (suc (before_part l)) 0) (b ∷ l)
          ∷ pieces parts (drop (suc (cond (not t) (suc (before_part l)) 0)) (b ∷ l))
      by_test true l g = refl
      by_test false [] g = refl
      by_test false (x ∷ xs) g = ap (onto b) (g (λ e. omega arith))

-- a line up to its comment
pub up_to_comment : (line : List ℕ) → take (prefix_len not_hash line) line ≡ uncommented line
unfolding leading uncommented pieces
up_to_comment [] = refl
up_to_comment (b ∷ line) =
    ap (λ n. take n (b ∷ line)) (leading_is not_hash (b ∷ line))
    ∙ sym (ap (λ all. get_or all 0 []) (first_piece hash (b ∷ line) (λ z. omega arith)))
