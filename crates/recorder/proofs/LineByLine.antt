-- A text line by line: the byte order mark before the first line, and a line's line feed, if it has one, behind it.
-- Assumes nothing.
use Prim.Native.Nat.{ℕ, suc, min}
use native.Mathlib.Numerals.{add-one}
use native.Mathlib.Omega.{arith}
use lib.Dec.{eqb}
use mathlib.Core.List.{List, [], ◌∷◌}
use mathlib.Core.Path.{◌≡◌, ap, ap₂, refl, sym, ◌∙◌}
use lib.ListN.{drop, length, take}
use lib.Seq.{drop-drop}
use Rattle.plan_lines.proofs.Pieces.{first_piece, leading_is}
use Rattle.plan_lines.specs.Leading.{not_line_feed}
use Rattle.rules_plan.specs.Words.{line_feed, lines, mark, mark_size, pieces}
use lib.Pointwise.{pointwise}
use mathlib.Core.Bool.{Bool, cond, ◌&&◌}
use Rattle.rules.specs.Screen.{same}
use Rattle.std.proofs.lemmas.Bool.Decides.{nat_tests}
use Rattle.std.specs.List.{prefix_len, starts_with}

-- ---- the mark

pointwise_same : (l k : List ℕ) → pointwise eqb k l ≡ same l k
pointwise_same [] [] = refl
pointwise_same [] (y ∷ k) = refl
pointwise_same (x ∷ l) [] = refl
pointwise_same (x ∷ l) (y ∷ k) = ap₂ ◌&&◌ (grind (arith, nat_tests)) (pointwise_same l k)

pub mark_by : (r : Bool) (text : List ℕ) → r ≡ starts_with eqb text mark → mark_size text ≡ cond r 3 0
unfolding mark_size
mark_by r text e = ap (λ (t : Bool). cond t 3 0) (sym (e ∙ pointwise_same (take 3 text) mark))

-- ---- a line

pub no_lines : (text : List ℕ) → length text ≡ 0 → lines text ≡ []
unfolding pieces
no_lines [] h = refl
no_lines (b ∷ text) h = absurd (omega arith)

past_feed : (behind : List ℕ) → drop (min (length behind) 1) behind ≡ drop 1 behind
past_feed [] = refl
past_feed (b ∷ behind) =
    let one : min (length (b ∷ behind)) 1 ≡ 1 = omega arith in ap (λ n. drop n (b ∷ behind)) one

pub first_line : (text : List ℕ) (size feed : ℕ) (line behind next : List ℕ) → (length text ≡ 0 → ⊥)
    → size ≡ prefix_len not_line_feed text
    → line ≡ take size text
    → behind ≡ drop size text
    → feed ≡ min (length behind) 1
    → next ≡ drop feed behind
    → lines text ≡ line ∷ lines next
first_line text size feed line behind next some s l b f n =
    first_piece line_feed text some
    ∙ ap (λ k. take k text ∷ lines (drop (suc k) text)) (sym (s ∙ leading_is not_line_feed text))
    ∙ sym (ap₂ (λ l r. l ∷ lines r) l
    (n ∙ ap (λ k. drop k behind) f ∙ past_feed behind ∙ ap (drop 1) b ∙ drop-drop 1 size text
    ∙ ap (λ k. drop k text) (add-one size)))
