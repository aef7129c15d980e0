-- The texts that a line is written of, one after the other, are the line of the definition.
use mathlib.Core.Path.{◌≡◌, ap, sym, ◌∙◌}
use mathlib.Core.List.{List, [], ◌∷◌, ◌++◌, append_assoc, append-nil}
use Prim.Native.Nat.{ℕ}
use borrow.Author.Tests.{eq-eqb, ne_eqb}
use Rattle.rules.specs.Numbers.{not_replayed}
use Rattle.rules.specs.Printer.{decimal, line_feed, output_text, refusal_line, row_line, space, zone_text}
use Rattle.rules.specs.declared.RowFields.{RowFields}

-- `refused `
abbrev pub refused : List ℕ
refused = 114 ∷ 101 ∷ 102 ∷ 117 ∷ 115 ∷ 101 ∷ 100 ∷ 32 ∷ []

-- the spaces and the line feed
regroup :
    (entry zones outputs answer s end : List ℕ)
    → entry ++ ((s ++ zones ++ s) ++ ((outputs ++ s) ++ (answer ++ end)))
    ≡ entry ++ s ++ zones ++ s ++ outputs ++ s ++ answer ++ end
regroup entry zones outputs answer s end = simp append_assoc

pub row :
    (f : RowFields) {entry zones outputs answer : List ℕ} → entry ≡ decimal f.entry
    → zones ≡ space ++ zone_text f.zones ++ space
    → outputs ≡ output_text f.outputs ++ space
    → answer ≡ decimal f.answer
    → entry ++ (zones ++ (outputs ++ (answer ++ line_feed))) ≡ row_line f
unfolding row_line
row f e z o a =
    (λ i. e i ++ (z i ++ (o i ++ (a i ++ line_feed))))
    ∙ regroup (decimal f.entry) (zone_text f.zones) (output_text f.outputs) (decimal f.answer) space line_feed

-- the entry is not named
pub refusal :
    (answer entry : ℕ) {number : List ℕ} → (answer ≡ not_replayed → ⊥) → number ≡ decimal answer
    → refused ++ (number ++ line_feed) ≡ refusal_line answer entry
unfolding refusal_line
refusal answer entry h e =
    rw (e, ne_eqb answer not_replayed h)
    (ap (λ l. refused ++ (l ++ line_feed)) (sym (append-nil (decimal answer))))

-- ` at ` and the entry
pub naming :
    (answer entry : ℕ) {number named : List ℕ} → answer ≡ not_replayed → number ≡ decimal answer → named ≡ decimal entry
    → refused ++ (number ++ ((32 ∷ 97 ∷ 116 ∷ 32 ∷ []) ++ (named ++ line_feed))) ≡ refusal_line answer entry
unfolding refusal_line
naming answer entry h e n =
    rw (e, n, eq-eqb answer not_replayed h)
    (ap (λ l. refused ++ l) (sym (append_assoc (decimal answer) (32 ∷ 97 ∷ 116 ∷ 32 ∷ decimal entry) line_feed)))
