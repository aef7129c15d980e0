-- Document 01's sentence on the outputs, over every number.
use mathlib.Core.Path.{◌≡◌, ◌∙◌, refl}
use mathlib.Core.List.{[], ◌∷◌}
use Prim.Native.Nat.{ℕ, zero, suc, ◌<◌}
use lib.ListN.{get_or, get_or-eq_default}
use Rattle.rules.specs.Outputs.{outputs_of}

pub paper_outputs : (aspect : ℕ) → outputs_of aspect ≡ get_or (1 ∷ 34 ∷ 72 ∷ 152 ∷ 260 ∷ 0 ∷ []) aspect 0
unfolding outputs_of
paper_outputs zero = refl
paper_outputs (suc zero) = refl
paper_outputs (suc (suc zero)) = refl
paper_outputs (suc (suc (suc zero))) = refl
paper_outputs (suc (suc (suc (suc zero)))) = refl
paper_outputs (suc (suc (suc (suc (suc zero))))) = refl
paper_outputs (suc (suc (suc (suc (suc (suc aspect)))))) = refl

pub above_five : (aspect : ℕ) → 5 < aspect → outputs_of aspect ≡ 0
above_five aspect h = paper_outputs aspect ∙ get_or-eq_default (1 ∷ 34 ∷ 72 ∷ 152 ∷ 260 ∷ 0 ∷ []) 0 h
