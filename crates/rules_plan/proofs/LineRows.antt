-- A planner's text: the rows of what a line says hold, proved by computation, one theorem for each name.
use mathlib.Core.Path.{◌≡◌, refl}
use mathlib.Core.List.{[], ◌∷◌}
use Rattle.rules.specs.rows.Row.{first_wrong, named, others}
use Rattle.rules_plan.proofs.Computed.{computed}
use Rattle.rules_plan.specs.rows.LineRows.{line_rows}

-- no row has another name than these
pub no_other : others (16 ∷ 17 ∷ 18 ∷ 19 ∷ 20 ∷ 21 ∷ 22 ∷ 23 ∷ 24 ∷ 25 ∷ 26 ∷ 27 ∷ 28 ∷ 29 ∷ 30
    ∷ 31 ∷ 32 ∷ 33 ∷ 34 ∷ []) line_rows ≡ []
unfolding computed
no_other = refl

pub row_16 : first_wrong (named 16 line_rows) ≡ 0
unfolding computed
row_16 = refl

pub row_17 : first_wrong (named 17 line_rows) ≡ 0
unfolding computed
row_17 = refl

pub row_18 : first_wrong (named 18 line_rows) ≡ 0
unfolding computed
row_18 = refl

pub row_19 : first_wrong (named 19 line_rows) ≡ 0
unfolding computed
row_19 = refl

pub row_20 : first_wrong (named 20 line_rows) ≡ 0
unfolding computed
row_20 = refl

pub row_21 : first_wrong (named 21 line_rows) ≡ 0
unfolding computed
row_21 = refl

pub row_22 : first_wrong (named 22 line_rows) ≡ 0
unfolding computed
row_22 = refl

pub row_23 : first_wrong (named 23 line_rows) ≡ 0
unfolding computed
row_23 = refl

pub row_24 : first_wrong (named 24 line_rows) ≡ 0
unfolding computed
row_24 = refl

pub row_25 : first_wrong (named 25 line_rows) ≡ 0
unfolding computed
row_25 = refl

pub row_26 : first_wrong (named 26 line_rows) ≡ 0
unfolding computed
row_26 = refl

pub row_27 : first_wrong (named 27 line_rows) ≡ 0
unfolding computed
row_27 = refl

pub row_28 : first_wrong (named 28 line_rows) ≡ 0
unfolding computed
row_28 = refl

pub row_29 : first_wrong (named 29 line_rows) ≡ 0
unfolding computed
row_29 = refl

pub row_30 : first_wrong (named 30 line_rows) ≡ 0
unfolding computed
row_30 = refl

pub row_31 : first_wrong (named 31 line_rows) ≡ 0
unfolding computed
row_31 = refl

pub row_32 : first_wrong (named 32 line_rows) ≡ 0
unfolding computed
row_32 = refl

pub row_33 : first_wrong (named 33 line_rows) ≡ 0
unfolding computed
row_33 = refl

pub row_34 : first_wrong (named 34 line_rows) ≡ 0
unfolding computed
row_34 = refl
