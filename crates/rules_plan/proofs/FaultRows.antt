-- A planner's text: the rows of what is wrong with it hold, proved by computation, one theorem for each name.
use mathlib.Core.Path.{◌≡◌, refl}
use mathlib.Core.List.{[], ◌∷◌}
use Rattle.rules.specs.rows.Row.{first_wrong, named, others}
use Rattle.rules_plan.proofs.Computed.{computed}
use Rattle.rules_plan.specs.rows.FaultRows.{fault_rows}

-- no row has another name than these
pub no_other :
    others (35 ∷ 36 ∷ 37 ∷ 38 ∷ 39 ∷ 40 ∷ 41 ∷ 42 ∷ 43 ∷ 44 ∷ 45 ∷ 46 ∷ 47 ∷ 48 ∷ 49 ∷ 50 ∷ 51 ∷ []) fault_rows ≡ []
unfolding computed
no_other = refl

pub row_35 : first_wrong (named 35 fault_rows) ≡ 0
unfolding computed
row_35 = refl

pub row_36 : first_wrong (named 36 fault_rows) ≡ 0
unfolding computed
row_36 = refl

pub row_37 : first_wrong (named 37 fault_rows) ≡ 0
unfolding computed
row_37 = refl

pub row_38 : first_wrong (named 38 fault_rows) ≡ 0
unfolding computed
row_38 = refl

pub row_39 : first_wrong (named 39 fault_rows) ≡ 0
unfolding computed
row_39 = refl

pub row_40 : first_wrong (named 40 fault_rows) ≡ 0
unfolding computed
row_40 = refl

pub row_41 : first_wrong (named 41 fault_rows) ≡ 0
unfolding computed
row_41 = refl

pub row_42 : first_wrong (named 42 fault_rows) ≡ 0
unfolding computed
row_42 = refl

pub row_43 : first_wrong (named 43 fault_rows) ≡ 0
unfolding computed
row_43 = refl

pub row_44 : first_wrong (named 44 fault_rows) ≡ 0
unfolding computed
row_44 = refl

pub row_45 : first_wrong (named 45 fault_rows) ≡ 0
unfolding computed
row_45 = refl

pub row_46 : first_wrong (named 46 fault_rows) ≡ 0
unfolding computed
row_46 = refl

pub row_47 : first_wrong (named 47 fault_rows) ≡ 0
unfolding computed
row_47 = refl

pub row_48 : first_wrong (named 48 fault_rows) ≡ 0
unfolding computed
row_48 = refl

pub row_49 : first_wrong (named 49 fault_rows) ≡ 0
unfolding computed
row_49 = refl

pub row_50 : first_wrong (named 50 fault_rows) ≡ 0
unfolding computed
row_50 = refl

pub row_51 : first_wrong (named 51 fault_rows) ≡ 0
unfolding computed
row_51 = refl
