-- A planner's text: the rows of what is recorded of it hold, proved by computation, one theorem for each name.
use mathlib.Core.Path.{◌≡◌, refl}
use mathlib.Core.List.{[], ◌∷◌}
use Rattle.rules.specs.rows.Row.{first_wrong, named, others}
use Rattle.rules_plan.proofs.Computed.{computed}
use Rattle.rules_plan.specs.rows.RecordingRows.{recording_rows}

-- no row has another name than these
pub no_other : others (52 ∷ 53 ∷ 54 ∷ 55 ∷ 56 ∷ 57 ∷ 58 ∷ 59 ∷ 60 ∷ []) recording_rows ≡ []
unfolding computed
no_other = refl

pub row_52 : first_wrong (named 52 recording_rows) ≡ 0
unfolding computed
row_52 = refl

pub row_53 : first_wrong (named 53 recording_rows) ≡ 0
unfolding computed
row_53 = refl

pub row_54 : first_wrong (named 54 recording_rows) ≡ 0
unfolding computed
row_54 = refl

pub row_55 : first_wrong (named 55 recording_rows) ≡ 0
unfolding computed
row_55 = refl

pub row_56 : first_wrong (named 56 recording_rows) ≡ 0
unfolding computed
row_56 = refl

pub row_57 : first_wrong (named 57 recording_rows) ≡ 0
unfolding computed
row_57 = refl

pub row_58 : first_wrong (named 58 recording_rows) ≡ 0
unfolding computed
row_58 = refl

pub row_59 : first_wrong (named 59 recording_rows) ≡ 0
unfolding computed
row_59 = refl

pub row_60 : first_wrong (named 60 recording_rows) ≡ 0
unfolding computed
row_60 = refl
