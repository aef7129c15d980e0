-- The rows of the sheet hold, proved by computation, one theorem for each name.
use mathlib.Core.Path.{◌≡◌, refl}
use mathlib.Core.List.{[], ◌∷◌}
use Rattle.rules.proofs.Computed.{computed}
use Rattle.rules.specs.rows.Row.{first_wrong, named, others}
use Rattle.rules.specs.rows.SheetRows.{sheet_rows}

-- no row has another name than these
pub no_other : others (52 ∷ 53 ∷ 54 ∷ 55 ∷ 56 ∷ 57 ∷ 58 ∷ 59 ∷ 60 ∷ 61 ∷ []) sheet_rows ≡ []
unfolding computed
no_other = refl

pub row_52 : first_wrong (named 52 sheet_rows) ≡ 0
unfolding computed
row_52 = refl

pub row_53 : first_wrong (named 53 sheet_rows) ≡ 0
unfolding computed
row_53 = refl

pub row_54 : first_wrong (named 54 sheet_rows) ≡ 0
unfolding computed
row_54 = refl

pub row_55 : first_wrong (named 55 sheet_rows) ≡ 0
unfolding computed
row_55 = refl

pub row_56 : first_wrong (named 56 sheet_rows) ≡ 0
unfolding computed
row_56 = refl

pub row_57 : first_wrong (named 57 sheet_rows) ≡ 0
unfolding computed
row_57 = refl

pub row_58 : first_wrong (named 58 sheet_rows) ≡ 0
unfolding computed
row_58 = refl

pub row_59 : first_wrong (named 59 sheet_rows) ≡ 0
unfolding computed
row_59 = refl

pub row_60 : first_wrong (named 60 sheet_rows) ≡ 0
unfolding computed
row_60 = refl

pub row_61 : first_wrong (named 61 sheet_rows) ≡ 0
unfolding computed
row_61 = refl
