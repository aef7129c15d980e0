-- Rows of our own that wrong rules or a request had called for hold, proved by computation, one theorem for each name.
use mathlib.Core.Path.{◌≡◌, refl}
use mathlib.Core.List.{[], ◌∷◌}
use Rattle.rules.proofs.Computed.{computed}
use Rattle.rules.specs.rows.FurtherRows.{further_rows}
use Rattle.rules.specs.rows.Row.{first_wrong, named, others}

-- no row has another name than these
pub no_other : others (46 ∷ 47 ∷ 48 ∷ 49 ∷ 50 ∷ 51 ∷ 52 ∷ 53 ∷ 54 ∷ 55 ∷ 56 ∷ 57 ∷ 58 ∷ 59 ∷ 60 ∷ 61 ∷ 62 ∷ 63 ∷ 64 ∷ 65
    ∷ 66 ∷ 67 ∷ 68 ∷ 69 ∷ 70 ∷ 71 ∷ []) further_rows ≡ []
unfolding computed
no_other = refl

pub row_46 : first_wrong (named 46 further_rows) ≡ 0
unfolding computed
row_46 = refl

pub row_47 : first_wrong (named 47 further_rows) ≡ 0
unfolding computed
row_47 = refl

pub row_48 : first_wrong (named 48 further_rows) ≡ 0
unfolding computed
row_48 = refl

pub row_49 : first_wrong (named 49 further_rows) ≡ 0
unfolding computed
row_49 = refl

pub row_50 : first_wrong (named 50 further_rows) ≡ 0
unfolding computed
row_50 = refl

pub row_51 : first_wrong (named 51 further_rows) ≡ 0
unfolding computed
row_51 = refl

pub row_52 : first_wrong (named 52 further_rows) ≡ 0
unfolding computed
row_52 = refl

pub row_53 : first_wrong (named 53 further_rows) ≡ 0
unfolding computed
row_53 = refl

pub row_54 : first_wrong (named 54 further_rows) ≡ 0
unfolding computed
row_54 = refl

pub row_55 : first_wrong (named 55 further_rows) ≡ 0
unfolding computed
row_55 = refl

pub row_56 : first_wrong (named 56 further_rows) ≡ 0
unfolding computed
row_56 = refl

pub row_57 : first_wrong (named 57 further_rows) ≡ 0
unfolding computed
row_57 = refl

pub row_58 : first_wrong (named 58 further_rows) ≡ 0
unfolding computed
row_58 = refl

pub row_59 : first_wrong (named 59 further_rows) ≡ 0
unfolding computed
row_59 = refl

pub row_60 : first_wrong (named 60 further_rows) ≡ 0
unfolding computed
row_60 = refl

pub row_61 : first_wrong (named 61 further_rows) ≡ 0
unfolding computed
row_61 = refl

pub row_62 : first_wrong (named 62 further_rows) ≡ 0
unfolding computed
row_62 = refl

pub row_63 : first_wrong (named 63 further_rows) ≡ 0
unfolding computed
row_63 = refl

pub row_64 : first_wrong (named 64 further_rows) ≡ 0
unfolding computed
row_64 = refl

pub row_65 : first_wrong (named 65 further_rows) ≡ 0
unfolding computed
row_65 = refl

pub row_66 : first_wrong (named 66 further_rows) ≡ 0
unfolding computed
row_66 = refl

pub row_67 : first_wrong (named 67 further_rows) ≡ 0
unfolding computed
row_67 = refl

pub row_68 : first_wrong (named 68 further_rows) ≡ 0
unfolding computed
row_68 = refl

pub row_69 : first_wrong (named 69 further_rows) ≡ 0
unfolding computed
row_69 = refl

pub row_70 : first_wrong (named 70 further_rows) ≡ 0
unfolding computed
row_70 = refl

pub row_71 : first_wrong (named 71 further_rows) ≡ 0
unfolding computed
row_71 = refl
