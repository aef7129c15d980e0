-- RFC 8259, RFC 3629: the rows of strings and of what a text says hold, proved by computation, one theorem for each.
use mathlib.Core.Path.{◌≡◌, refl}
use mathlib.Core.List.{[], ◌∷◌}
use Rattle.rules.proofs.Computed.{computed}
use Rattle.rules.specs.rows.Row.{first_wrong, named, others}
use Rattle.rules.specs.rows.StringRows.{string_rows}

-- no row has another name than these
pub no_other :
    others
    (25 ∷ 26 ∷ 27 ∷ 28 ∷ 29 ∷ 30 ∷ 31 ∷ 32 ∷ 33 ∷ 34 ∷ 35 ∷ 36 ∷ 37 ∷ 38 ∷ 39 ∷ 40 ∷ 41 ∷ 42 ∷ 43 ∷ [])
    string_rows
    ≡ []
unfolding computed
no_other = refl

pub row_25 : first_wrong (named 25 string_rows) ≡ 0
unfolding computed
row_25 = refl

pub row_26 : first_wrong (named 26 string_rows) ≡ 0
unfolding computed
row_26 = refl

pub row_27 : first_wrong (named 27 string_rows) ≡ 0
unfolding computed
row_27 = refl

pub row_28 : first_wrong (named 28 string_rows) ≡ 0
unfolding computed
row_28 = refl

pub row_29 : first_wrong (named 29 string_rows) ≡ 0
unfolding computed
row_29 = refl

pub row_30 : first_wrong (named 30 string_rows) ≡ 0
unfolding computed
row_30 = refl

pub row_31 : first_wrong (named 31 string_rows) ≡ 0
unfolding computed
row_31 = refl

pub row_32 : first_wrong (named 32 string_rows) ≡ 0
unfolding computed
row_32 = refl

pub row_33 : first_wrong (named 33 string_rows) ≡ 0
unfolding computed
row_33 = refl

pub row_34 : first_wrong (named 34 string_rows) ≡ 0
unfolding computed
row_34 = refl

pub row_35 : first_wrong (named 35 string_rows) ≡ 0
unfolding computed
row_35 = refl

pub row_36 : first_wrong (named 36 string_rows) ≡ 0
unfolding computed
row_36 = refl

pub row_37 : first_wrong (named 37 string_rows) ≡ 0
unfolding computed
row_37 = refl

pub row_38 : first_wrong (named 38 string_rows) ≡ 0
unfolding computed
row_38 = refl

pub row_39 : first_wrong (named 39 string_rows) ≡ 0
unfolding computed
row_39 = refl

pub row_40 : first_wrong (named 40 string_rows) ≡ 0
unfolding computed
row_40 = refl

pub row_41 : first_wrong (named 41 string_rows) ≡ 0
unfolding computed
row_41 = refl

pub row_42 : first_wrong (named 42 string_rows) ≡ 0
unfolding computed
row_42 = refl

pub row_43 : first_wrong (named 43 string_rows) ≡ 0
unfolding computed
row_43 = refl
