-- Rows of our own that look at whole stations hold, proved by computation, one theorem for each name.
use mathlib.Core.Path.{◌≡◌, refl}
use mathlib.Core.List.{[], ◌∷◌}
use Rattle.rules.proofs.Computed.{computed}
use Rattle.rules.specs.rows.Row.{first_wrong, named, others}
use Rattle.rules.specs.rows.StationRows.{station_rows}

-- no row has another name than these
pub no_other :
    others (29 ∷ 30 ∷ 31 ∷ 32 ∷ 33 ∷ 34 ∷ 35 ∷ 36 ∷ 37 ∷ 38 ∷ 39 ∷ 40 ∷ 41 ∷ 42 ∷ 43 ∷ 44 ∷ 45 ∷ []) station_rows ≡ []
unfolding computed
no_other = refl

pub row_29 : first_wrong (named 29 station_rows) ≡ 0
unfolding computed
row_29 = refl

pub row_30 : first_wrong (named 30 station_rows) ≡ 0
unfolding computed
row_30 = refl

pub row_31 : first_wrong (named 31 station_rows) ≡ 0
unfolding computed
row_31 = refl

pub row_32 : first_wrong (named 32 station_rows) ≡ 0
unfolding computed
row_32 = refl

pub row_33 : first_wrong (named 33 station_rows) ≡ 0
unfolding computed
row_33 = refl

pub row_34 : first_wrong (named 34 station_rows) ≡ 0
unfolding computed
row_34 = refl

pub row_35 : first_wrong (named 35 station_rows) ≡ 0
unfolding computed
row_35 = refl

pub row_36 : first_wrong (named 36 station_rows) ≡ 0
unfolding computed
row_36 = refl

pub row_37 : first_wrong (named 37 station_rows) ≡ 0
unfolding computed
row_37 = refl

pub row_38 : first_wrong (named 38 station_rows) ≡ 0
unfolding computed
row_38 = refl

pub row_39 : first_wrong (named 39 station_rows) ≡ 0
unfolding computed
row_39 = refl

pub row_40 : first_wrong (named 40 station_rows) ≡ 0
unfolding computed
row_40 = refl

pub row_41 : first_wrong (named 41 station_rows) ≡ 0
unfolding computed
row_41 = refl

pub row_42 : first_wrong (named 42 station_rows) ≡ 0
unfolding computed
row_42 = refl

pub row_43 : first_wrong (named 43 station_rows) ≡ 0
unfolding computed
row_43 = refl

pub row_44 : first_wrong (named 44 station_rows) ≡ 0
unfolding computed
row_44 = refl

pub row_45 : first_wrong (named 45 station_rows) ≡ 0
unfolding computed
row_45 = refl
