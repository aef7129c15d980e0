-- The rows of our own hold, proved by computation, one theorem for each name.
use mathlib.Core.Path.{◌≡◌, refl}
use mathlib.Core.List.{[], ◌∷◌}
use Rattle.rules.proofs.Computed.{computed}
use Rattle.rules.specs.rows.HouseRows.{house_rows}
use Rattle.rules.specs.rows.Row.{first_wrong, named, others}

-- no row has another name than these
pub no_other : others (1 ∷ 2 ∷ 3 ∷ 4 ∷ 5 ∷ 6 ∷ 7 ∷ 8 ∷ 9 ∷ 10 ∷ 11 ∷ 12 ∷ 13 ∷ 14 ∷ 15 ∷ 16 ∷ 17 ∷ 18 ∷ 19 ∷ 20 ∷ 21
    ∷ 22 ∷ 23 ∷ 24 ∷ 25 ∷ 26 ∷ 27 ∷ 28 ∷ []) house_rows ≡ []
unfolding computed
no_other = refl

pub row_1 : first_wrong (named 1 house_rows) ≡ 0
unfolding computed
row_1 = refl

pub row_2 : first_wrong (named 2 house_rows) ≡ 0
unfolding computed
row_2 = refl

pub row_3 : first_wrong (named 3 house_rows) ≡ 0
unfolding computed
row_3 = refl

pub row_4 : first_wrong (named 4 house_rows) ≡ 0
unfolding computed
row_4 = refl

pub row_5 : first_wrong (named 5 house_rows) ≡ 0
unfolding computed
row_5 = refl

pub row_6 : first_wrong (named 6 house_rows) ≡ 0
unfolding computed
row_6 = refl

pub row_7 : first_wrong (named 7 house_rows) ≡ 0
unfolding computed
row_7 = refl

pub row_8 : first_wrong (named 8 house_rows) ≡ 0
unfolding computed
row_8 = refl

pub row_9 : first_wrong (named 9 house_rows) ≡ 0
unfolding computed
row_9 = refl

pub row_10 : first_wrong (named 10 house_rows) ≡ 0
unfolding computed
row_10 = refl

pub row_11 : first_wrong (named 11 house_rows) ≡ 0
unfolding computed
row_11 = refl

pub row_12 : first_wrong (named 12 house_rows) ≡ 0
unfolding computed
row_12 = refl

pub row_13 : first_wrong (named 13 house_rows) ≡ 0
unfolding computed
row_13 = refl

pub row_14 : first_wrong (named 14 house_rows) ≡ 0
unfolding computed
row_14 = refl

pub row_15 : first_wrong (named 15 house_rows) ≡ 0
unfolding computed
row_15 = refl

pub row_16 : first_wrong (named 16 house_rows) ≡ 0
unfolding computed
row_16 = refl

pub row_17 : first_wrong (named 17 house_rows) ≡ 0
unfolding computed
row_17 = refl

pub row_18 : first_wrong (named 18 house_rows) ≡ 0
unfolding computed
row_18 = refl

pub row_19 : first_wrong (named 19 house_rows) ≡ 0
unfolding computed
row_19 = refl

pub row_20 : first_wrong (named 20 house_rows) ≡ 0
unfolding computed
row_20 = refl

pub row_21 : first_wrong (named 21 house_rows) ≡ 0
unfolding computed
row_21 = refl

pub row_22 : first_wrong (named 22 house_rows) ≡ 0
unfolding computed
row_22 = refl

pub row_23 : first_wrong (named 23 house_rows) ≡ 0
unfolding computed
row_23 = refl

pub row_24 : first_wrong (named 24 house_rows) ≡ 0
unfolding computed
row_24 = refl

pub row_25 : first_wrong (named 25 house_rows) ≡ 0
unfolding computed
row_25 = refl

pub row_26 : first_wrong (named 26 house_rows) ≡ 0
unfolding computed
row_26 = refl

pub row_27 : first_wrong (named 27 house_rows) ≡ 0
unfolding computed
row_27 = refl

pub row_28 : first_wrong (named 28 house_rows) ≡ 0
unfolding computed
row_28 = refl
