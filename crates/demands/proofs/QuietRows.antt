-- The rows for demand 3's words hold, proved by computation, one theorem for each name.
use mathlib.Core.Path.{◌≡◌, refl}
use mathlib.Core.List.{[], ◌∷◌}
use Rattle.demands.proofs.Computed.{computed}
use Rattle.demands.specs.QuietRows.{quiet_rows}
use Rattle.rules.specs.rows.Row.{first_wrong, named, others}

-- no row has another name than these
pub no_other :
    others (1 ∷ 2 ∷ 3 ∷ 4 ∷ 5 ∷ 6 ∷ 7 ∷ 8 ∷ 9 ∷ 10 ∷ 11 ∷ 12 ∷ 13 ∷ 14 ∷ 15 ∷ 16 ∷ 17 ∷ 18 ∷ 19 ∷ []) quiet_rows ≡ []
unfolding computed
no_other = refl

pub row_1 : first_wrong (named 1 quiet_rows) ≡ 0
unfolding computed
row_1 = refl

pub row_2 : first_wrong (named 2 quiet_rows) ≡ 0
unfolding computed
row_2 = refl

pub row_3 : first_wrong (named 3 quiet_rows) ≡ 0
unfolding computed
row_3 = refl

pub row_4 : first_wrong (named 4 quiet_rows) ≡ 0
unfolding computed
row_4 = refl

pub row_5 : first_wrong (named 5 quiet_rows) ≡ 0
unfolding computed
row_5 = refl

pub row_6 : first_wrong (named 6 quiet_rows) ≡ 0
unfolding computed
row_6 = refl

pub row_7 : first_wrong (named 7 quiet_rows) ≡ 0
unfolding computed
row_7 = refl

pub row_8 : first_wrong (named 8 quiet_rows) ≡ 0
unfolding computed
row_8 = refl

pub row_9 : first_wrong (named 9 quiet_rows) ≡ 0
unfolding computed
row_9 = refl

pub row_10 : first_wrong (named 10 quiet_rows) ≡ 0
unfolding computed
row_10 = refl

pub row_11 : first_wrong (named 11 quiet_rows) ≡ 0
unfolding computed
row_11 = refl

pub row_12 : first_wrong (named 12 quiet_rows) ≡ 0
unfolding computed
row_12 = refl

pub row_13 : first_wrong (named 13 quiet_rows) ≡ 0
unfolding computed
row_13 = refl

pub row_14 : first_wrong (named 14 quiet_rows) ≡ 0
unfolding computed
row_14 = refl

pub row_15 : first_wrong (named 15 quiet_rows) ≡ 0
unfolding computed
row_15 = refl

pub row_16 : first_wrong (named 16 quiet_rows) ≡ 0
unfolding computed
row_16 = refl

pub row_17 : first_wrong (named 17 quiet_rows) ≡ 0
unfolding computed
row_17 = refl

pub row_18 : first_wrong (named 18 quiet_rows) ≡ 0
unfolding computed
row_18 = refl

pub row_19 : first_wrong (named 19 quiet_rows) ≡ 0
unfolding computed
row_19 = refl
