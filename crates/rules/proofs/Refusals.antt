-- Document 01, "The numbers it answers": bad input gets its number, proved by computation, one theorem for each name.
use mathlib.Core.Path.{◌≡◌, refl}
use mathlib.Core.List.{[], ◌∷◌}
use Rattle.rules.proofs.Computed.{computed}
use Rattle.rules.specs.rows.Refusals.{refusals}
use Rattle.rules.specs.rows.Row.{first_wrong, named, others}

-- no row has another name than these
pub no_other : others (1 ∷ 2 ∷ 3 ∷ 4 ∷ 5 ∷ 6 ∷ 7 ∷ 8 ∷ 9 ∷ 10 ∷ 11 ∷ 12 ∷ 13 ∷ 14 ∷ 15 ∷ 16 ∷ 17 ∷ 18 ∷ 19 ∷ 20 ∷ 21
    ∷ 22 ∷ 23 ∷ 24 ∷ 25 ∷ 26 ∷ 27 ∷ 28 ∷ 29 ∷ 30 ∷ 31 ∷ 32 ∷ 33 ∷ 34 ∷ []) refusals ≡ []
unfolding computed
no_other = refl

pub row_1 : first_wrong (named 1 refusals) ≡ 0
unfolding computed
row_1 = refl

pub row_2 : first_wrong (named 2 refusals) ≡ 0
unfolding computed
row_2 = refl

pub row_3 : first_wrong (named 3 refusals) ≡ 0
unfolding computed
row_3 = refl

pub row_4 : first_wrong (named 4 refusals) ≡ 0
unfolding computed
row_4 = refl

pub row_5 : first_wrong (named 5 refusals) ≡ 0
unfolding computed
row_5 = refl

pub row_6 : first_wrong (named 6 refusals) ≡ 0
unfolding computed
row_6 = refl

pub row_7 : first_wrong (named 7 refusals) ≡ 0
unfolding computed
row_7 = refl

pub row_8 : first_wrong (named 8 refusals) ≡ 0
unfolding computed
row_8 = refl

pub row_9 : first_wrong (named 9 refusals) ≡ 0
unfolding computed
row_9 = refl

pub row_10 : first_wrong (named 10 refusals) ≡ 0
unfolding computed
row_10 = refl

pub row_11 : first_wrong (named 11 refusals) ≡ 0
unfolding computed
row_11 = refl

pub row_12 : first_wrong (named 12 refusals) ≡ 0
unfolding computed
row_12 = refl

pub row_13 : first_wrong (named 13 refusals) ≡ 0
unfolding computed
row_13 = refl

pub row_14 : first_wrong (named 14 refusals) ≡ 0
unfolding computed
row_14 = refl

pub row_15 : first_wrong (named 15 refusals) ≡ 0
unfolding computed
row_15 = refl

pub row_16 : first_wrong (named 16 refusals) ≡ 0
unfolding computed
row_16 = refl

pub row_17 : first_wrong (named 17 refusals) ≡ 0
unfolding computed
row_17 = refl

pub row_18 : first_wrong (named 18 refusals) ≡ 0
unfolding computed
row_18 = refl

pub row_19 : first_wrong (named 19 refusals) ≡ 0
unfolding computed
row_19 = refl

pub row_20 : first_wrong (named 20 refusals) ≡ 0
unfolding computed
row_20 = refl

pub row_21 : first_wrong (named 21 refusals) ≡ 0
unfolding computed
row_21 = refl

pub row_22 : first_wrong (named 22 refusals) ≡ 0
unfolding computed
row_22 = refl

pub row_23 : first_wrong (named 23 refusals) ≡ 0
unfolding computed
row_23 = refl

pub row_24 : first_wrong (named 24 refusals) ≡ 0
unfolding computed
row_24 = refl

pub row_25 : first_wrong (named 25 refusals) ≡ 0
unfolding computed
row_25 = refl

pub row_26 : first_wrong (named 26 refusals) ≡ 0
unfolding computed
row_26 = refl

pub row_27 : first_wrong (named 27 refusals) ≡ 0
unfolding computed
row_27 = refl

pub row_28 : first_wrong (named 28 refusals) ≡ 0
unfolding computed
row_28 = refl

pub row_29 : first_wrong (named 29 refusals) ≡ 0
unfolding computed
row_29 = refl

pub row_30 : first_wrong (named 30 refusals) ≡ 0
unfolding computed
row_30 = refl

pub row_31 : first_wrong (named 31 refusals) ≡ 0
unfolding computed
row_31 = refl

pub row_32 : first_wrong (named 32 refusals) ≡ 0
unfolding computed
row_32 = refl

pub row_33 : first_wrong (named 33 refusals) ≡ 0
unfolding computed
row_33 = refl

pub row_34 : first_wrong (named 34 refusals) ≡ 0
unfolding computed
row_34 = refl
