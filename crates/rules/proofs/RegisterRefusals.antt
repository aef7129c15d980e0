-- Document 01, "The numbers it answers": what is wrong with a register gets its number, proved by
-- computation, one theorem for each name.
use mathlib.Core.Path.{◌≡◌, refl}
use mathlib.Core.List.{[], ◌∷◌}
use Rattle.rules.proofs.Computed.{computed}
use Rattle.rules.specs.rows.RegisterRefusals.{register_refusals}
use Rattle.rules.specs.rows.Row.{first_wrong, named, others}

-- no row has another name than these
pub no_other : others (17 ∷ 18 ∷ 19 ∷ 20 ∷ 21 ∷ 22 ∷ 23 ∷ 24 ∷ 25 ∷ 26 ∷ 27 ∷ 28 ∷ 29 ∷ 30 ∷ 31 ∷ 32 ∷ 33 ∷ 34 ∷ 35 ∷ 36
    ∷ 37 ∷ 38 ∷ 39 ∷ 40 ∷ 41 ∷ 42 ∷ 43 ∷ 44 ∷ 45 ∷ 46 ∷ 47 ∷ 48 ∷ 49 ∷ 50 ∷ 51 ∷ []) register_refusals ≡ []
unfolding computed
no_other = refl

pub row_17 : first_wrong (named 17 register_refusals) ≡ 0
unfolding computed
row_17 = refl

pub row_18 : first_wrong (named 18 register_refusals) ≡ 0
unfolding computed
row_18 = refl

pub row_19 : first_wrong (named 19 register_refusals) ≡ 0
unfolding computed
row_19 = refl

pub row_20 : first_wrong (named 20 register_refusals) ≡ 0
unfolding computed
row_20 = refl

pub row_21 : first_wrong (named 21 register_refusals) ≡ 0
unfolding computed
row_21 = refl

pub row_22 : first_wrong (named 22 register_refusals) ≡ 0
unfolding computed
row_22 = refl

pub row_23 : first_wrong (named 23 register_refusals) ≡ 0
unfolding computed
row_23 = refl

pub row_24 : first_wrong (named 24 register_refusals) ≡ 0
unfolding computed
row_24 = refl

pub row_25 : first_wrong (named 25 register_refusals) ≡ 0
unfolding computed
row_25 = refl

pub row_26 : first_wrong (named 26 register_refusals) ≡ 0
unfolding computed
row_26 = refl

pub row_27 : first_wrong (named 27 register_refusals) ≡ 0
unfolding computed
row_27 = refl

pub row_28 : first_wrong (named 28 register_refusals) ≡ 0
unfolding computed
row_28 = refl

pub row_29 : first_wrong (named 29 register_refusals) ≡ 0
unfolding computed
row_29 = refl

pub row_30 : first_wrong (named 30 register_refusals) ≡ 0
unfolding computed
row_30 = refl

pub row_31 : first_wrong (named 31 register_refusals) ≡ 0
unfolding computed
row_31 = refl

pub row_32 : first_wrong (named 32 register_refusals) ≡ 0
unfolding computed
row_32 = refl

pub row_33 : first_wrong (named 33 register_refusals) ≡ 0
unfolding computed
row_33 = refl

pub row_34 : first_wrong (named 34 register_refusals) ≡ 0
unfolding computed
row_34 = refl

pub row_35 : first_wrong (named 35 register_refusals) ≡ 0
unfolding computed
row_35 = refl

pub row_36 : first_wrong (named 36 register_refusals) ≡ 0
unfolding computed
row_36 = refl

pub row_37 : first_wrong (named 37 register_refusals) ≡ 0
unfolding computed
row_37 = refl

pub row_38 : first_wrong (named 38 register_refusals) ≡ 0
unfolding computed
row_38 = refl

pub row_39 : first_wrong (named 39 register_refusals) ≡ 0
unfolding computed
row_39 = refl

pub row_40 : first_wrong (named 40 register_refusals) ≡ 0
unfolding computed
row_40 = refl

pub row_41 : first_wrong (named 41 register_refusals) ≡ 0
unfolding computed
row_41 = refl

pub row_42 : first_wrong (named 42 register_refusals) ≡ 0
unfolding computed
row_42 = refl

pub row_43 : first_wrong (named 43 register_refusals) ≡ 0
unfolding computed
row_43 = refl

pub row_44 : first_wrong (named 44 register_refusals) ≡ 0
unfolding computed
row_44 = refl

pub row_45 : first_wrong (named 45 register_refusals) ≡ 0
unfolding computed
row_45 = refl

pub row_46 : first_wrong (named 46 register_refusals) ≡ 0
unfolding computed
row_46 = refl

pub row_47 : first_wrong (named 47 register_refusals) ≡ 0
unfolding computed
row_47 = refl

pub row_48 : first_wrong (named 48 register_refusals) ≡ 0
unfolding computed
row_48 = refl

pub row_49 : first_wrong (named 49 register_refusals) ≡ 0
unfolding computed
row_49 = refl

pub row_50 : first_wrong (named 50 register_refusals) ≡ 0
unfolding computed
row_50 = refl

pub row_51 : first_wrong (named 51 register_refusals) ≡ 0
unfolding computed
row_51 = refl
