-- Document 02, request 1: the rows of a message and its text hold, proved by computation, one theorem for each name.
use mathlib.Core.Path.{◌≡◌, refl}
use mathlib.Core.List.{[], ◌∷◌}
use Rattle.rules.proofs.Computed.{computed}
use Rattle.rules.specs.rows.Row.{first_wrong, named, others}
use Rattle.rules.specs.rows.ScreenRows.{screen_rows}

-- no row has another name than these
pub no_other :
    others
    (1 ∷ 2 ∷ 3 ∷ 4 ∷ 5 ∷ 6 ∷ 7 ∷ 8 ∷ 9 ∷ 10 ∷ 11 ∷ 12 ∷ 13 ∷ 14 ∷ 15 ∷ [])
    screen_rows
    ≡ []
unfolding computed
no_other = refl

pub row_1 : first_wrong (named 1 screen_rows) ≡ 0
unfolding computed
row_1 = refl

pub row_2 : first_wrong (named 2 screen_rows) ≡ 0
unfolding computed
row_2 = refl

pub row_3 : first_wrong (named 3 screen_rows) ≡ 0
unfolding computed
row_3 = refl

pub row_4 : first_wrong (named 4 screen_rows) ≡ 0
unfolding computed
row_4 = refl

pub row_5 : first_wrong (named 5 screen_rows) ≡ 0
unfolding computed
row_5 = refl

pub row_6 : first_wrong (named 6 screen_rows) ≡ 0
unfolding computed
row_6 = refl

pub row_7 : first_wrong (named 7 screen_rows) ≡ 0
unfolding computed
row_7 = refl

pub row_8 : first_wrong (named 8 screen_rows) ≡ 0
unfolding computed
row_8 = refl

pub row_9 : first_wrong (named 9 screen_rows) ≡ 0
unfolding computed
row_9 = refl

pub row_10 : first_wrong (named 10 screen_rows) ≡ 0
unfolding computed
row_10 = refl

pub row_11 : first_wrong (named 11 screen_rows) ≡ 0
unfolding computed
row_11 = refl

pub row_12 : first_wrong (named 12 screen_rows) ≡ 0
unfolding computed
row_12 = refl

pub row_13 : first_wrong (named 13 screen_rows) ≡ 0
unfolding computed
row_13 = refl

pub row_14 : first_wrong (named 14 screen_rows) ≡ 0
unfolding computed
row_14 = refl

pub row_15 : first_wrong (named 15 screen_rows) ≡ 0
unfolding computed
row_15 = refl
