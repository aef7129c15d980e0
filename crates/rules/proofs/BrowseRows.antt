-- The rows of the browser's moves hold, proved by computation, one theorem for each name.
use mathlib.Core.Path.{◌≡◌, refl}
use mathlib.Core.List.{[], ◌∷◌}
use Rattle.rules.proofs.Computed.{computed}
use Rattle.rules.specs.rows.BrowseRows.{browse_rows}
use Rattle.rules.specs.rows.Row.{first_wrong, named, others}

-- no row has another name than these
pub no_other : others (1 ∷ 2 ∷ 3 ∷ 4 ∷ 5 ∷ 6 ∷ 7 ∷ []) browse_rows ≡ []
unfolding computed
no_other = refl

pub row_1 : first_wrong (named 1 browse_rows) ≡ 0
unfolding computed
row_1 = refl

pub row_2 : first_wrong (named 2 browse_rows) ≡ 0
unfolding computed
row_2 = refl

pub row_3 : first_wrong (named 3 browse_rows) ≡ 0
unfolding computed
row_3 = refl

pub row_4 : first_wrong (named 4 browse_rows) ≡ 0
unfolding computed
row_4 = refl

pub row_5 : first_wrong (named 5 browse_rows) ≡ 0
unfolding computed
row_5 = refl

pub row_6 : first_wrong (named 6 browse_rows) ≡ 0
unfolding computed
row_6 = refl

pub row_7 : first_wrong (named 7 browse_rows) ≡ 0
unfolding computed
row_7 = refl
