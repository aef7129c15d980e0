-- The rows for the words of specs/BrowseBack hold, proved by computation, one theorem for each name.
use mathlib.Core.Path.{◌≡◌, refl}
use mathlib.Core.List.{[], ◌∷◌}
use Rattle.demands.proofs.Computed.{computed}
use Rattle.demands.specs.BrowseRows.{browse_rows}
use Rattle.rules.specs.rows.Row.{first_wrong, named, others}

-- no row has another name than these
pub no_other : others (8 ∷ 9 ∷ []) browse_rows ≡ []
unfolding computed
no_other = refl

pub row_8 : first_wrong (named 8 browse_rows) ≡ 0
unfolding computed
row_8 = refl

pub row_9 : first_wrong (named 9 browse_rows) ≡ 0
unfolding computed
row_9 = refl
