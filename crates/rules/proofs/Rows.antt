-- Document 01, "Rows to hold against the rules", with C13 and C14 of request 5 of document 02: C1 to C14 hold, proved
-- once, by computation over the whole table.
use mathlib.Core.Path.{◌≡◌, refl}
use Rattle.rules.proofs.Computed.{computed}
use Rattle.rules.specs.rows.Machine.{ours}
use Rattle.rules.specs.rows.Row.{first_wrong}
use Rattle.rules.specs.rows.Table.{table}

pub rows : first_wrong (table ours) ≡ 0
unfolding computed
rows = refl
