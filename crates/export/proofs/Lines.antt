-- The length of a line as C is given it: 0 where the line does not fit.
use Rattle.std.proofs.Common.{◌≡◌, ℕ, List, Bool, true, false, cond, length, refl}
use Rattle.std.specs.Prelude.{Some, None}
use Rattle.std.specs.Option.{unwrap_or}
use Rattle.rules.specs.Printer.{fits, length_where_it_fits, length_written}

or_0 : (g : Bool) (n : ℕ) → unwrap_or (cond g (Some n) None) 0 ≡ cond g n 0
or_0 true n = refl
or_0 false n = refl

pub line_length : (line b : List ℕ) → unwrap_or (length_where_it_fits line b) 0 ≡ length_written line b
unfolding length_where_it_fits length_written
line_length line b = or_0 (fits line b) (length line)
