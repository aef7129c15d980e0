use mathlib.Core.Path.{◌≡◌}
use Rattle.clock.specs.Ages.{later}
use Rattle.islands.proofs.Below.{changed}
use Rattle.clock.proofs.ageing.islands_grow_older.Given as goal

abbrev pub invariant-loop-island : goal.invariant-loop-island
invariant-loop-island l = l.islands ≡ changed (later l.n) l.island-index l.initial.islands
