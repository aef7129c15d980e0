use mathlib.Core.Path.{◌≡◌}
use Rattle.clock.specs.Hold.{hold_after}
use Rattle.clock.specs.Timetable.{risk_at}
use Rattle.clock.proofs.holding.hold_after.Given as goal

abbrev pub invariant-loop-i : goal.invariant-loop-i
invariant-loop-i l = (l.left ≡ hold_after (risk_at l.table) l.t4 l.hold l.i) × (l.risk ≡ risk_at l.table l.i)
