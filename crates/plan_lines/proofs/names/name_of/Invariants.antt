use Rattle.plan_lines.proofs.Naming.{Searched}
use Rattle.plan_lines.proofs.names.name_of.Given as goal

abbrev pub invariant-loop-name : goal.invariant-loop-name
invariant-loop-name l = Searched l.name-items l.word l.name-index
