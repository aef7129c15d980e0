use Rattle.screen.proofs.Saying.{Saying}
use Rattle.screen.proofs.names.says.Given as goal

abbrev pub invariant-loop-letter : goal.invariant-loop-letter
invariant-loop-letter l = Saying l.text l.word l.at l.place l.letter-index
