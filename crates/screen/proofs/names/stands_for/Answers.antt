-- `stands_for`: a numeral below ten, and from ten on a letter of either case.
use borrow.Author.Rules.{rules}
use Rattle.screen.proofs.Hexadecimal.{stands_above, stands_below}
use Rattle.screen.proofs.names.stands_for.Goals as goal

pub returns-then-number-lt10 : goal.returns-then-number-lt10
returns-then-number-lt10 c = stands_below _ _ (search rules)

pub returns : goal.returns
returns c = stands_above _ _ (search rules) (search rules)
