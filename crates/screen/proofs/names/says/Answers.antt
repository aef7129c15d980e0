-- `says`: what is left of the string says what is left of the word, where the whole does.
use mathlib.Core.Path.{ap, ◌∙◌}
use native.Mathlib.Omega.{arith}
use lib.Dec.{eqb}
use Rattle.screen.proofs.Saying.{says_begins, says_on, says_other, says_over, string_within}
use Rattle.screen.proofs.names.says.Goals as goal

pub overflow_add-place : goal.overflow_add-place
overflow_add-place c =
    omega (arith, string_within c.args.text.now c.args.word.now c.args.at c.requires.string_value)

pub loop-letter-init : goal.loop-letter-init
loop-letter-init c = says_begins _ _ _ c.requires.string_value

pub returns-in_default : goal.returns-in_default
returns-in_default c =
    says_other c.loop-letter.invariant c.loop-letter-test.true c.requires.word_value c.in_default.ensures

pub loop-letter-preserved : goal.loop-letter-preserved
loop-letter-preserved c = says_on c.loop-letter.invariant c.loop-letter-test.true _ c.in-Some.ensures

pub returns : goal.returns
returns c = ap (λ o. eqb o 0x22) c.octet.ensures ∙ says_over c.loop-letter.invariant c.loop-letter-test.false
