-- `number_in`: the number of what is left, behind what was read, is the number of the whole.
use mathlib.Core.Path.{sym, ◌∙◌}
use native.Mathlib.Omega.{arith}
use Rattle.digits.proofs.Counted.{counted_on}
use Rattle.digits.proofs.number_in.Goals as goal

pub loop-found-preserved : goal.loop-found-preserved
loop-found-preserved c = (
  omega arith,
  c.loop-found.invariant.1
      ∙ counted_on _ _ _ c.loop-found-test.true _ (omega arith) (sym c.is_digit.ensures ∙ c.if-not-is_digit.false),
)
