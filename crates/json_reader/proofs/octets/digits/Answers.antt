-- `digits`: the run of digits from each place passed ends where that from the first one does.
use mathlib.Core.Path.{sym, ◌∙◌}
use native.Mathlib.Omega.{arith}
use Rattle.json_reader.proofs.Leading.{digits_on, no_digit, other_digit}
use Rattle.json_reader.proofs.octets.digits.Goals as goal

pub returns-then-not-is_ascii_digit : goal.returns-then-not-is_ascii_digit
returns-then-not-is_ascii_digit c =
    c.then_some.ensures
    ∙ other_digit c.loop-end.end c.args.place c.args.text.now c.loop-end.invariant c.loop-end-test.true
    (sym c.is_ascii_digit.ensures.value ∙ c.if-not-is_ascii_digit.true)

pub loop-end-preserved : goal.loop-end-preserved
loop-end-preserved c =
    omega (
      arith,
      digits_on c.loop-end.end c.args.text.now c.loop-end-test.true
          (sym c.is_ascii_digit.ensures.value ∙ c.if-not-is_ascii_digit.false),
    )

pub returns : goal.returns
returns c =
    c.then_some-2.ensures
    ∙ no_digit c.loop-end.end c.args.place c.args.text.now c.loop-end.invariant c.loop-end-test.false
    c.loop-end.auto.end-end
