-- `check`: before each turn what the lines from there on give, after what was said, is what the whole text gives.
use Rattle.std.proofs.Common.{◌≡◌, ◌+◌, ◌∙◌, ap, arith, length, rules, suc}
use Rattle.std.specs.Iterator.Adapters.{enumerate_count, enumerate_source}
use Rattle.recorder.proofs.CheckedOn.{Numbered, all_said, checked_on, lines_few, said_nothing, stopped, text_ends_early}
use Rattle.rules_plan.specs.Faults.{checked, checked_from}
use Rattle.rules_plan.specs.Words.{lines, unmarked}
use Rattle.recorder.proofs.checking.check.Goals as goal

pub loop-line-init : goal.loop-line-init
unfolding checked
loop-line-init c =
    let before : enumerate_count c.into_iter-line-iterator.result ≡ 0 = cc in
    let whole : lines (enumerate_source c.into_iter-line-iterator.result).text.now ≡ lines (unmarked c.args.text.now) =
    cc in
    record {
      few = omega (arith, lines_few c.args.text.now, ap length whole, before);
      so_far =
          λ i. checked_from (suc (before i)) (said_nothing c.default-said.result c.default-said.ensures i) (whole i);
    }

pub returns-in_err-said : goal.returns-in_err-said
returns-in_err-said c =
    let numbered : Numbered (enumerate_count c.loop-line.line-iterator + 1) c.with_line.result c.map_err.result =
    search rules in
    stopped _ _ _ _ c.loop-line.invariant.so_far _ _ c.in-Some.ensures.steps.0 _ c.line_in.ensures _ _ _ _
    c.with_line.ensures numbered c.in_err-said.was (search rules)

pub loop-line-preserved : goal.loop-line-preserved
loop-line-preserved c =
    let steps = c.in-Some.ensures.steps in
    let left = lines (enumerate_source c.next.new.self).text.now in
    let numbered : Numbered (enumerate_count c.loop-line.line-iterator + 1) c.with_line.result c.map_err.result =
    search rules in
    record {
      few = omega (arith, ap length steps.0, steps.2, c.loop-line.invariant.few);
      so_far =
          ap (λ n. checked_from (suc n) c.in_ok-said.said left) steps.2
          ∙ checked_on _ _ _ _ c.loop-line.invariant.so_far _ _ steps.0 _ c.line_in.ensures _ _ _
          c.with_line.ensures numbered c.in_ok-said.was;
    }

pub returns-then-all_given : goal.returns-then-all_given
returns-then-all_given c =
    all_said _ _ _ _ c.loop-line.invariant.so_far c.in-None.ensures.steps.0.0 c.if-all_given.ensures

pub returns-else-all_given : goal.returns-else-all_given
returns-else-all_given c =
    text_ends_early _ _ _ _ c.loop-line.invariant.so_far c.in-None.ensures.steps.0.0 c.if-all_given.ensures
