-- `fill`: before each turn what the lines from there on make of the register and of the list is what all lines make
-- of them.
use Rattle.std.proofs.Common.{◌≡◌, ◌+◌, set, suc, ap, ap₂, arith, length, refl, ◌∙◌}
use Rattle.std.proofs.Math.ListN.{length-set}
use Rattle.recorder.proofs.CheckedOn.{lines_few}
use Rattle.recorder.proofs.FilledOn.{filled_on, filled_over, filled_whole, lines_on, lines_over, lines_whole}
use Rattle.recorder.proofs.FilledOn.{made_ok, made_station, started_ok}
use Rattle.std.specs.Iterator.Adapters.{enumerate_count, enumerate_source}
use Rattle.recorder.specs.AfterLine.{filling}
use Rattle.recorder.specs.ByLine.{filled_from, lines_from}
use Rattle.rules_plan.specs.Recording.{Filling, started_with}
use Rattle.rules_plan.specs.Words.{lines, unmarked}
use Rattle.recorder.proofs.filling.fill.Goals as goal

pub unwrap-requires : goal.unwrap-requires
unwrap-requires c = started_ok c.args.settings c.requires c.args.register.now _ c.told-register c.start.ensures.value

pub unwrap-station-requires : goal.unwrap-station-requires
unwrap-station-requires c = made_ok c.args.settings c.requires _ c.make.ensures

pub loop-line-init : goal.loop-line-init
loop-line-init c =
    let before : enumerate_count c.into_iter-line-iterator.result ≡ 0 = cc in
    let all = lines (enumerate_source c.into_iter-line-iterator.result).text.now in
    let whole : all ≡ lines (unmarked c.args.text.now) = cc in
    record {
      few = omega (arith, lines_few c.args.text.now, ap length whole, before);
      counted = omega arith;
      filled = refl;
      put_down = refl;
      as_long = refl;
    }

pub loop-line-preserved-in-Some-report_in : goal.loop-line-preserved-in-Some-report_in
loop-line-preserved-in-Some-report_in c =
    let inv = c.loop-line.invariant in
    let steps = c.in-Some.ensures.steps in
    let left = lines (enumerate_source c.next.new.self).text.now in
    record {
      few = omega (arith, ap length steps.0, steps.2, inv.few);
      counted = omega (arith, steps.2, inv.counted);
      filled =
          filled_on _ _ _ steps.0 _ c.line_in.ensures _ c.report_in.ensures _
          c.in-Some-report_in.is _ _ _ _ _ _ c.enter.ensures.station_after c.enter.ensures.register_after inv.filled;
      put_down =
          ap (λ n. lines_from (suc n) (c.loop-line.count + 1) c.put_line.new.rows left) steps.2
          ∙ lines_on _ _ _ steps.0 _ c.line_in.ensures _ c.report_in.ensures _ c.in-Some-report_in.is _ _ _ _ _
          (c.put_line.ensures ∙ ap (λ n. set c.loop-line.rows c.loop-line.count (n + 1)) steps.1) inv.put_down;
      as_long = ap length c.put_line.ensures ∙ length-set _ _ _ ∙ inv.as_long;
    }

pub loop-line-preserved : goal.loop-line-preserved
loop-line-preserved c =
    let inv = c.loop-line.invariant in
    let steps = c.in-Some.ensures.steps in
    let left = lines (enumerate_source c.next.new.self).text.now in
    record {
      few = omega (arith, ap length steps.0, steps.2, inv.few);
      counted = omega (arith, steps.2, inv.counted);
      filled =
          filled_over _ _ _ steps.0 _ c.line_in.ensures _ c.report_in.ensures c.in_default.is _
          _ inv.filled;
      put_down =
          ap (λ n. lines_from (suc n) c.loop-line.count c.loop-line.rows left) steps.2
          ∙ lines_over _ _ _ steps.0 _ c.line_in.ensures _ c.report_in.ensures c.in_default.is _ _ _ _ inv.put_down;
      as_long = inv.as_long;
    }

pub returns-clause-register_after : goal.returns-clause-register_after
unfolding started_with
returns-clause-register_after c =
    let all = lines (enumerate_source c.into_iter-line-iterator.result).text.now in
    let whole : all ≡ lines (unmarked c.args.text.now) = cc in
    let station = made_station _ c.args.settings _ c.make.ensures c.unwrap-station.ensures in
    ap (λ (f : Filling). f.bytes)
    (filled_whole _ _ _ c.in-None.ensures.steps.0.0 c.loop-line.invariant.filled
    ∙ ap₂ (λ s b. filled_from (filling 0 s b) all) station
    c.start.ensures.register_after
    ∙ ap (filled_from (started_with c.args.settings c.args.register.now)) whole)

pub returns-clause-rows_after : goal.returns-clause-rows_after
returns-clause-rows_after c =
    let before : enumerate_count c.into_iter-line-iterator.result ≡ 0 = cc in
    let all = lines (enumerate_source c.into_iter-line-iterator.result).text.now in
    let whole : all ≡ lines (unmarked c.args.text.now) = cc in
    lines_whole _ _ _ _ _ c.in-None.ensures.steps.0.0 c.loop-line.invariant.put_down
    ∙ (λ i. lines_from (suc (before i)) 0 c.args.rows.now (whole i))
