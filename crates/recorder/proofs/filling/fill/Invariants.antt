use Rattle.std.proofs.Common.{◌≡◌, ◌+◌, ◌≤◌, length, suc}
use Rattle.std.specs.Iterator.Adapters.{enumerate_count, enumerate_source}
use Rattle.recorder.specs.AfterLine.{filling}
use Rattle.recorder.specs.ByLine.{filled_from, lines_from}
use Rattle.rules_plan.specs.Words.{lines}
use Rattle.recorder.proofs.filling.fill.Given as goal

abbrev pub invariant-loop-line : goal.invariant-loop-line
invariant-loop-line l =
    let line = enumerate_count l.line-iterator in
    let left = lines (enumerate_source l.line-iterator).text.now in
    let all = lines (enumerate_source l.initial.line-iterator).text.now in
    record {
      few : line + length left ≤ length l.text;
      counted : l.count ≤ line;
      filled : filled_from (filling l.count l.station l.register) left
          ≡ filled_from (filling l.initial.count l.initial.station l.initial.register) all;
      put_down : lines_from (suc line) l.count l.rows left
          ≡ lines_from (suc (enumerate_count l.initial.line-iterator)) l.initial.count l.initial.rows all;
      as_long : length l.rows ≡ length l.initial.rows;
    }
