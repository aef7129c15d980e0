use Rattle.std.proofs.Common.{◌≡◌, ◌+◌, ◌≤◌, length, suc}
use Rattle.std.specs.Iterator.Adapters.{enumerate_count, enumerate_source}
use Rattle.rules_plan.specs.Faults.{checked, checked_from}
use Rattle.rules_plan.specs.Words.{lines}
use Rattle.recorder.proofs.checking.check.Given as goal

abbrev pub invariant-loop-line : goal.invariant-loop-line
invariant-loop-line l =
    let left = lines (enumerate_source l.line-iterator).text.now in
    record {
      few : enumerate_count l.line-iterator + length left ≤ length l.text;
      so_far : checked_from (suc (enumerate_count l.line-iterator)) l.said left ≡ checked l.text;
    }
