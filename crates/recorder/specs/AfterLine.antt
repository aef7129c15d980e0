-- A register being filled, before a line and after it. (Not for belief: what is filled is told by rules_plan.)
use Rattle.std.specs.Prelude.{ℕ, cond, List}
use Rattle.rules.specs.declared.Station.{Station}
use Rattle.rules_plan.specs.Lines.{is_report}
use Rattle.rules_plan.specs.Recording.{Filling, entered}
use Rattle.rules_plan.specs.declared.Line.{Line}

abbrev pub filling : ℕ → Station → List ℕ → Filling
filling count station bytes = record { count = count; station = station; bytes = bytes }

abbrev pub after_line : Line → Filling → Filling
after_line found f = cond (is_report found) (entered found.numbers f) f
