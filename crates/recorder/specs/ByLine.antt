-- A register filled, and the lines of its rows put down, line by line as the code goes. (Not for belief:
-- what is recorded is told by rules_plan.)
use Rattle.std.specs.Prelude.{ℕ, suc, cond, List, [], ◌∷◌, set}
use Rattle.recorder.specs.AfterLine.{after_line}
use Rattle.rules_plan.specs.Lines.{is_report, line_of}
use Rattle.rules_plan.specs.Recording.{Filling}

-- the reports of all lines, in their order
unfoldable pub filled_from : Filling → List (List ℕ) → Filling
filled_from f [] = f
filled_from f (l ∷ ls) = filled_from (after_line (line_of l) f) ls

-- the line of each report, at the place of its row: from a line on, counted from 1, behind so many reports
unfoldable pub lines_from : ℕ → ℕ → List ℕ → List (List ℕ) → List ℕ
lines_from line count rows [] = rows
lines_from line count rows (l ∷ ls) =
    cond (is_report (line_of l)) (lines_from (suc line) (suc count) (set rows count line) ls)
    (lines_from (suc line) count rows ls)
