-- What has been said with one line more, and what is wrong with a text, where they are errors. (Not for belief: it is
-- told by rules_plan.)
use Rattle.std.specs.Prelude.{◌≡◌, Result, Ok, Err}
use Rattle.rules.specs.declared.Report.{Report}
use Rattle.rules_plan.specs.Answered.{fault_number, setting_number}
use Rattle.rules_plan.specs.Faults.{line_fault, text_ends, with_line}
use Rattle.rules_plan.specs.Lines.{understood}
use Rattle.rules_plan.specs.declared.Checked.{Checked}
use Rattle.rules_plan.specs.declared.Fault.{Fault}
use Rattle.rules_plan.specs.declared.Line.{Line}
use Rattle.rules_plan.specs.declared.Misread.{Misread}
use Rattle.rules_plan.specs.declared.Said.{Said}
use Rattle.rules_plan.specs.declared.Setting.{Setting}

-- a line that is understood, and says a setting
abbrev pub setting_line : Setting → Report → Line
setting_line setting numbers = record { name = setting_number setting; fault = understood; numbers = numbers }

-- what has been said with a line, or what is wrong with it where it stands
abbrev pub SaidWith : Said → Line → Result Said Fault → Type 0
SaidWith s l (Ok next) = (line_fault s l ≡ understood) × (next ≡ with_line s l)
SaidWith s l (Err fault) = fault_number fault ≡ line_fault s l

-- what a text says, or what is wrong with it; up to there it says what is given
abbrev pub checked_in : Said → Result Said Misread → Checked
checked_in so_far (Ok said) = record { fault = understood; line = 0; said = said }
checked_in so_far (Err (Misread.AtLine line fault)) =
    record { fault = fault_number fault; line = line; said = so_far }
checked_in so_far (Err Misread.TextEnds) = record { fault = text_ends; line = 0; said = so_far }
