-- `line_said`: a word that is no name comes first.
use borrow.Author.Rules.{rules}
use mathlib.Core.Path.{◌∙◌}
use Rattle.plan_lines.proofs.WordFaults.{name_said}
use Rattle.rules.specs.Words.{◌if◌then◌}
use Rattle.rules_plan.specs.Lines.{line_said}
use Rattle.plan_lines.proofs.lines.line_said.Goals as goal

pub returns-in-Other : goal.returns-in-Other
unfolding line_said ◌if◌then◌
returns-in-Other c = search rules

pub returns-in_default : goal.returns-in_default
returns-in_default c = name_said _ _ _ _ _ c.in_default.not-Other
    (c.ended.ensures ∙ c.filled-numbers.ensures.told) c.filled-numbers.ensures.value
