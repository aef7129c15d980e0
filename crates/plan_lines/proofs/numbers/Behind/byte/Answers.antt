use Rattle.plan_lines.proofs.WordFaults.{no_number, no_word_number, read_missing, read_right, read_wrong}
use Rattle.rules.specs.Answered.{given}
use Rattle.rules_plan.specs.Answered.{fault_number}
use Rattle.std.proofs.Common.{ap, sym, ◌∙◌}
use Rattle.plan_lines.proofs.numbers.Behind.byte.Goals as goal
use Rattle.plan_lines.proofs.numbers.Behind.byte.Goals.{in-None, in-Some+in-None-byte_in}

pub returns-in-Some-byte_in-clause-told : goal.returns-in-Some-byte_in-clause-told
returns-in-Some-byte_in-clause-told c =
    read_right 255 _ _ _ _ c.in-Some.ensures.steps _ (ap given (sym c.in-Some-byte_in.is) ∙ c.byte_in.ensures)

pub returns-clause-value : goal.returns-clause-value
returns-clause-value c = elim c.match-next.branch [
  | in-None w ↦ no_word_number 255 _ w.in-None.ensures.steps.0
  | in-Some+in-None-byte_in w ↦ no_number 255 _ _ _ w.in-Some.ensures.steps
      (ap given (sym w.in-None-byte_in.is) ∙ w.byte_in.ensures)
]

pub returns-clause-told : goal.returns-clause-told
returns-clause-told c = elim c.match-next.branch [
  | in-None w ↦ read_missing 255 _ _ _ _ _ c.and-self.ensures w.fault-is w.in-None.ensures.steps.0
  | in-Some+in-None-byte_in w ↦ read_wrong 255 _ _ _ _ w.in-Some.ensures.steps _ _ c.and-self.ensures
      (ap fault_number w.fault-is) (ap given (sym w.in-None-byte_in.is) ∙ w.byte_in.ensures)
]
