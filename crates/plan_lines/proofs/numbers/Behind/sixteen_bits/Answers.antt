use Rattle.plan_lines.proofs.WordFaults.{no_number, no_word_number, read_missing, read_right, read_wrong}
use Rattle.rules.specs.Answered.{given}
use Rattle.rules_plan.specs.Answered.{fault_number}
use Rattle.std.proofs.Common.{ap, sym, ◌∙◌}
use Rattle.plan_lines.proofs.numbers.Behind.sixteen_bits.Goals as goal
use Rattle.plan_lines.proofs.numbers.Behind.sixteen_bits.Goals.{in-None, in-Some+in-None-number_in}

pub returns-in-Some-number_in-clause-told : goal.returns-in-Some-number_in-clause-told
returns-in-Some-number_in-clause-told c =
    read_right 65535 _ _ _ _ c.in-Some.ensures.steps _ (ap given (sym c.in-Some-number_in.is) ∙ c.number_in.ensures)

pub returns-clause-value : goal.returns-clause-value
returns-clause-value c = elim c.match-next.branch [
  | in-None w ↦ no_word_number 65535 _ w.in-None.ensures.steps.0
  | in-Some+in-None-number_in w ↦ no_number 65535 _ _ _ w.in-Some.ensures.steps
      (ap given (sym w.in-None-number_in.is) ∙ w.number_in.ensures)
]

pub returns-clause-told : goal.returns-clause-told
returns-clause-told c = elim c.match-next.branch [
  | in-None w ↦ read_missing 65535 _ _ _ _ _ c.and-self.ensures w.fault-is w.in-None.ensures.steps.0
  | in-Some+in-None-number_in w ↦ read_wrong 65535 _ _ _ _ w.in-Some.ensures.steps _ _ c.and-self.ensures
      (ap fault_number w.fault-is) (ap given (sym w.in-None-number_in.is) ∙ w.number_in.ensures)
]
