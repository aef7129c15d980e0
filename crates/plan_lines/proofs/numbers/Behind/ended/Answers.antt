use Rattle.plan_lines.proofs.WordFaults.{ended_early, ended_here, ended_late}
use Rattle.rules_plan.specs.Answered.{fault_number, fault_of}
use Rattle.std.proofs.Common.{◌≡◌, rules, ◌∙◌}
use Rattle.plan_lines.proofs.numbers.Behind.ended.Goals as goal

pub returns-in_err-self : goal.returns-in_err-self
returns-in_err-self c =
    let told : fault_of c.from_residual.result ≡ fault_number c.in_err-self.field-0.0 = search rules in
    told ∙ ended_early _ _ _ c.in_err-self.was

pub returns-in-None : goal.returns-in-None
returns-in-None c = ended_here _ _ _ c.in_ok-self.was c.in-None.ensures.steps.0

pub returns-in-Some : goal.returns-in-Some
returns-in-Some c = ended_late _ _ _ _ _ c.in_ok-self.was c.in-Some.ensures.steps
