use Rattle.recorder.proofs.LineFaults.{all_is}
use Rattle.rules_plan.specs.Faults.{all_given}
use Rattle.std.proofs.Common.{rules, tests, ◌∙◌}
use Rattle.std.proofs.lemmas.Iterator.{YieldsList-from_slice}
use Rattle.std.proofs.lemmas.Iterator.Search.{all_from_yields_List}
use Rattle.recorder.proofs.saying.all_given.Goals as goal

pub returns : goal.returns
unfolding all_given
returns c =
    all_from_yields_List (λ b. b) _ _ _ c.all.ensures.ran (YieldsList-from_slice c.args.said.given cc)
    (λ x b q k. search (rules, tests))
    ∙ all_is c.args.said.given
