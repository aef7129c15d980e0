-- `obstructed`: of each track, whether an island is occupied or a detector failed.
use mathlib.Core.Path.{◌∙◌}
use mathlib.Core.Bool.{◌||◌}
use borrow.Author.Rules.{rules}
use Rattle.std.proofs.Common.{tests}
use Rattle.std.proofs.lemmas.Iterator.{YieldsList-from_slice}
use Rattle.std.proofs.lemmas.Iterator.Search.{any_from_yields_List}
use Rattle.rules.specs.Station.{live, obstructed, some_failed, some_occupied}
use Rattle.station.proofs.Surveys.{any_of_two}
use Rattle.station.proofs.surveying.obstructed.Goals as goal

pub returns : goal.returns
unfolding obstructed
returns c = let l = live c.args.station.now in
    any_from_yields_List (λ t. some_occupied t || some_failed t) _ _ c.any.result c.any.ensures.ran
    (YieldsList-from_slice l cc) (λ x b q k. search (rules, tests))
    ∙ any_of_two some_occupied some_failed l
