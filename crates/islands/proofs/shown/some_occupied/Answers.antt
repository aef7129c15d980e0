-- `some_occupied`: what the library's `any` finds.
use Rattle.std.proofs.Common.{rules, tests, ◌∙◌}
use Rattle.std.proofs.lemmas.Iterator.{YieldsList-from_slice}
use Rattle.std.proofs.lemmas.Iterator.Search.{any_from_yields_List}
use Rattle.islands.proofs.Islands.{any_is}
use Rattle.rules.specs.Station.{some_occupied}
use Rattle.rules.specs.declared.Island.{Island}
use Rattle.islands.proofs.shown.some_occupied.Goals as goal

pub returns : goal.returns
unfolding some_occupied
returns c = let islands = c.args.track.islands in
    any_from_yields_List (λ (i : Island). i.occupied) _ _ _ c.any.ensures.ran (YieldsList-from_slice islands cc)
    (λ x b q k. search (rules, tests))
    ∙ any_is (λ i. i.occupied) islands
