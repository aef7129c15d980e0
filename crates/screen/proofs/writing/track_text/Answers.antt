-- `track_text`: a digit for each of the five.
use mathlib.Core.Path.{sym, ap, ◌∙◌}
use mathlib.Core.List.{[], ◌∷◌}
use Rattle.islands.proofs.Listed.{listed}
use Rattle.screen.specs.Texts.{track_text}
use Rattle.screen.proofs.writing.track_text.Goals as goal

pub returns : goal.returns
unfolding track_text
returns c = (λ i.
    c.args.before ∷ 91
    ∷ c.digit.ensures i ∷ 44
    ∷ c.digit-2.ensures i ∷ 44
    ∷ c.digit-3.ensures i ∷ 44
    ∷ c.digit-4.ensures i ∷ 44
    ∷ c.digit-5.ensures i ∷ 93 ∷ [])
    ∙ ap (track_text c.args.before) (sym (listed 0 c.args.five.now 5 c.requires))
