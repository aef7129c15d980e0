-- `read`: a text is refused or taken as `is_taken` has it, and what is taken gives what its members give.
use mathlib.Core.Path.{ap, subst, sym, ◌∙◌}
use Rattle.std.specs.Prelude.{Some}
use Rattle.rules.specs.Answered.{received_in}
use Rattle.screen.proofs.Receiving.{given_in, more_text, no_value_lem, none_found, our_places, refused_in, some_found}
use Rattle.screen.proofs.Receiving.{given_by, too_long, whole_text}
use Rattle.screen.specs.Places.{Outermost}
use Rattle.screen.proofs.reading.read.Goals as goal
use Rattle.screen.proofs.reading.read.Goals.{After-blanks-2}

pub returns-then-text-gt-LONGEST : goal.returns-then-text-gt-LONGEST
returns-then-text-gt-LONGEST c = too_long c.args.text.now c.if-text-gt-LONGEST.true

pub returns-in_err-found : goal.returns-in_err-found
returns-in_err-found c =
    let (none, is) = none_found c.outermost.result _ c.in_err-found.ensures.value in
    refused_in c.from_residual.result _ c.from_residual.ensures.1 is
    ∙ no_value_lem c.args.text.now c.if-text-gt-LONGEST.false c.blanks.ensures
    (subst (Outermost c.args.text.now c.blanks.result) (sym none) c.outermost.ensures)

there : (c : After-blanks-2) → Outermost c.args.text.now c.blanks.result (Some c.in_ok-found.found)
there c =
    subst (Outermost c.args.text.now c.blanks.result)
    (sym (some_found c.outermost.result c.in_ok-found.found c.in_ok-found.ensures.value)) c.outermost.ensures

pub returns-then-blanks-text : goal.returns-then-blanks-text
returns-then-blanks-text c =
    more_text c.args.text.now c.if-text-gt-LONGEST.false c.blanks.ensures
    (there (goal.at.returns-then-blanks-text c).After-blanks-2) c.blanks-2.ensures c.if-blanks-text.true

pub gathered-requires : goal.gathered-requires
gathered-requires c =
    our_places c.args.text.now c.if-text-gt-LONGEST.false c.blanks.ensures
    (there (goal.at.gathered-requires c).After-blanks-2) c.blanks-2.ensures

pub returns : goal.returns
returns c =
    ap received_in c.ok_or-2.ensures.value
    ∙ given_in c.gathered.result
    ∙ ap given_by c.gathered.ensures
    ∙ whole_text c.args.text.now c.if-text-gt-LONGEST.false c.blanks.ensures (there (goal.at.returns c).After-blanks-2)
    c.blanks-2.ensures c.if-blanks-text.false
