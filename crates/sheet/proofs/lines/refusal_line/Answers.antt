-- `refusal_line`: with the answer 13 the entry is named (`naming`), with any other it is not (`refusal`).
use mathlib.Core.Path.{ap, ◌∙◌}
use Rattle.rules.specs.Printer.{decimal}
use Rattle.sheet.proofs.Spelling.{naming, refusal}
use Rattle.text.proofs.Placing.{written_as}
use Rattle.sheet.proofs.lines.refusal_line.Goals as goal

pub returns-then-answer-ne-NOT_REPLAYED : goal.returns-then-answer-ne-NOT_REPLAYED
returns-then-answer-ne-NOT_REPLAYED c = let given = c.args in
    written_as given.out.now
    (refusal given.answer given.entry c.if-answer-ne-NOT_REPLAYED.true
    (c.as_slice.ensures ∙ c.of-number.ensures ∙ ap decimal c.into.ensures))
    c.in_a_row.ensures

pub returns : goal.returns
returns c = let given = c.args in
    written_as given.out.now
    (naming given.answer given.entry c.if-answer-ne-NOT_REPLAYED.false
    (c.as_slice-2.ensures ∙ c.of-number.ensures ∙ ap decimal c.into.ensures)
    (c.as_slice-3.ensures ∙ c.of-named.ensures))
    c.naming.ensures
