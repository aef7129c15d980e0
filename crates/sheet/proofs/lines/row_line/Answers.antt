-- `row_line`: its four columns and the line feed, one after the other, are the row's line (`row`).
use mathlib.Core.Path.{ap, ◌∙◌}
use Rattle.rules.specs.Printer.{decimal}
use Rattle.sheet.proofs.Spelling.{row}
use Rattle.text.proofs.Placing.{written_as}
use Rattle.sheet.proofs.lines.row_line.Goals as goal

pub returns : goal.returns
returns c = let given = c.args in
    written_as given.out.now
    (row given.fields
    (c.as_slice.ensures ∙ c.of-entry.ensures)
    c.zone_column-zones.ensures
    c.output_column-outputs.ensures
    (c.as_slice-2.ensures ∙ c.of-answer.ensures ∙ ap decimal c.into.ensures))
    c.columns.ensures
