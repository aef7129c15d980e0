-- `write_text`: its texts, one after the other, are the text of the message (`spelt`).
use Prim.Native.Nat.{◌*◌}
use native.Mathlib.Omega.{arith}
use mathlib.Core.Path.{◌≡◌, ap, ◌∙◌}
use lib.ListN.{length, length-take}
use borrow.Author.Rules.{rules}
use Rattle.screen.proofs.Ranges.{fits_so}
use Rattle.screen.proofs.Spelling.{four_texts, spelt}
use Rattle.rules.specs.Printer.{decimal}
use Rattle.text.proofs.Placing.{written_as}
use Rattle.screen.proofs.writing.write_text.Goals as goal
use Rattle.screen.proofs.writing.write_text.Goals.{Start}

twenty : (c : Start) → length c.args.message.digits ≡ 20
twenty c = search rules

pub overflow_add-aspect : goal.overflow_add-aspect
overflow_add-aspect c = omega (arith, (fits_so _ c.requires).aspect)

pub slice_bounds-tracks-end : goal.slice_bounds-tracks-end
slice_bounds-tracks-end c = let message = c.args.message in
    let whole = ap length c.track_texts-tracks.ensures ∙ four_texts message.digits
    (twenty (goal.at.slice_bounds-tracks-end c).Start) in
    omega (arith, whole, (fits_so message c.requires).most)

pub slice_bounds-in_a_row-end-5 : goal.slice_bounds-in_a_row-end-5
slice_bounds-in_a_row-end-5 c = let message = c.args.message in
    let whole = ap length c.track_texts-tracks.ensures ∙ four_texts message.digits
    (twenty (goal.at.slice_bounds-in_a_row-end-5 c).Start) in
    omega (
      arith,
      whole,
      (fits_so message c.requires).most,
      c.from-end.ensures,
      length-take (12 * c.from-end.result) c.track_texts-tracks.result,
    )

pub returns : goal.returns
returns c = written_as c.args.buffer.now
    (spelt c.args.message c.requires (twenty (goal.at.returns c).Start)
    (c.as_slice.ensures ∙ c.of-station.ensures ∙ ap decimal c.into.ensures)
    c.track_texts-tracks.ensures
    c.from-end.ensures)
    c.in_a_row.ensures
