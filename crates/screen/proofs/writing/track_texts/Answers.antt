-- `track_texts`: the four tracks one after the other fill the forty-eight octets.
use native.Mathlib.Omega.{arith}
use mathlib.Core.Path.{◌≡◌}
use lib.ListN.{length, length-take}
use borrow.Author.Rules.{rules}
use Rattle.screen.proofs.Spelling.{four_filled}
use Rattle.screen.proofs.writing.track_texts.Goals as goal
use Rattle.screen.proofs.writing.track_texts.Goals.{Start}

twenty : (c : Start) → length c.args.digits ≡ 20
twenty c = search rules

pub slice_bounds-track_text-end : goal.slice_bounds-track_text-end
slice_bounds-track_text-end c = omega (
  arith,
  length-take 5 c.args.digits,
  twenty (goal.at.slice_bounds-track_text-end c).Start,
)

pub track_text-first-requires : goal.track_text-first-requires
track_text-first-requires c = omega (
  arith,
  length-take 5 c.args.digits,
  twenty (goal.at.track_text-first-requires c).Start,
)

pub returns : goal.returns
returns c = four_filled c.args.digits (twenty (goal.at.returns c).Start)
    c.track_text-first.ensures
    c.track_text-second.ensures
    c.track_text-third.ensures
    c.track_text-fourth.ensures
    c.in_a_row.ensures
