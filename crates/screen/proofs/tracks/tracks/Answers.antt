-- `tracks`: before each turn the tracks so far are gathered and shown, and what is left gives the others.
use Prim.Native.Nat.{◌+◌, ◌-◌, ◌*◌}
use mathlib.Core.Path.{◌≡◌, sym, ◌∙◌}
use borrow.Rule.Slice.PartMut.{put_mid}
use Rattle.rules.specs.Words.{put}
use native.Mathlib.Omega.{arith}
use Rattle.rules_json.specs.Reader.{at}
use Rattle.screen.proofs.FourTracks.{all_rows_lem, first_row, no_row, none_shown, other_form, other_row, row_on}
use Rattle.screen.proofs.FourTracks.{long, row_there, too_many_rows, written_over}
use Rattle.screen.proofs.tracks.tracks.Goals as goal
use Rattle.screen.proofs.tracks.tracks.Goals.{After-octet-2, After-copy_from_slice}

pub returns-then-octet-ne91 : goal.returns-then-octet-ne91
returns-then-octet-ne91 c =
    none_shown c.args.text.now c.args.at
    (other_form c.args.text.now c.args.at (λ e. c.if-octet-ne91.true (c.octet.ensures ∙ e)))

-- where the list was opened
is_list : (c : After-octet-2) → at c.args.text.now c.args.at ≡ 0x5B
is_list c = sym c.octet.ensures ∙ c.if-octet-ne91.false

pub returns-then-octet-eq93 : goal.returns-then-octet-eq93
returns-then-octet-eq93 c =
    none_shown c.args.text.now c.args.at
    (no_row c.args.text.now c.args.at (is_list (goal.at.returns-then-octet-eq93 c).After-octet-2) _ _
    c.blanks-place.ensures c.octet-2.ensures c.if-octet-eq93.true)

pub loop-count-init : goal.loop-count-init
loop-count-init c =
    first_row c.args.text.now c.args.at (is_list (goal.at.loop-count-init c).After-octet-2) _ _ c.blanks-place.ensures
    c.octet-2.ensures c.if-octet-eq93.false c.requires

pub track-requires : goal.track-requires
track-requires c = row_there c.loop-count.invariant

pub returns-in_err-five : goal.returns-in_err-five
returns-in_err-five c =
    c.from_residual.ensures
    ∙ none_shown c.args.text.now c.args.at (other_row c.loop-count.invariant c.in_err-five.ensures)

laid : (c : After-copy_from_slice)
    → put_mid (5 * c.loop-count.count) (5 * c.loop-count.count + 5 - 5 * c.loop-count.count) c.loop-count.digits
    c.copy_from_slice.new.self
    ≡ put (5 * c.loop-count.count) c.in_ok-five.five.digits c.loop-count.digits
laid c =
    written_over _ _ _ _ _ c.copy_from_slice.ensures.after
    (omega (arith, long c.loop-count.invariant _ c.in_ok-five.ensures c.loop-count-test.true))

pub returns-then-octet-ne44 : goal.returns-then-octet-ne44
returns-then-octet-ne44 c =
    all_rows_lem c.loop-count.invariant _ c.in_ok-five.ensures c.loop-count-test.true
    (laid (goal.at.returns-then-octet-ne44 c).After-copy_from_slice) c.blanks-behind.ensures
    c.octet-in-loop-count.ensures c.if-octet-ne44.true

pub loop-count-preserved : goal.loop-count-preserved
loop-count-preserved c =
    row_on c.loop-count.invariant _ c.in_ok-five.ensures c.loop-count-test.true
    (laid (goal.at.loop-count-preserved c).After-copy_from_slice) c.blanks-behind.ensures
    c.octet-in-loop-count.ensures c.if-octet-ne44.false c.blanks-place-in-loop-count.ensures

pub returns : goal.returns
returns c = none_shown c.args.text.now c.args.at (too_many_rows c.loop-count.invariant c.loop-count-test.false)
