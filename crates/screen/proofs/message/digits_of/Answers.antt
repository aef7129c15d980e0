-- `digits_of`: the digits of one more track in the place of zeros.
use native.Mathlib.Omega.{arith}
use mathlib.Core.Path.{◌∙◌}
use Prim.Native.Nat.{◌*◌, ◌≤◌}
use lib.ListN.{length, length-take, take}
use Rattle.chains.proofs.Placing.{copied}
use Rattle.screen.proofs.Messages.{one_more, tracks_within}
use Rattle.screen.proofs.message.digits_of.Goals as goal

pub shared_ref_as_front-live : goal.shared_ref_as_front-live
shared_ref_as_front-live c = omega (arith, (tracks_within c.args.station.settings c.requires).1)

pub loop-n-preserved : goal.loop-n-preserved
loop-n-preserved c = let station = c.args.station in
    let live = take c.from.result station.tracks in
    let few : length live ≤ 4 = omega (
      arith,
      length-take c.from.result station.tracks,
      c.from.ensures,
      (tracks_within station.settings c.requires).1,
    ) in
    copied (5 * c.loop-n.n) _ c.loop-n.digits _ _ (omega arith)
    (c.copy_from_slice.ensures.after ∙ c.track_digits.ensures)
    ∙ one_more live c.loop-n.n _ c.loop-n-test.true few c.loop-n.invariant
