-- `gathered`: what our members give is told by what stands at their places.
use Prim.Native.Nat.{◌<◌, ◌≤◌}
use mathlib.Core.Path.{◌≡◌, ap, subst, sym, ◌∙◌}
use mathlib.Core.Option.{some}
use native.Mathlib.Omega.{arith}
use Rattle.screen.proofs.Given.{above_aspects, above_bytes, aspect_is, aspects, byte_is}
use Rattle.screen.proofs.Given.{all_given, bad_aspect, bad_station, bad_tracks, great_aspect, no_aspect, no_station}
use Rattle.screen.proofs.Given.{no_tracks}
use Rattle.screen.proofs.reading.gathered.Goals as goal

pub returns-in_err-places : goal.returns-in_err-places
returns-in_err-places c = c.from_residual.ensures ∙ no_station c.requires c.in_err-places.was

pub returns-in_err-station : goal.returns-in_err-station
returns-in_err-station c =
    c.from_residual-in_err-station.ensures
    ∙ bad_station c.requires _ c.in_ok-places.was c.in_err-station.ensures

pub returns-in_err-places-2 : goal.returns-in_err-places-2
returns-in_err-places-2 c =
    c.from_residual-in_err-places-2.ensures ∙ no_aspect c.requires c.in_err-places-2.was

pub returns-in_err-number : goal.returns-in_err-number
returns-in_err-number c =
    c.from_residual-in_err-number.ensures
    ∙ bad_aspect c.requires _ c.in_ok-places-2.was c.in_err-number.ensures

pub returns-in_err-aspect : goal.returns-in_err-aspect
returns-in_err-aspect c =
    c.from_residual-in_err-aspect.ensures
    ∙ great_aspect c.requires _ c.in_ok-places-2.was _ c.in_ok-number.ensures
    (above_bytes _ _ c.in_err-aspect.ensures.value c.try_from.ensures)

pub returns-in_err-aspect-2 : goal.returns-in_err-aspect-2
returns-in_err-aspect-2 c =
    c.from_residual-in_err-aspect-2.ensures
    ∙ great_aspect c.requires _ c.in_ok-places-2.was _ c.in_ok-number.ensures
    (subst (λ n. 5 < n) (byte_is _ _ _ c.in_ok-aspect.ensures.value c.try_from.ensures)
    (above_aspects _ _ c.in_err-aspect-2.ensures.value c.try_from-2.ensures))

pub returns-in_err-places-3 : goal.returns-in_err-places-3
returns-in_err-places-3 c =
    c.from_residual-in_err-places-3.ensures ∙ no_tracks c.requires c.in_err-places-3.was

pub returns-in_err-shown : goal.returns-in_err-shown
returns-in_err-shown c =
    c.from_residual-in_err-shown.ensures ∙ bad_tracks c.requires _ c.in_ok-places-3.was c.in_err-shown.ensures

pub returns : goal.returns
returns c =
    let is : c.into.result ≡ c.in_ok-number.field-0 =
    c.into.ensures
    ∙ aspect_is _ _ _ c.in_ok-aspect-2.ensures.value c.try_from-2.ensures
    ∙ byte_is _ _ _ c.in_ok-aspect.ensures.value c.try_from.ensures in
    all_given c.requires _ _ _ c.in_ok-places.was c.in_ok-places-2.was c.in_ok-places-3.was _ _
    c.in_ok-station.ensures (omega arith) (ap some is ∙ c.in_ok-number.ensures)
    (subst (λ n. n ≤ 5) (sym c.into.ensures) (aspects c.in_ok-aspect-2.aspect))
    c.in_ok-shown.shown c.in_ok-shown.ensures
