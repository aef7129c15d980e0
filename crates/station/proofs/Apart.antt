-- What `settle` gives is told apart by its hold and its aspect's number.
-- Assumes nothing.
use Rattle.std.proofs.Common.{◌≡◌, ap}
use Rattle.rules.proofs.Answered.{aspect_number_tells_apart}
use Rattle.station.specs.Settled.{HoldAndAspect, settled_in}
use Rattle.station.specs.declared.Settled.{Settled}

pub settled_in_tells_apart : (s t : Settled) → settled_in s ≡ settled_in t → s ≡ t
settled_in_tells_apart s t e =
    let aspect = aspect_number_tells_apart s.aspect t.aspect (ap (λ (x : HoldAndAspect). x.aspect) e) in
    λ i. record { hold = (e i).hold; aspect = aspect i }
