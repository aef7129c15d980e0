-- What the limits decide: the distance, or 8 and none.
use Rattle.std.proofs.Common.{◌≡◌, ℕ, Bool, true, false, not, refl}
use Rattle.rules.specs.Numbers.{done, outside_limits}
use Rattle.rules.specs.Siting.{sited}
use Rattle.rules.specs.Words.{◌if◌then◌}

pub met : (g : Bool) (n : ℕ) → g ≡ true
    → sited (outside_limits if not g then done) n ≡ record { answer = 0; distance = record { 0 = n } }
unfolding ◌if◌then◌
met g n e = rw e refl

pub missed : (g : Bool) (n : ℕ) → g ≡ false
    → sited (outside_limits if not g then done) n ≡ record { answer = 8; distance = record { 0 = 0 } }
unfolding ◌if◌then◌
missed g n e = rw e refl

pub ruleset limits = (met, missed)
