-- What the definitions over a track's islands are at five islands.
-- Assumes nothing.
use mathlib.Core.Path.{◌≡◌, refl, ap}
use mathlib.Core.Bool.{Bool, ◌||◌}
use mathlib.Core.List.{List, [], ◌∷◌}
use Rattle.std.specs.List.{list_any}
use lib.ListN.{length}
use Rattle.islands.proofs.Listed.{listed, tabulate}
use Rattle.rules.specs.Station.{free, island_at}
use Rattle.rules.specs.Words.{any}
use Rattle.rules.specs.declared.Island.{Island}
use Rattle.rules.specs.declared.Track.{Track}

-- the track with its islands written out
abbrev pub five : Track → Track
five t = record { islands = tabulate 5 (island_at t) }

pub is_five : (t : Track) → length t.islands ≡ 5 → t ≡ five t
is_five t e = ap (λ (l : List Island). record { islands = l }) (listed free t.islands 5 e)

-- "some" of a list is what the library's `any` finds
pub any_is : {A : Type 0} (p : A → Bool) (l : List A) → list_any p l ≡ any p l
any_is p [] = refl
any_is p (x ∷ l) = ap (λ (b : Bool). p x || b) (any_is p l)
