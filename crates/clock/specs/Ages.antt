-- What single ticks make of an island and of a track. (Not for belief: a tick's part in it is `older` of `rules`.)
use Rattle.std.specs.Prelude.{ℕ, zero, suc, map}
use Rattle.rules.specs.Reports.{older}
use Rattle.rules.specs.declared.Island.{Island}
use Rattle.rules.specs.declared.Track.{Track}

-- an island, and a track, n single ticks later
unfoldable pub later : ℕ → Island → Island
later zero i = i
later (suc n) i = older (later n i)

unfoldable pub later_track : ℕ → Track → Track
later_track n t = record { islands = map (later n) t.islands }
