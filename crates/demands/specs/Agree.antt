-- Document 01, "What the station is": tracks beyond the station's number are neither read nor changed.
use Rattle.std.specs.Prelude.{◌≡◌, []}
use Rattle.rules.specs.Station.{live, with_tracks}
use Rattle.rules.specs.declared.Station.{Station}

-- Two stations are the same but for their tracks from the number on, of which they may even have more or
-- fewer: with no tracks they are one station, so that every other part of them is the same, and the
-- tracks below the number are the same.
pub record Agree (s t : Station) : Type 0 where
  pub others : with_tracks s [] ≡ with_tracks t []
  pub live : live s ≡ live t
