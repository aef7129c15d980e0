use Rattle.screen.proofs.FourTracks.{Rows}
use Rattle.screen.proofs.tracks.tracks.Given as goal

abbrev pub invariant-loop-count : goal.invariant-loop-count
invariant-loop-count l = Rows l.text l.at l.place l.digits l.count
