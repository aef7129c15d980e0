use Rattle.screen.proofs.Digits.{Digits}
use Rattle.screen.proofs.tracks.track.Given as goal

abbrev pub invariant-loop-count : goal.invariant-loop-count
invariant-loop-count l = Digits l.text l.at l.place l.digits l.count
