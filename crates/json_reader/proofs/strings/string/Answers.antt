-- `string`: a character that was read ends past its place.
use native.Mathlib.Omega.{arith}
use Rattle.json_reader.proofs.Read.{some_read}
use Rattle.json_reader.proofs.strings.string.Goals as goal

pub loop-place-smaller : goal.loop-place-smaller
loop-place-smaller c = omega (arith, some_read c.loop-place.place _ _ c.in_ok-place-in-92.ensures)
