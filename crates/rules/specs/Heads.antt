-- Document 01, "The heads".
use Rattle.std.specs.Prelude.{ℕ, ◌/◌, ◌%◌, ◌^◌, Bool, cond, not, ◌&&◌, ◌||◌, List, [], ◌∷◌, map, eqb, ltb}
use Rattle.rules.specs.Aspect.{aspect_of}
use Rattle.rules.specs.Outputs.{Column, NI, R+, RF, S1, S2, S3, S4, VF, VI, bits, columns, outputs_of, place}
use Rattle.rules.specs.Words.{count}
use Rattle.rules.specs.declared.Station.{Station}

-- bit k of a number is set
abbrev pub bit : ℕ → ℕ → Bool
bit x k = eqb (x / 2 ^ k % 2) 1

-- A head condition marks failed parts: bits 0 to 3 green, orange, red, OTRO TREN board; bits 4 to 7 sounders S1 to S4;
-- bit 8 power; bit 9 communication. Its bits from 10 up are not read.
abbrev pub lamp_failed : ℕ → Bool
lamp_failed condition = bit condition 0 || bit condition 1 || bit condition 2 || bit condition 3

abbrev pub power_failed : ℕ → Bool
power_failed condition = bit condition 8

abbrev pub communication_failed : ℕ → Bool
communication_failed condition = bit condition 9

abbrev pub failed_sounders : ℕ → ℕ
failed_sounders condition = count (bit condition) (4 ∷ 5 ∷ 6 ∷ 7 ∷ [])

-- Any failed lamp or board: the five lamp outputs 0, sounders kept (matrix AV4; extending AV4 to every single lamp is
-- house). One failed sounder: that one silent.
abbrev pub out : ℕ → Column → Bool
out condition VF = lamp_failed condition
out condition VI = lamp_failed condition
out condition NI = lamp_failed condition
out condition RF = lamp_failed condition
out condition R+ = lamp_failed condition
out condition S1 = bit condition 4
out condition S2 = bit condition 5
out condition S3 = bit condition 6
out condition S4 = bit condition 7

-- the columns at which a test holds
abbrev pub those : (Column → Bool) → List Column → List Column
those p [] = []
those p (c ∷ cs) = cond (p c) (c ∷ those p cs) (those p cs)

-- Power, communication, or more than one failed sounder: outputs 0. Otherwise the columns of
-- the outputs that are not out.
unfoldable pub head_outputs : ℕ → ℕ → ℕ
head_outputs outputs condition =
    cond (power_failed condition || communication_failed condition || ltb 1 (failed_sounders condition)) 0
    (bits (those (λ c. bit outputs (place c) && not (out condition c)) columns))

-- The two heads are worked out apart, each from its own condition. A condition needs no normalising. (Of a station
-- refused with 8 the aspect is 5, whose outputs are 0, so the heads show 0.)
unfoldable pub heads_of : Station → List ℕ
heads_of s = map (head_outputs (outputs_of (aspect_of s))) s.conditions
