-- Document 01, "From islands to aspect": the outputs of an aspect.
use Rattle.std.specs.Prelude.{ℕ, ◌+◌, ◌^◌, List, [], ◌∷◌, get_or}

-- Outputs are nine bits, bit 0 first: VF, VI, NI, RF, R+, S1, S2, S3, S4 (document 000).
pub data Column : Type 0 where
  VF VI NI RF R+ S1 S2 S3 S4 : Column

abbrev pub columns : List Column
columns = VF ∷ VI ∷ NI ∷ RF ∷ R+ ∷ S1 ∷ S2 ∷ S3 ∷ S4 ∷ []

abbrev pub place : Column → ℕ
place VF = 0
place VI = 1
place NI = 2
place RF = 3
place R+ = 4
place S1 = 5
place S2 = 6
place S3 = 7
place S4 = 8

-- the number whose set bits are these columns
abbrev pub bits : List Column → ℕ
bits [] = 0
bits (c ∷ cs) = 2 ^ place c + bits cs

-- What each aspect shows: its lamps, and the sounder that document 000 ties to them. S1 goes with
-- VI, S2 with RF, S3 with R+, S4 with NI.
abbrev pub permitted : List Column
permitted = VF ∷ []

abbrev pub clearing : List Column
clearing = VI ∷ S1 ∷ []

abbrev pub forbidden : List Column
forbidden = RF ∷ S2 ∷ []

abbrev pub greatest_risk : List Column
greatest_risk = RF ∷ R+ ∷ S3 ∷ []

abbrev pub surroundings : List Column
surroundings = NI ∷ S4 ∷ []

abbrev pub out_of_service : List Column
out_of_service = []

-- Aspects 0 to 5 give 1, 34, 72, 152, 260, 0; a number above 5 gives 0.
abbrev pub shown : ℕ → List Column
shown aspect = get_or (permitted ∷ clearing ∷ forbidden ∷ greatest_risk ∷ surroundings ∷ out_of_service ∷ []) aspect []

unfoldable pub outputs_of : ℕ → ℕ
outputs_of aspect = bits (shown aspect)
