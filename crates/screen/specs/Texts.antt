-- The tracks in the text of a message, twelve octets for each. (Not for belief: that the text is the rules' is proved.)
use Rattle.std.specs.Prelude.{ℕ, not, List, [], ◌∷◌, ◌++◌, map, eqb, drop, take}
use Rattle.rules.specs.Printer.{zero_or_one}
use Rattle.rules.specs.Screen.{listed}

-- a digit, 0 or 1
abbrev pub digit_text : ℕ → List ℕ
digit_text d = zero_or_one (not (eqb d 0)) ∷ []

-- what stands before a track, and its list of digits
unfoldable pub track_text : ℕ → List ℕ → List ℕ
track_text before five = before ∷ listed (map digit_text five)

-- [ before the first, and a comma before each other
unfoldable pub track_texts : List ℕ → List ℕ
track_texts digits =
    track_text 91 (take 5 digits)
    ++ track_text 44 (take 5 (drop 5 digits))
    ++ track_text 44 (take 5 (drop 10 digits))
    ++ track_text 44 (take 5 (drop 15 digits))
