-- Document 01, "The register": "The bench's browser is a reader that holds the lent register and a place in it. It
-- starts at row 0; a move answers as stepping does, and a refused one keeps its place." Rows B1 to B7, on the register
-- `sound`, whose rows 0 to 5 have the aspects 5, 0, 1, 1, 2, 2.
use Rattle.std.specs.Prelude.{ℕ, List, [], ◌∷◌, ◌++◌, map, take}
use Rattle.rules.specs.Aspect.{aspect_of}
use Rattle.rules.specs.Browser.{Move, ahead, back, before, first_row, forward, leads_to, row_after, to}
use Rattle.rules.specs.Register.{step_of}
use Rattle.rules.specs.declared.Reading.{Reading}
use Rattle.rules.specs.rows.RegisterRefusals.{most, other, sound, too_many}
use Rattle.rules.specs.rows.RegisterRows.{nines, worked_header}
use Rattle.rules.specs.rows.Row.{Row, rows, together}

-- a step's answer, its count and the aspect of the station that it shows
abbrev pub shown_at : List ℕ → ℕ → List ℕ
shown_at b row = let r : Reading = step_of b row in r.answer ∷ r.count ∷ aspect_of r.station ∷ []

-- for each move, from a row on: what it shows, and the row that the browser stands on then
abbrev pub walk : List ℕ → ℕ → List Move → List ℕ
walk b row [] = []
walk b row (m ∷ ms) =
    shown_at b (leads_to row m) ++ (row_after b row (leads_to row m) ∷ walk b (row_after b row (leads_to row m)) ms)

-- registers that cannot be read: no mark, another version, a cut entry, too many entries, no tracks
abbrev pub unreadable : List (List ℕ)
unreadable = nines 16 ∷ other 3 (2 ∷ []) ∷ take 55 sound ∷ too_many ∷ other 5 (0 ∷ []) ∷ []

abbrev pub browse_rows : List Row
browse_rows =
    -- B1: it starts at row 0
    rows 1 (first_row ∷ []) (0 ∷ [])
    -- one row forward, and one back; row 0 has none before it, and leads to a row above every count
    ++ rows 1 (map ahead (0 ∷ 1 ∷ 4095 ∷ 8190 ∷ [])) (1 ∷ 2 ∷ 4096 ∷ 8191 ∷ [])
    ++ rows 1 (map before (8191 ∷ 4096 ∷ 2 ∷ 1 ∷ 0 ∷ [])) (8190 ∷ 4095 ∷ 1 ∷ 0 ∷ 8191 ∷ [])
    -- B2: forward one, row by row, as each row was,
    ++ rows 2 (walk sound 0 (forward ∷ forward ∷ forward ∷ forward ∷ forward ∷ []))
    (together ((0 ∷ 1 ∷ 0 ∷ 1 ∷ []) ∷ (0 ∷ 2 ∷ 1 ∷ 2 ∷ []) ∷ (0 ∷ 3 ∷ 1 ∷ 3 ∷ []) ∷ (0 ∷ 4 ∷ 2 ∷ 4 ∷ [])
    ∷ (0 ∷ 5 ∷ 2 ∷ 5 ∷ []) ∷ []))
    -- and back one
    ++ rows 2 (walk sound 0 (to 5 ∷ back ∷ back ∷ back ∷ back ∷ back ∷ []))
    (together
    ((0 ∷ 5 ∷ 2 ∷ 5 ∷ []) ∷ (0 ∷ 4 ∷ 2 ∷ 4 ∷ []) ∷ (0 ∷ 3 ∷ 1 ∷ 3 ∷ []) ∷ (0 ∷ 2 ∷ 1 ∷ 2 ∷ []) ∷ (0 ∷ 1 ∷ 0 ∷ 1 ∷ [])
    ∷ (0 ∷ 0 ∷ 5 ∷ 0 ∷ []) ∷ []))
    -- B3: back from row 0 and forward from the last row are refused with 14, and keep the place
    ++ rows 3 (walk sound 0 (back ∷ to 5 ∷ forward ∷ back ∷ []))
    (together ((14 ∷ 0 ∷ 5 ∷ 0 ∷ []) ∷ (0 ∷ 5 ∷ 2 ∷ 5 ∷ []) ∷ (14 ∷ 0 ∷ 5 ∷ 5 ∷ []) ∷ (0 ∷ 4 ∷ 2 ∷ 4 ∷ []) ∷ []))
    -- though the register has as many rows as one can have
    ++ rows 3 (walk most 0 (back ∷ [])) (14 ∷ 0 ∷ 5 ∷ 0 ∷ [])
    -- B4: to a row: one that there is, ahead or behind; one above the count, which is refused with 14
    ++ rows 4 (walk sound 0 (to 3 ∷ to 6 ∷ to 1 ∷ to 18446744073709551615 ∷ to 0 ∷ []))
    (together ((0 ∷ 3 ∷ 1 ∷ 3 ∷ []) ∷ (14 ∷ 0 ∷ 5 ∷ 3 ∷ []) ∷ (0 ∷ 1 ∷ 0 ∷ 1 ∷ []) ∷ (14 ∷ 0 ∷ 5 ∷ 1 ∷ [])
    ∷ (0 ∷ 0 ∷ 5 ∷ 0 ∷ []) ∷ []))
    -- B5: a register of no entries has row 0 alone
    ++ rows 5 (walk worked_header 0 (to 0 ∷ forward ∷ back ∷ []))
    (together ((0 ∷ 0 ∷ 5 ∷ 0 ∷ []) ∷ (14 ∷ 0 ∷ 5 ∷ 0 ∷ []) ∷ (14 ∷ 0 ∷ 5 ∷ 0 ∷ []) ∷ []))
    -- B6: of a register that cannot be read every move is refused with its number, back from
    -- row 0 too: 9, 10, 11, 12, 8
    ++ rows 6 (together (map (λ b. walk b 0 (back ∷ []) ++ walk b 0 (to 0 ∷ [])) unreadable))
    (together (map (λ n. n ∷ 0 ∷ 5 ∷ 0 ∷ n ∷ 0 ∷ 5 ∷ 0 ∷ []) (9 ∷ 10 ∷ 11 ∷ 12 ∷ 8 ∷ [])))
    -- and keeps the place, also on a row that a browser put together by hand stands on
    ++ rows 6 (map (λ b. row_after b 3 2) unreadable) (3 ∷ 3 ∷ 3 ∷ 3 ∷ 3 ∷ [])
    -- B7: 13 among the first k entries only, here with the answer of the third wrong
    ++ rows 7 (walk (other 38 (6 ∷ [])) 0 (to 2 ∷ forward ∷ to 5 ∷ back ∷ to 6 ∷ []))
    (together ((0 ∷ 2 ∷ 1 ∷ 2 ∷ []) ∷ (13 ∷ 0 ∷ 5 ∷ 2 ∷ []) ∷ (13 ∷ 0 ∷ 5 ∷ 2 ∷ []) ∷ (0 ∷ 1 ∷ 0 ∷ 1 ∷ [])
    ∷ (14 ∷ 0 ∷ 5 ∷ 1 ∷ []) ∷ []))
