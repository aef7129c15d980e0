-- A planner's text: rows P52 to P60 for what is recorded of it. What is lent holds nines, and is longer than what is
-- recorded but for once. What is due is read off the sentence that stands above each, the bytes off document 01's
-- "Reports" and "The register": `CEA`, 1 in 16 bits, tracks, T1 to T5 in 16 bits each; of each entry kind, a, b, spare,
-- value in 16 bits, answer, aspect; all low byte first.
use Rattle.std.specs.Prelude.{ℕ, List, [], ◌∷◌, ◌++◌, map}
use Prim.Native.String.{String}
use Rattle.rules.specs.rows.RegisterRows.{nines}
use Rattle.rules.specs.rows.Row.{Row, rows, together}
use Rattle.rules_json.specs.Abnf.{octets}
use Rattle.rules_plan.specs.Recording.{recorded_bytes, recorded_lines, recorded_of}
use Rattle.rules_plan.specs.rows.FaultRows.{five_then, six, six_then}
use Rattle.rules_plan.specs.rows.Told.{mark_typed, on_lines, recorded_told, typed}

-- ---- texts

-- Document 01, "The matrix printer": Settings 2 tracks, 300, 300, 300, 0, 600 and these reports (kind, a,
-- b, value): 7 0 0 0; 1 0 4 0; 3 0 0 300;
-- 1 0 3 0; 1 0 3 0
abbrev pub worked : List ℕ
worked = six_then ("normalise" ∷ "occupied 0 4" ∷ "clock 300" ∷ "occupied 0 3" ∷ "occupied 0 3" ∷ [])

-- the same with a byte order mark, carriage returns, empty lines, comments, blanks, capitals and no last
-- line feed, its settings in another order
abbrev pub worked_again : List ℕ
worked_again =
    mark_typed
    ++ typed
    ("# worked\r\nT5 600\r\nt4 0\r\n\r\n  t3\t300\r\nt2 0300\r\nt1 300\r\ntracks 2 # of them\r\n" ∷
    "NORMALISE\r\n\r\nreport 1 0 4 0 0\r\n# now\r\nClock 300\r\n \t\r\n#\r\noccupied 0 3\r\noccupied 0 3 # 6" ∷ [])

-- and its register
abbrev pub worked_header : List ℕ
worked_header = 67 ∷ 69 ∷ 65 ∷ 1 ∷ 0 ∷ 2 ∷ 44 ∷ 1 ∷ 44 ∷ 1 ∷ 44 ∷ 1 ∷ 0 ∷ 0 ∷ 88 ∷ 2 ∷ []

abbrev pub worked_bytes : List ℕ
worked_bytes =
    worked_header
    -- normalise: permitted
    ++ (7 ∷ 0 ∷ 0 ∷ 0 ∷ 0 ∷ 0 ∷ 0 ∷ 0 ∷ [])
    -- occupied 0 4: clearing
    ++ (1 ∷ 0 ∷ 4 ∷ 0 ∷ 0 ∷ 0 ∷ 0 ∷ 1 ∷ [])
    -- clock 300: trains in the surroundings
    ++ (3 ∷ 0 ∷ 0 ∷ 0 ∷ 44 ∷ 1 ∷ 0 ∷ 4 ∷ [])
    -- occupied 0 3: forbidden
    ++ (1 ∷ 0 ∷ 3 ∷ 0 ∷ 0 ∷ 0 ∷ 0 ∷ 2 ∷ [])
    -- occupied 0 3 once more: refused 6
    ++ (1 ∷ 0 ∷ 3 ∷ 0 ∷ 0 ∷ 0 ∷ 6 ∷ 2 ∷ [])

-- a report of each kind that is taken, and one by its numbers
abbrev pub each_kind : List String
each_kind =
    "normalise"
    ∷ "occupied 1 0"
    ∷ "clock 1"
    ∷ "head 1 8"
    ∷ "free 1 0"
    ∷ "failed 0 2"
    ∷ "restored 0 2"
    ∷ "normalise"
    ∷ "report 3 0 0 0 258"
    ∷ []

-- reports refused by 1, 2, 3, 4, 5 and 6; one that is taken; and one refused by 7
abbrev pub each_refusal : List String
each_refusal =
    "report 9 1 2 3 1027" ∷ "clock 0" ∷ "occupied 2 0" ∷ "free 0 5" ∷ "head 2 1023" ∷ "restored 0 0"
    ∷ "failed 1 4" ∷ "normalise" ∷ []

-- texts that are not understood: at the first line, among the settings, at their last, at the first report, at the last
-- line; and two that end early, one of them where the setting that is missing may be 0
abbrev pub wrong_texts : List (List ℕ)
wrong_texts =
    on_lines ("x" ∷ six)
    ∷ on_lines ("t1 1" ∷ "t1 1" ∷ [])
    ∷ five_then 0 ("tracks 5" ∷ "normalise" ∷ [])
    ∷ five_then 4 ("normalise" ∷ [])
    ∷ (worked ++ octets "clock 65536")
    ∷ five_then 5 []
    ∷ five_then 4 []
    ∷ []

abbrev pub recording_rows : List Row
recording_rows =
    -- P52: the worked sheet is understood: five reports
    rows 52 (together (map (λ text. recorded_told (recorded_of text)) (worked ∷ worked_again ∷ [])))
    (0 ∷ 0 ∷ 5 ∷ 0 ∷ 0 ∷ 5 ∷ [])
    -- P53: its 56 bytes, and no other is touched
    ++ rows 53 (recorded_bytes worked (nines 60)) (worked_bytes ++ nines 4)
    ++ rows 53 (recorded_bytes worked_again (nines 60)) (worked_bytes ++ nines 4)
    ++ rows 53 (recorded_bytes worked (nines 56)) worked_bytes
    -- P54: the line of each of its reports, in their order, and nothing past the last; every line counts
    ++ rows 54 (recorded_lines worked (nines 7)) (7 ∷ 8 ∷ 9 ∷ 10 ∷ 11 ∷ 9 ∷ 9 ∷ [])
    ++ rows 54 (recorded_lines worked_again (nines 7)) (9 ∷ 11 ∷ 13 ∷ 16 ∷ 17 ∷ 9 ∷ 9 ∷ [])
    -- P55: settings alone are a register of no rows; each setting in its place, low byte first
    ++ rows 55
    (recorded_bytes (on_lines ("t3 2057" ∷ "t1 258" ∷ "t5 1000" ∷ "tracks 3" ∷ "t2 772" ∷ "t4 1286" ∷ [])) (nines 18))
    ((67 ∷ 69 ∷ 65 ∷ 1 ∷ 0 ∷ 3 ∷ 2 ∷ 1 ∷ 4 ∷ 3 ∷ 9 ∷ 8 ∷ 6 ∷ 5 ∷ 232 ∷ 3 ∷ []) ++ nines 2)
    ++ rows 55 (recorded_told (recorded_of (on_lines six)) ++ recorded_lines (on_lines six) (nines 2))
    (0 ∷ 0 ∷ 0 ∷ 9 ∷ 9 ∷ [])
    -- P56: each kind of report in its words
    ++ rows 56 (recorded_bytes (six_then each_kind) (nines 90))
    (worked_header
    ++ (7 ∷ 0 ∷ 0 ∷ 0 ∷ 0 ∷ 0 ∷ 0 ∷ 0 ∷ [])
    ++ (1 ∷ 1 ∷ 0 ∷ 0 ∷ 0 ∷ 0 ∷ 0 ∷ 1 ∷ [])
    ++ (3 ∷ 0 ∷ 0 ∷ 0 ∷ 1 ∷ 0 ∷ 0 ∷ 1 ∷ [])
    ++ (6 ∷ 1 ∷ 0 ∷ 0 ∷ 8 ∷ 0 ∷ 0 ∷ 1 ∷ [])
    ++ (2 ∷ 1 ∷ 0 ∷ 0 ∷ 0 ∷ 0 ∷ 0 ∷ 0 ∷ [])
    ++ (4 ∷ 0 ∷ 2 ∷ 0 ∷ 0 ∷ 0 ∷ 0 ∷ 5 ∷ [])
    ++ (5 ∷ 0 ∷ 2 ∷ 0 ∷ 0 ∷ 0 ∷ 0 ∷ 5 ∷ [])
    ++ (7 ∷ 0 ∷ 0 ∷ 0 ∷ 0 ∷ 0 ∷ 0 ∷ 0 ∷ [])
    ++ (3 ∷ 0 ∷ 0 ∷ 0 ∷ 2 ∷ 1 ∷ 0 ∷ 0 ∷ [])
    ++ nines 2)
    -- P57: a report refused by 1 to 7 is entered too, with its number, and counted; of a fresh station the aspect is 5
    ++ rows 57 (recorded_bytes (six_then each_refusal) (nines 82))
    (worked_header
    ++ (9 ∷ 1 ∷ 2 ∷ 3 ∷ 3 ∷ 4 ∷ 1 ∷ 5 ∷ [])
    ++ (3 ∷ 0 ∷ 0 ∷ 0 ∷ 0 ∷ 0 ∷ 2 ∷ 5 ∷ [])
    ++ (1 ∷ 2 ∷ 0 ∷ 0 ∷ 0 ∷ 0 ∷ 3 ∷ 5 ∷ [])
    ++ (2 ∷ 0 ∷ 5 ∷ 0 ∷ 0 ∷ 0 ∷ 4 ∷ 5 ∷ [])
    ++ (6 ∷ 2 ∷ 0 ∷ 0 ∷ 255 ∷ 3 ∷ 5 ∷ 5 ∷ [])
    ++ (5 ∷ 0 ∷ 0 ∷ 0 ∷ 0 ∷ 0 ∷ 6 ∷ 5 ∷ [])
    ++ (4 ∷ 1 ∷ 4 ∷ 0 ∷ 0 ∷ 0 ∷ 0 ∷ 5 ∷ [])
    ++ (7 ∷ 0 ∷ 0 ∷ 0 ∷ 0 ∷ 0 ∷ 7 ∷ 5 ∷ [])
    ++ nines 2)
    ++ rows 57 (recorded_told (recorded_of (six_then ("report 9 1 2 3 1027" ∷ "clock 0" ∷ "normalise" ∷ []))))
    (0 ∷ 0 ∷ 3 ∷ [])
    ++ rows 57 (recorded_lines (six_then ("report 9 1 2 3 1027" ∷ "" ∷ "clock 0" ∷ "normalise" ∷ [])) (nines 4))
    (7 ∷ 9 ∷ 10 ∷ 9 ∷ [])
    -- P58: where something is wrong: what, and on which line, and no report is entered
    ++ rows 58 (together (map (λ text. recorded_told (recorded_of text)) wrong_texts))
    ((1 ∷ 1 ∷ 0 ∷ 7 ∷ 2 ∷ 0 ∷ 9 ∷ 6 ∷ 0 ∷ 8 ∷ 6 ∷ 0 ∷ 5 ∷ 12 ∷ 0 ∷ []) ++ (11 ∷ 0 ∷ 0 ∷ 11 ∷ 0 ∷ 0 ∷ []))
    -- P59: then nothing at all is recorded
    ++ rows 59 (together (map (λ text. recorded_bytes text (nines 60)) wrong_texts)) (nines 420)
    -- P60: nor the line of any report
    ++ rows 60 (together (map (λ text. recorded_lines text (nines 6)) wrong_texts)) (nines 42)
