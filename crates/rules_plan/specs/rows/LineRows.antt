-- A planner's text: rows P16 to P34 for what a line says, and for what is wrong with its words by themselves. What is
-- due is read off the sentence that stands above each. A line is told by its name (0 to 13 in the order of P13, 14
-- another word, 15 no word), its fault, and kind, a, b, spare and value.
use Rattle.std.specs.Prelude.{ℕ, List, [], ◌∷◌, ◌++◌, map, replicate}
use Prim.Native.String.{String}
use Rattle.rules.specs.OfEachKind.{report}
use Rattle.rules.specs.rows.RegisterRows.{zeros}
use Rattle.rules.specs.rows.Row.{Row, digits, each, rows, together}
use Rattle.rules_json.specs.Abnf.{octets}
use Rattle.rules_plan.specs.Lines.{is_report, is_setting, line_of}
use Rattle.rules_plan.specs.declared.Line.{Line}
use Rattle.rules_plan.specs.rows.Told.{line_told, lines_told, mark_typed, wrongs}

-- a line of a name, its words good and its numbers 0
abbrev pub line_named : ℕ → Line
line_named name = record { name = name; fault = 0; numbers = report 0 0 0 0 0 }

abbrev pub up_to15 : List Line
up_to15 = map line_named (0 ∷ 1 ∷ 2 ∷ 3 ∷ 4 ∷ 5 ∷ 6 ∷ 7 ∷ 8 ∷ 9 ∷ 10 ∷ 11 ∷ 12 ∷ 13 ∷ 14 ∷ 15 ∷ [])

-- a line with a word behind it of so many digits 9, and of so many digits 0 before what is typed
abbrev pub nines_behind : String → ℕ → ℕ
nines_behind s n = (line_of (octets s ++ replicate n 0x39)).fault

abbrev pub zeros_behind : String → ℕ → String → List ℕ
zeros_behind s n number = line_told (line_of (octets s ++ (replicate n 0x30 ++ octets number)))

-- nothing said
abbrev pub nothing : List ℕ
nothing = 15 ∷ zeros 6

abbrev pub line_rows : List Row
line_rows =
    -- P16: `tracks N`, `t1 N` to `t5 N`
    rows 16 (lines_told ("tracks 4" ∷ [])) (0 ∷ 0 ∷ 0 ∷ 4 ∷ 0 ∷ 0 ∷ 0 ∷ [])
    ++ rows 16 (lines_told ("t1 300" ∷ "t2 301" ∷ "t3 302" ∷ []))
    ((1 ∷ 0 ∷ 0 ∷ 0 ∷ 0 ∷ 0 ∷ 300 ∷ []) ++ ((2 ∷ 0 ∷ 0 ∷ 0 ∷ 0 ∷ 0 ∷ 301 ∷ []) ++ (3 ∷ 0 ∷ 0 ∷ 0 ∷ 0 ∷ 0 ∷ 302 ∷ [])))
    ++ rows 16 (lines_told ("t4 0" ∷ "t5 600" ∷ []))
    ((4 ∷ 0 ∷ 0 ∷ 0 ∷ 0 ∷ 0 ∷ 0 ∷ []) ++ (5 ∷ 0 ∷ 0 ∷ 0 ∷ 0 ∷ 0 ∷ 600 ∷ []))
    ++ rows 16 (lines_told ("t4 50" ∷ [])) (4 ∷ 0 ∷ 0 ∷ 0 ∷ 0 ∷ 0 ∷ 50 ∷ [])
    -- P17: `occupied TRACK ISLAND`, `free TRACK ISLAND`: kinds 1 and 2
    ++ rows 17 (lines_told ("occupied 3 4" ∷ "free 2 1" ∷ []))
    ((6 ∷ 0 ∷ 1 ∷ 3 ∷ 4 ∷ 0 ∷ 0 ∷ []) ++ (7 ∷ 0 ∷ 2 ∷ 2 ∷ 1 ∷ 0 ∷ 0 ∷ []))
    -- P18: `clock TICKS`: kind 3
    ++ rows 18 (lines_told ("clock 300" ∷ [])) (8 ∷ 0 ∷ 3 ∷ 0 ∷ 0 ∷ 0 ∷ 300 ∷ [])
    -- P19: `failed TRACK ISLAND`, `restored TRACK ISLAND`: kinds 4 and 5
    ++ rows 19 (lines_told ("failed 3 4" ∷ "restored 2 1" ∷ []))
    ((9 ∷ 0 ∷ 4 ∷ 3 ∷ 4 ∷ 0 ∷ 0 ∷ []) ++ (10 ∷ 0 ∷ 5 ∷ 2 ∷ 1 ∷ 0 ∷ 0 ∷ []))
    -- P20: `head HEAD CONDITION`, kind 6, and `normalise`, kind 7
    ++ rows 20 (lines_told ("head 1 1023" ∷ "normalise" ∷ []))
    ((11 ∷ 0 ∷ 6 ∷ 1 ∷ 0 ∷ 0 ∷ 1023 ∷ []) ++ (12 ∷ 0 ∷ 7 ∷ 0 ∷ 0 ∷ 0 ∷ 0 ∷ []))
    -- P21: `report KIND A B SPARE VALUE` for any report at all
    ++ rows 21 (lines_told ("report 1 2 3 4 555" ∷ "report 0 0 0 0 0" ∷ []))
    ((13 ∷ 0 ∷ 1 ∷ 2 ∷ 3 ∷ 4 ∷ 555 ∷ []) ++ (13 ∷ 0 ∷ 0 ∷ 0 ∷ 0 ∷ 0 ∷ 0 ∷ []))
    -- P22: 0 to 5 are settings, 6 to 13 reports, and the others neither
    ++ rows 22 (digits (map is_setting up_to15)) (1 ∷ 1 ∷ 1 ∷ 1 ∷ 1 ∷ 1 ∷ zeros 10)
    ++ rows 22 (digits (map is_report up_to15)) (zeros 6 ++ (1 ∷ 1 ∷ 1 ∷ 1 ∷ 1 ∷ 1 ∷ 1 ∷ 1 ∷ 0 ∷ 0 ∷ []))
    -- P23: in either case, with blanks of each kind around the words, and a comment behind them
    ++ rows 23 (lines_told ("OCCUPIED 0 4" ∷ "  Occupied\t0 \t4\r" ∷ "occupied 0 4# 5 x" ∷ "\toccupied   0\r4 # #" ∷ []))
    (together (replicate 4 (6 ∷ 0 ∷ 1 ∷ 0 ∷ 4 ∷ 0 ∷ 0 ∷ [])))
    -- P24: A line with no words says nothing.
    ++ rows 24 (lines_told ("" ∷ " " ∷ "\t\r" ∷ "#" ∷ "# tracks 2" ∷ " \t# 1" ∷ "\r" ∷ []))
    (together (replicate 7 nothing))
    -- P25: fault 1: the first word is neither a setting nor a kind of report, whatever stands behind it
    ++ rows 25 (lines_told ("island 0 4" ∷ "x" ∷ [])) (together (replicate 2 (14 ∷ 1 ∷ zeros 5)))
    ++ each 25 1 (wrongs ("1" ∷ "4 tracks" ∷ "tracks: 2" ∷ "t1=300" ∷ "t1300" ∷ "clock5" ∷ "- normalise"
    ∷ "x 1 2 3 4 5 6" ∷ "x 256 65536 -" ∷ []))
    ++ each 25 1 (map (λ line. (line_of line).fault) ((mark_typed ++ octets "tracks 2") ∷ (0xA0 ∷ octets "tracks 2") ∷ []))
    -- P26: fault 2: a number is missing, of one, of two and of five
    ++ each 26 2 (wrongs ("tracks" ∷ "t1" ∷ "t2" ∷ "t3" ∷ "t4" ∷ "t5" ∷ "clock" ∷ "TRACKS #2" ∷ []))
    ++ each 26 2 (wrongs ("occupied" ∷ "free" ∷ "failed" ∷ "restored" ∷ "head" ∷ "occupied 0" ∷ "free 0" ∷ "failed 0"
    ∷ "restored 0" ∷ "head 0" ∷ []))
    ++ each 26 2 (wrongs ("report" ∷ "report 1" ∷ "report 1 2" ∷ "report 1 2 3" ∷ "report 1 2 3 4" ∷ []))
    -- P27: fault 4: not a number from 0 to 255, where a byte is meant, at each place; 255 is one
    ++ each 27 0
    (wrongs ("tracks 255" ∷ "occupied 255 255" ∷ "free 255 255" ∷ "failed 255 255" ∷ "restored 255 255" ∷ []))
    ++ each 27 0 (wrongs ("head 255 256" ∷ "report 255 255 255 255 256" ∷ []))
    ++ each 27 4 (wrongs ("tracks 256" ∷ "tracks 65535" ∷ "occupied 256 0" ∷ "free 256 0" ∷ "failed 256 0"
    ∷ "restored 256 0" ∷ "head 256 0" ∷ []))
    ++ each 27 4 (wrongs ("occupied 0 256" ∷ "free 0 256" ∷ "failed 0 256" ∷ "restored 0 256" ∷ []))
    ++ each 27 4
    (wrongs ("report 256 0 0 0 0" ∷ "report 0 256 0 0 0" ∷ "report 0 0 256 0 0" ∷ "report 0 0 0 256 0" ∷ []))
    -- and what 255 gives
    ++ rows 27 (lines_told ("tracks 255" ∷ "report 255 255 255 255 0" ∷ []))
    ((0 ∷ 0 ∷ 0 ∷ 255 ∷ 0 ∷ 0 ∷ 0 ∷ []) ++ (13 ∷ 0 ∷ 255 ∷ 255 ∷ 255 ∷ 255 ∷ 0 ∷ []))
    -- P28: fault 5: not a number from 0 to 65535, where sixteen bits are meant; 65535 is one
    ++ each 28 0 (wrongs ("t1 65535" ∷ "t2 65535" ∷ "t3 65535" ∷ "t4 65535" ∷ "t5 65535" ∷ []))
    ++ each 28 0 (wrongs ("clock 65535" ∷ "head 0 65535" ∷ "report 0 0 0 0 65535" ∷ []))
    ++ each 28 5 (wrongs ("t1 65536" ∷ "t2 65536" ∷ "t3 65536" ∷ "t4 65536" ∷ "t5 65536" ∷ []))
    ++ each 28 5 (wrongs ("clock 65536" ∷ "head 0 65536" ∷ "report 0 0 0 0 65536" ∷ []))
    ++ rows 28 (lines_told ("clock 65535" ∷ "head 255 65535" ∷ []))
    ((8 ∷ 0 ∷ 3 ∷ 0 ∷ 0 ∷ 0 ∷ 65535 ∷ []) ++ (11 ∷ 0 ∷ 6 ∷ 255 ∷ 0 ∷ 0 ∷ 65535 ∷ []))
    -- P29: leading zeros allowed, of any length as long as its value fits
    ++ rows 29 (lines_told ("tracks 002" ∷ "tracks 00" ∷ []))
    ((0 ∷ 0 ∷ 0 ∷ 2 ∷ 0 ∷ 0 ∷ 0 ∷ []) ++ (0 ∷ 0 ∷ 0 ∷ 0 ∷ 0 ∷ 0 ∷ 0 ∷ []))
    ++ rows 29 (zeros_behind "clock " 100 "65535") (8 ∷ 0 ∷ 3 ∷ 0 ∷ 0 ∷ 0 ∷ 65535 ∷ [])
    ++ each 29 4 (wrongs ("tracks 000256" ∷ []))
    ++ each 29 5 (wrongs ("t1 065536" ∷ []))
    -- P30: and where it does not fit it is none, however long: 2 to the 64 and 2 more, 100 digits
    ++ each 30 4 (wrongs ("tracks 258" ∷ "tracks 65538" ∷ "tracks 4294967298" ∷ "tracks 18446744073709551618" ∷ []))
    ++ each 30 5 (wrongs ("t1 65838" ∷ "t1 4294967596" ∷ "t1 18446744073709551916" ∷ []))
    ++ rows 30 (nines_behind "tracks " 100 ∷ nines_behind "clock " 100 ∷ []) (4 ∷ 5 ∷ [])
    -- P31: a number is a word of decimal digits only (no sign)
    ++ each 31 4 (wrongs ("tracks +2" ∷ "tracks -2" ∷ "tracks 2." ∷ "tracks 2.0" ∷ "tracks 0x2" ∷ "tracks 2e0"
    ∷ "tracks two" ∷ "tracks t1" ∷ []))
    ++ each 31 4 (wrongs
    ("tracks 1a" ∷ "tracks a1" ∷ "tracks 1/" ∷ "tracks :1" ∷ "tracks /" ∷ "tracks 1,0" ∷ "tracks \"2\"" ∷ []))
    ++ each 31 5 (wrongs ("clock +1" ∷ "clock -1" ∷ "clock 1.5" ∷ "clock 0x1F" ∷ "clock 1s" ∷ "clock x" ∷ "clock 1_000"
    ∷ "t5 :" ∷ "t4 -0" ∷ []))
    -- each of the ten digits
    ++ rows 31 (lines_told ("report 123 45 67 89 01234" ∷ [])) (13 ∷ 0 ∷ 123 ∷ 45 ∷ 67 ∷ 89 ∷ 1234 ∷ [])
    -- P32: fault 3: a word too many, whatever it is, after all expected numbers are there and good
    ++ each 32 3
    (wrongs ("tracks 1 2" ∷ "t1 1 2" ∷ "t2 1 2" ∷ "t3 1 2" ∷ "t4 1 2" ∷ "t5 1 2" ∷ "clock 1 2" ∷ "tracks 1 x" ∷ []))
    ++ each 32 3 (wrongs
    ("occupied 0 1 2" ∷ "free 0 1 2" ∷ "failed 0 1 2" ∷ "restored 0 1 2" ∷ "head 0 1 2" ∷ "normalise 0" ∷ []))
    ++ each 32 3 (wrongs ("report 1 2 3 4 5 6" ∷ "report 1 2 3 4 5 x y z" ∷ "occupied 0 1 65536" ∷ "tracks 2 tracks 2"
    ∷ "normalise normalise" ∷ []))
    -- P33: the words after it from left to right: the first that is wrong decides
    ++ rows 33 (wrongs ("tracks x y" ∷ "clock x y" ∷ "occupied x" ∷ "occupied 256 x 1" ∷ "occupied 1 x 1" ∷ []))
    (4 ∷ 5 ∷ 4 ∷ 4 ∷ 4 ∷ [])
    ++ rows 33 (wrongs ("head x" ∷ "head x y" ∷ "head 0 x y" ∷ "head 65536 65536" ∷ [])) (4 ∷ 4 ∷ 5 ∷ 4 ∷ [])
    ++ rows 33 (wrongs ("report x" ∷ "report 1 x" ∷ "report 1 2 x" ∷ "report 1 2 3 x" ∷ "report 1 2 3 4 x" ∷ []))
    (4 ∷ 4 ∷ 4 ∷ 4 ∷ 5 ∷ [])
    ++ rows 33 (wrongs ("report 1 2 3 x y z" ∷ "report 1 2 3 4 x y" ∷ [])) (4 ∷ 5 ∷ [])
    -- P34: of a line at fault, a word that is no number counts as 0, and so does one that is missing (house)
    ++ rows 34 (lines_told ("occupied 256 4" ∷ "failed 3 x" ∷ "head 1" ∷ []))
    ((6 ∷ 4 ∷ 1 ∷ 0 ∷ 4 ∷ 0 ∷ 0 ∷ []) ++ ((9 ∷ 4 ∷ 4 ∷ 3 ∷ 0 ∷ 0 ∷ 0 ∷ []) ++ (11 ∷ 2 ∷ 6 ∷ 1 ∷ 0 ∷ 0 ∷ 0 ∷ [])))
    ++ rows 34 (lines_told ("occupied 256 256" ∷ "free 256 256" ∷ "failed 256 256" ∷ "restored 256 256" ∷ []))
    (together (map (λ start. start ++ zeros 4)
    ((6 ∷ 4 ∷ 1 ∷ []) ∷ (7 ∷ 4 ∷ 2 ∷ []) ∷ (9 ∷ 4 ∷ 4 ∷ []) ∷ (10 ∷ 4 ∷ 5 ∷ []) ∷ [])))
    ++ rows 34 (lines_told ("head 256 65536" ∷ "report 256 256 256 256 65536" ∷ []))
    ((11 ∷ 4 ∷ 6 ∷ zeros 4) ++ (13 ∷ 4 ∷ zeros 5))
    ++ rows 34 (lines_told ("clock 65536" ∷ "tracks 256" ∷ []))
    ((8 ∷ 5 ∷ 3 ∷ 0 ∷ 0 ∷ 0 ∷ 0 ∷ []) ++ (0 ∷ 4 ∷ 0 ∷ 0 ∷ 0 ∷ 0 ∷ 0 ∷ []))
