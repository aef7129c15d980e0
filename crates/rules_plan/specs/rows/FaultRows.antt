-- A planner's text: rows P35 to P51 for what is wrong with it, and on which line. What is due is read off the sentence
-- that stands above each. A text is told by its fault and the line; what it says by which settings were given (tracks,
-- t1 to t5), what they are, and the number of reports.
use Rattle.std.specs.Prelude.{ℕ, suc, Bool, true, false, List, [], ◌∷◌, ◌++◌, map, drop, replicate, take}
use Prim.Native.String.{String}
use Rattle.rules.specs.rows.Refusals.{chosen}
use Rattle.rules.specs.rows.Row.{Row, each, rows, together}
use Rattle.rules_json.specs.Abnf.{octets}
use Rattle.rules_plan.specs.Faults.{checked_from, line_fault}
use Rattle.rules_plan.specs.Lines.{line_of}
use Rattle.rules_plan.specs.Words.{lines}
use Rattle.rules_plan.specs.declared.Said.{Said}
use Rattle.rules_plan.specs.rows.Told.{fault, fault_told, mark_typed, on_lines, said_by, typed}

-- ---- texts

-- six settings within their limits, a line each
abbrev pub six : List String
six = "tracks 2" ∷ "t1 300" ∷ "t2 300" ∷ "t3 300" ∷ "t4 0" ∷ "t5 600" ∷ []

-- these, and lines from the seventh on
abbrev pub six_then : List String → List ℕ
six_then l = on_lines (six ++ l)

-- all but one, and lines from the sixth on
abbrev pub five_then : ℕ → List String → List ℕ
five_then n l = on_lines (take n six ++ (drop (suc n) six ++ l))

-- a report of each kind, and one of no kind
abbrev pub one_of_each : List String
one_of_each =
    "occupied 0 4" ∷ "free 0 4" ∷ "clock 1" ∷ "failed 0 4" ∷ "restored 0 4" ∷ "head 0 8" ∷ "normalise"
    ∷ "report 9 9 9 9 9" ∷ []

-- of each of several texts
abbrev pub faults : List (List ℕ) → List ℕ
faults l = together (map fault l)

-- ---- what was said, handed in: which settings, so many reports

abbrev pub said_so : List Bool → ℕ → Said
said_so given reports = record { given = given; settings = chosen 2 300 300 300 0 600; reports = reports }

abbrev pub all_six : List Bool
all_six = replicate 6 true

-- all but T4
abbrev pub not_t4 : List Bool
not_t4 = true ∷ true ∷ true ∷ true ∷ false ∷ true ∷ []

-- what is wrong with lines after so many reports
abbrev pub after : List Bool → ℕ → List String → List ℕ
after given reports l = map (λ s. line_fault (said_so given reports) (line_of (octets s))) l

-- what is wrong with a text of which so much was said up to its line 9000
abbrev pub further : ℕ → List String → List ℕ
further reports l = fault_told (checked_from 9001 (said_so all_six reports) (lines (on_lines l)))

abbrev pub fault_rows : List Row
fault_rows =
    -- P35: six settings, once each, in any order; then reports, or none
    rows 35 (faults (on_lines six ∷ six_then ("normalise" ∷ "occupied 0 4" ∷ []) ∷ [])) (0 ∷ 0 ∷ 0 ∷ 0 ∷ [])
    ++ rows 35 (fault (on_lines ("t5 600" ∷ "t4 0" ∷ "t3 300" ∷ "t2 300" ∷ "t1 300" ∷ "tracks 2" ∷ "normalise" ∷ [])))
    (0 ∷ 0 ∷ [])
    -- P36: what it says: which settings, what they are, and how many reports
    ++ rows 36 (said_by (on_lines ("t3 303" ∷ "tracks 4" ∷ "t5 505" ∷ "t1 101" ∷ "t2 202" ∷ "t4 404" ∷ "clock 1" ∷ ""
    ∷ "clock 2" ∷ "clock 3" ∷ [])))
    (1 ∷ 1 ∷ 1 ∷ 1 ∷ 1 ∷ 1 ∷ 4 ∷ 101 ∷ 202 ∷ 303 ∷ 404 ∷ 505 ∷ 3 ∷ [])
    ++ rows 36 (said_by (on_lines ("t3 303" ∷ "tracks 4" ∷ [])))
    (1 ∷ 0 ∷ 0 ∷ 1 ∷ 0 ∷ 0 ∷ 4 ∷ 0 ∷ 0 ∷ 303 ∷ 0 ∷ 0 ∷ 0 ∷ [])
    ++ rows 36 (said_by (on_lines ("t1 101" ∷ "t5 505" ∷ [])))
    (0 ∷ 1 ∷ 0 ∷ 0 ∷ 0 ∷ 1 ∷ 0 ∷ 101 ∷ 0 ∷ 0 ∷ 0 ∷ 505 ∷ 0 ∷ [])
    ++ rows 36 (said_by (on_lines ("t4 404" ∷ "t2 202" ∷ [])))
    (0 ∷ 0 ∷ 1 ∷ 0 ∷ 1 ∷ 0 ∷ 0 ∷ 0 ∷ 202 ∷ 0 ∷ 404 ∷ 0 ∷ 0 ∷ [])
    -- P37: a line's words by themselves, 1 to 5, with its number
    ++ rows 37 (fault (six_then ("island 0 4" ∷ []))) (1 ∷ 7 ∷ [])
    ++ rows 37 (fault (six_then ("normalise" ∷ "occupied 0" ∷ []))) (2 ∷ 8 ∷ [])
    ++ rows 37 (fault (six_then ("normalise" ∷ "normalise 0" ∷ []))) (3 ∷ 8 ∷ [])
    ++ rows 37 (fault (on_lines ("t1 1" ∷ "tracks 256" ∷ []))) (4 ∷ 2 ∷ [])
    ++ rows 37 (fault (on_lines ("t1 65536" ∷ []))) (5 ∷ 1 ∷ [])
    -- P38: line numbers count from 1, every line counts: empty ones, blanks and comments; the
    -- line feed of the last may be missing
    ++ rows 38 (fault (typed ("\n\n# a\n \t\n\r\nx\n" ∷ []))) (1 ∷ 6 ∷ [])
    ++ rows 38 (fault (typed ("tracks 2\r\n\r\nt1 1\r\nt1 1 1\r\n" ∷ []))) (3 ∷ 4 ∷ [])
    ++ rows 38 (fault (typed ("\nx" ∷ []))) (1 ∷ 2 ∷ [])
    -- P39: a byte order mark at the very start is passed over, and at the start of another line it is not
    ++ rows 39 (fault (mark_typed ++ six_then ("normalise" ∷ []))) (0 ∷ 0 ∷ [])
    ++ rows 39 (fault (mark_typed ++ octets "x")) (1 ∷ 1 ∷ [])
    ++ rows 39 (fault (octets "\n" ++ (mark_typed ++ on_lines six))) (1 ∷ 2 ∷ [])
    -- P40: fault 6: a setting after the first report, each of them, after one report or several
    ++ rows 40 (fault (six_then ("normalise" ∷ "t4 50" ∷ []))) (6 ∷ 8 ∷ [])
    ++ rows 40 (fault (six_then ("normalise" ∷ "clock 1" ∷ "clock 1" ∷ "tracks 2" ∷ []))) (6 ∷ 10 ∷ [])
    ++ each 40 6 (after all_six 1 six ++ (after all_six 2 six ++ after all_six 8190 six))
    ++ each 40 0 (after all_six 1 ("normalise" ∷ "" ∷ "# t1 1" ∷ []))
    -- P41: fault 7: a setting given already, each of them, with the same number or another
    ++ rows 41 (faults (map (λ s. six_then (s ∷ [])) six)) (together (replicate 6 (7 ∷ 7 ∷ [])))
    ++ rows 41 (fault (on_lines ("tracks 2" ∷ "tracks 3" ∷ []))) (7 ∷ 2 ∷ [])
    ++ rows 41 (fault (on_lines ("t5 5" ∷ "t4 4" ∷ "T5 6" ∷ "x" ∷ []))) (7 ∷ 3 ∷ [])
    ++ each 41 0 (after not_t4 0 ("t4 50" ∷ []))
    -- P42: fault 8: a report before all six settings are given, whichever is missing, and whichever kind it is
    ++ rows 42 (faults (map (λ n. five_then n ("normalise" ∷ [])) (0 ∷ 1 ∷ 2 ∷ 3 ∷ 4 ∷ 5 ∷ [])))
    (together (replicate 6 (8 ∷ 6 ∷ [])))
    ++ rows 42 (fault (on_lines ("normalise" ∷ []))) (8 ∷ 1 ∷ [])
    ++ each 42 8 (after not_t4 0 one_of_each)
    ++ each 42 0 (after not_t4 0 ("" ∷ "# normalise" ∷ []))
    -- P43: fault 9: the settings are outside their limits of document 01: 1 to 4 tracks
    ++ rows 43 (faults
    (map (λ s. five_then 0 (s ∷ [])) ("tracks 0" ∷ "tracks 1" ∷ "tracks 4" ∷ "tracks 5" ∷ "tracks 255" ∷ [])))
    (9 ∷ 6 ∷ 0 ∷ 0 ∷ 0 ∷ 0 ∷ 9 ∷ 6 ∷ 9 ∷ 6 ∷ [])
    -- P44: T1, T2, T3 from 1 to 65535; T4 from 0 to 65535
    ++ rows 44 (faults (map (λ s. five_then 1 (s ∷ [])) ("t1 0" ∷ "t1 1" ∷ "t1 65535" ∷ [])))
    (9 ∷ 6 ∷ 0 ∷ 0 ∷ 0 ∷ 0 ∷ [])
    ++ rows 44 (faults (map (λ s. five_then 2 (s ∷ [])) ("t2 0" ∷ "t2 1" ∷ []))) (9 ∷ 6 ∷ 0 ∷ 0 ∷ [])
    ++ rows 44 (faults (map (λ s. five_then 3 (s ∷ [])) ("t3 0" ∷ "t3 1" ∷ "t3 65535" ∷ [])))
    (9 ∷ 6 ∷ 0 ∷ 0 ∷ 0 ∷ 0 ∷ [])
    ++ rows 44 (faults (map (λ s. five_then 4 (s ∷ [])) ("t4 0" ∷ "t4 65535" ∷ []))) (0 ∷ 0 ∷ 0 ∷ 0 ∷ [])
    -- P45: T5 from 1 to 65535 and greater than T2
    ++ rows 45 (faults (map (λ s. five_then 5 (s ∷ [])) ("t5 0" ∷ "t5 299" ∷ "t5 300" ∷ "t5 301" ∷ "t5 65535" ∷ [])))
    (9 ∷ 6 ∷ 9 ∷ 6 ∷ 9 ∷ 6 ∷ 0 ∷ 0 ∷ 0 ∷ 0 ∷ [])
    ++ rows 45 (faults (map (λ s. five_then 2 (s ∷ [])) ("t2 599" ∷ "t2 600" ∷ "t2 65535" ∷ [])))
    (0 ∷ 0 ∷ 9 ∷ 6 ∷ 9 ∷ 6 ∷ [])
    -- P46: it is a setting that completes the six that has it, not the one that is outside
    ++ rows 46 (fault (on_lines ("tracks 0" ∷ "t1 0" ∷ "t2 300" ∷ "t3 300" ∷ "t4 0" ∷ "# soon" ∷ "t5 600" ∷ [])))
    (9 ∷ 7 ∷ [])
    ++ rows 46 (fault (on_lines ("t5 600" ∷ "t4 0" ∷ "t3 300" ∷ "t2 600" ∷ "t1 300" ∷ "tracks 2" ∷ "x" ∷ [])))
    (9 ∷ 6 ∷ [])
    -- P47: fault 10: an 8,191st report, of any kind
    ++ each 47 0 (after all_six 8189 one_of_each)
    ++ each 47 10 (after all_six 8190 one_of_each)
    ++ rows 47 (after all_six 8190 ("" ∷ "# one" ∷ []) ++ after all_six 8191 ("clock 1" ∷ [])) (0 ∷ 0 ∷ 10 ∷ [])
    ++ rows 47 (further 8189 ("clock 1" ∷ "#" ∷ []) ++ further 8189 ("clock 1" ∷ "#" ∷ "clock 1" ∷ []))
    (0 ∷ 0 ∷ 10 ∷ 9003 ∷ [])
    -- P48: per line, in this order: its words by themselves before where it stands
    ++ rows 48 (fault (six_then ("normalise" ∷ "t1 300 300" ∷ []))) (3 ∷ 8 ∷ [])
    ++ rows 48 (fault (on_lines ("tracks 2" ∷ "tracks 256" ∷ []))) (4 ∷ 2 ∷ [])
    ++ rows 48 (fault (on_lines ("occupied 0 256" ∷ []))) (4 ∷ 1 ∷ [])
    ++ rows 48 (fault (five_then 1 ("t1 0 0" ∷ []))) (3 ∷ 6 ∷ [])
    ++ rows 48 (after all_six 8190 ("clock" ∷ "clock x" ∷ "ticks 1" ∷ "normalise 1" ∷ "t1 x" ∷ []))
    (2 ∷ 5 ∷ 1 ∷ 3 ∷ 5 ∷ [])
    -- P49: then 6 before 7 and 9, 7 before 9, 8 before 10
    ++ rows 49 (fault (six_then ("normalise" ∷ "t1 300" ∷ [])) ++ fault (six_then ("t1 0" ∷ []))) (6 ∷ 8 ∷ 7 ∷ 7 ∷ [])
    ++ rows 49 (after not_t4 1 ("t4 0" ∷ "tracks 0" ∷ []) ++ after not_t4 8190 ("normalise" ∷ [])) (6 ∷ 6 ∷ 8 ∷ [])
    -- P50: at the end of the text, fault 11, of no line: not all six settings were given
    ++ rows 50 (faults ([] ∷ octets "\n" ∷ octets "# tracks 2" ∷ mark_typed ∷ [])) (together (replicate 4 (11 ∷ 0 ∷ [])))
    ++ rows 50 (faults (map (λ n. five_then n []) (0 ∷ 1 ∷ 2 ∷ 3 ∷ 4 ∷ 5 ∷ []))) (together (replicate 6 (11 ∷ 0 ∷ [])))
    ++ rows 50 (fault (on_lines ("tracks 0" ∷ "t1 0" ∷ []))) (11 ∷ 0 ∷ [])
    -- P51: the first line with one decides, and what the lines before it said is told (house)
    ++ rows 51 (fault (six_then ("normalise" ∷ "clock x" ∷ "t1 1" ∷ "y" ∷ []))) (5 ∷ 8 ∷ [])
    ++ rows 51 (fault (on_lines ("t1 1" ∷ "t1 1" ∷ "x" ∷ []))) (7 ∷ 2 ∷ [])
    ++ rows 51 (said_by (six_then ("normalise" ∷ "clock 1" ∷ "clock x" ∷ "clock 2" ∷ [])))
    (1 ∷ 1 ∷ 1 ∷ 1 ∷ 1 ∷ 1 ∷ 2 ∷ 300 ∷ 300 ∷ 300 ∷ 0 ∷ 600 ∷ 2 ∷ [])
    ++ rows 51 (said_by (on_lines ("t1 1" ∷ "t1 2" ∷ "t2 3" ∷ [])))
    (0 ∷ 1 ∷ 0 ∷ 0 ∷ 0 ∷ 0 ∷ 0 ∷ 1 ∷ 0 ∷ 0 ∷ 0 ∷ 0 ∷ 0 ∷ [])
