-- Document 01, "The numbers it answers": what is wrong with a register gets its number, 8 to 14, in its stated case
-- only, and of two faults the one that is first in the order decides. Rows of a single table; what is due is read
-- off the sentence that stands above each.
use Rattle.std.specs.Prelude.{ℕ, suc, List, [], ◌∷◌, ◌++◌, map, set, take}
use Rattle.rules.specs.OfEachKind.{occupied, report}
use Rattle.rules.specs.Register.{appended, entry_answer, handed_back, handed_back_at, read_of, start_answer, step_of}
use Rattle.rules.specs.declared.Reading.{Reading}
use Rattle.rules.specs.declared.Report.{Report}
use Rattle.rules.specs.declared.Settings.{Settings}
use Rattle.rules.specs.rows.Machine.{ours}
use Rattle.rules.specs.rows.Refusals.{chosen, handed_in}
use Rattle.rules.specs.rows.RegisterRows.{approaching_told, least_told, many_header, many_settings, nines}
use Rattle.rules.specs.rows.RegisterRows.{normal_told, said, station_told, worked_header, zeros}
use Rattle.rules.specs.rows.Row.{Row, all_rows, each, rows, together}
use Rattle.rules.specs.rows.Table.{c2}

-- ---- registers

-- the worked register with a clock of one tick, after which the aspect is still 1
abbrev pub sound : List ℕ
sound =
    worked_header
    ++ (7 ∷ 0 ∷ 0 ∷ 0 ∷ 0 ∷ 0 ∷ 0 ∷ 0 ∷ [])
    ++ (1 ∷ 0 ∷ 4 ∷ 0 ∷ 0 ∷ 0 ∷ 0 ∷ 1 ∷ [])
    ++ (3 ∷ 0 ∷ 0 ∷ 0 ∷ 1 ∷ 0 ∷ 0 ∷ 1 ∷ [])
    ++ (1 ∷ 0 ∷ 3 ∷ 0 ∷ 0 ∷ 0 ∷ 0 ∷ 2 ∷ [])
    ++ (1 ∷ 0 ∷ 3 ∷ 0 ∷ 0 ∷ 0 ∷ 6 ∷ 2 ∷ [])

-- the same with other bytes from a place on
abbrev pub changed : List ℕ → ℕ → List ℕ → List ℕ
changed b at [] = b
changed b at (x ∷ xs) = changed (set b at x) (suc at) xs

abbrev pub other : ℕ → List ℕ → List ℕ
other at bytes = changed sound at bytes

-- a header, and so many bytes of 0 after it
abbrev pub long : ℕ → List ℕ
long n = worked_header ++ zeros n

-- 8,190 entries are 65,520 bytes after the header, 8,191 are 65,528.
abbrev pub most : List ℕ
most = long 65520

abbrev pub too_many : List ℕ
too_many = long 65528

-- each letter of the mark wrong, the mark in small letters, and backwards
abbrev pub other_marks : List (List ℕ)
other_marks =
    other 0 (68 ∷ []) ∷ other 1 (68 ∷ []) ∷ other 2 (66 ∷ []) ∷ other 0 (99 ∷ 101 ∷ 97 ∷ [])
    ∷ other 0 (65 ∷ 69 ∷ 67 ∷ []) ∷ []

-- version 0, 2, 256, 257
abbrev pub other_versions : List (List ℕ)
other_versions = map (other 3) ((0 ∷ 0 ∷ []) ∷ (2 ∷ 0 ∷ []) ∷ (0 ∷ 1 ∷ []) ∷ (1 ∷ 1 ∷ []) ∷ [])

-- header settings outside their limits: no tracks, 5, 255; T1, T2, T3 at 0; T5 at 0, equal to T2, and one less
abbrev pub other_settings : List (List ℕ)
other_settings =
    map (other 5) ((0 ∷ []) ∷ (5 ∷ []) ∷ (255 ∷ []) ∷ [])
    ++ (other 6 (0 ∷ 0 ∷ []) ∷ other 8 (0 ∷ 0 ∷ []) ∷ other 10 (0 ∷ 0 ∷ [])
    ∷ map (other 14) ((0 ∷ 0 ∷ []) ∷ (44 ∷ 1 ∷ []) ∷ (43 ∷ 1 ∷ []) ∷ []))

-- an entry's answer wrong, or its aspect: of the first, of the third, of the fifth entry
abbrev pub wrong_entries : List (List ℕ)
wrong_entries =
    other 22 (1 ∷ []) ∷ other 23 (1 ∷ []) ∷ other 38 (6 ∷ []) ∷ other 39 (0 ∷ []) ∷ other 54 (0 ∷ [])
    ∷ other 55 (1 ∷ []) ∷ []

-- ---- what they are answered

-- reading, stepping to row 0, handing back row 1
abbrev pub readers : List ℕ → List ℕ
readers b = (read_of b).answer ∷ (step_of b 0).answer ∷ entry_answer b 1 ∷ []

-- appending a report at entry k
abbrev pub appending : List ℕ → ℕ → Report → ℕ
appending b k r = (appended b k (c2 ours) r).answer

abbrev pub good : Report
good = occupied 0 4

-- one refused by 1
abbrev pub unknown : Report
unknown = report 8 0 0 0 0

-- all four
abbrev pub all : List ℕ → List ℕ
all b = appending b 0 good ∷ readers b

-- appending at entry 0 of the register, with a station handed in of these settings
abbrev pub appending_of : List ℕ → Settings → ℕ
appending_of b c = (appended b 0 (handed_in c) good).answer

-- what a refused read or step returns beside its answer: entry, count and station
abbrev pub beside : Reading → List ℕ
beside r = r.entry ∷ r.count ∷ station_told r.station

abbrev pub register_refusals : List Row
register_refusals =
    -- G17: 9: register shorter than 16 bytes
    each 17 9 (together (map all ([] ∷ take 1 sound ∷ take 15 sound ∷ [])))
    -- G18: or wrong mark
    ++ each 18 9 (together (map all other_marks))
    -- G19: 10: version not 1. Both bytes count.
    ++ each 19 10 (together (map all other_versions))
    -- G20: 11: length less 16 is no multiple of 8
    ++ each 20 11
    (together (map (λ n. readers (take n sound)) (17 ∷ 18 ∷ 20 ∷ 23 ∷ 25 ∷ 55 ∷ [])) ++ readers (long 65521))
    -- G21: 12: more than 8,190 entries
    ++ each 21 12 (together (map readers (too_many ∷ long 65536 ∷ [])))
    -- G22: 12: no room in starting
    ++ each 22 12 (map (λ n. start_answer (chosen 2 300 300 300 0 600) (nines n)) (0 ∷ 1 ∷ 15 ∷ []))
    -- G23: 12: no room in appending: k at 8,190 or more, though there is room,
    ++ each 23 12 (appending too_many 8190 good ∷ appending (long 65536) 8191 good ∷ appending sound 8190 good ∷ [])
    -- G24: or fewer than 16+8(k+1) bytes
    ++ each 24 12 (appending (take 16 sound) 0 good ∷ appending (take 23 sound) 0 good ∷ appending sound 5 good ∷ [])
    ++ each 24 12
    (appending (sound ++ nines 7) 5 good ∷ appending (long 65519) 8189 good ∷ appending sound 8189 good ∷ [])
    -- G25: 8: setting outside its limits: in starting,
    ++ each 25 8 (map (λ n. start_answer (chosen n 300 300 300 0 600) (nines 16)) (0 ∷ 5 ∷ 255 ∷ []))
    ++ each 25 8 (map (λ c. start_answer c (nines 16))
    (chosen 2 0 300 300 0 600 ∷ chosen 2 300 0 300 0 600 ∷ chosen 2 300 300 0 0 600 ∷ []))
    ++ each 25 8 (map (λ n. start_answer (chosen 2 300 300 300 0 n) (nines 16)) (0 ∷ 299 ∷ 300 ∷ []))
    -- G26: in the header that is read,
    ++ each 26 8 (together (map readers other_settings))
    -- G27: in appending, in the header alone, in the station alone, in both alike
    ++ each 27 8 (map (λ b. appending b 0 good) other_settings ++ (appending_of sound (chosen 5 300 300 300 0 600) ∷ []))
    ++ each 27 8 (appending_of (other 5 (5 ∷ [])) (chosen 5 300 300 300 0 600) ∷ [])
    ++ each 27 8 (appending_of (other 14 (44 ∷ 1 ∷ [])) (chosen 2 300 300 300 0 300) ∷ [])
    -- G28: 8: in appending, header settings not the station's: each of the six, in either byte
    ++ each 28 8 (map (λ b. appending b 0 good)
    (other 5 (3 ∷ []) ∷ other 6 (45 ∷ []) ∷ other 7 (2 ∷ []) ∷ other 8 (45 ∷ []) ∷ other 9 (2 ∷ []) ∷ []))
    ++ each 28 8 (map (λ b. appending b 0 good)
    (other 10 (45 ∷ []) ∷ other 11 (2 ∷ []) ∷ other 12 (1 ∷ []) ∷ other 13 (1 ∷ []) ∷ []))
    ++ each 28 8 (map (λ b. appending b 0 good) (other 14 (89 ∷ []) ∷ other 15 (3 ∷ []) ∷ []))
    -- G29: 13: an entry's answer or aspect isn't what the replay gives; the entry is named, counted from 1
    ++ rows 29 (together (map (λ b. said (read_of b)) wrong_entries))
    (13 ∷ 1 ∷ 0 ∷ 13 ∷ 1 ∷ 0 ∷ 13 ∷ 3 ∷ 0 ∷ 13 ∷ 3 ∷ 0 ∷ 13 ∷ 5 ∷ 0 ∷ 13 ∷ 5 ∷ 0 ∷ [])
    -- G30: the first such entry is named
    ++ rows 30 (said (read_of (changed (other 30 (6 ∷ [])) 47 (0 ∷ [])))) (13 ∷ 2 ∷ 0 ∷ [])
    ++ rows 30 (said (read_of (worked_header ++ nines 24))) (13 ∷ 1 ∷ 0 ∷ [])
    -- G31: Stepping: 13 among the first k entries only. Entry 4 is wrong.
    ++ rows 31 (together (map (λ k. said (step_of (other 46 (6 ∷ [])) k)) (0 ∷ 3 ∷ 4 ∷ 5 ∷ [])))
    (0 ∷ 0 ∷ 0 ∷ 0 ∷ 0 ∷ 3 ∷ 13 ∷ 4 ∷ 0 ∷ 13 ∷ 4 ∷ 0 ∷ [])
    ++ rows 31 (station_told (step_of (other 46 (6 ∷ [])) 3).station) (normal_told (zeros 4) (approaching_told 1))
    -- G32: 14: stepping back to a row above the count,
    ++ each 32 14 (map (λ k. (step_of sound k).answer) (6 ∷ 7 ∷ 18446744073709551615 ∷ [])
    ++ ((step_of worked_header 1).answer ∷ (step_of most 8191).answer ∷ []))
    -- G33: or handing one back; handing back row 0
    ++ each 33 14
    (map (entry_answer sound) (0 ∷ 6 ∷ 7 ∷ 18446744073709551615 ∷ []) ++ map (entry_answer worked_header) (0 ∷ 1 ∷ []))
    ++ each 33 14 (entry_answer most 0 ∷ entry_answer most 8191 ∷ [])
    -- Each number is given in its stated case only. G34: sixteen bytes are a register of no entries,
    ++ rows 34 (said (read_of worked_header) ++ said (step_of worked_header 0)) (0 ∷ 0 ∷ 0 ∷ 0 ∷ 0 ∷ 0 ∷ [])
    ++ each 34 0 (start_answer (chosen 2 300 300 300 0 600) (nines 16) ∷ [])
    -- G35: whole entries are read as far as they go, the last row too,
    ++ rows 35 (said (read_of sound) ++ said (step_of sound 5)) (0 ∷ 0 ∷ 5 ∷ 0 ∷ 0 ∷ 5 ∷ [])
    ++ rows 35 (said (read_of (take 24 sound)) ++ (said (read_of (take 48 sound)) ++ said (step_of (take 24 sound) 1)))
    (0 ∷ 0 ∷ 1 ∷ 0 ∷ 0 ∷ 4 ∷ 0 ∷ 0 ∷ 1 ∷ [])
    ++ each 35 0 (entry_answer sound 1 ∷ entry_answer sound 5 ∷ [])
    -- G36: 8,190 entries are not too many: rows 0 and 8,190,
    ++ each 36 0 ((step_of most 0).answer ∷ entry_answer most 1 ∷ entry_answer most 8190 ∷ [])
    ++ rows 36 (handed_back_at most 8190 ∷ handed_back most 8190) (65528 ∷ zeros 8)
    -- G37: there is room for entry k in 16+8(k+1) bytes, at 8,189 the last, and also where bytes are
    -- left over, entries or no entries,
    ++ each 37 0 (appending (take 24 sound) 0 good ∷ appending (take 25 sound) 0 good ∷ appending sound 4 good
    ∷ appending (sound ++ nines 8) 5 good ∷ [])
    ++ each 37 0 (appending most 8189 good ∷ appending too_many 8189 good ∷ appending (long 65521) 0 good ∷ [])
    -- and with settings of which no two are alike,
    ++ each 37 0 (appending_of (many_header ++ nines 8) many_settings ∷ [])
    -- G38: settings at their least and at their greatest: started, and read.
    ++ each 38 0
    (map (λ c. start_answer c (nines 16)) (chosen 1 1 1 1 0 2 ∷ chosen 4 65535 65534 65535 65535 65535 ∷ []))
    ++ each 38 0
    (map (λ b. (read_of b).answer) (changed worked_header 5 (1 ∷ 1 ∷ 0 ∷ 1 ∷ 0 ∷ 1 ∷ 0 ∷ 0 ∷ 0 ∷ 2 ∷ 0 ∷ []) ∷ []))
    ++ each 38 0 (map (λ b. (read_of b).answer)
    (changed worked_header 5 (4 ∷ 255 ∷ 255 ∷ 254 ∷ 255 ∷ 255 ∷ 255 ∷ 255 ∷ 255 ∷ 255 ∷ 255 ∷ []) ∷ []))
    -- Starting: 8, 12. G39: settings outside their limits, and fifteen bytes
    ++ each 39 8
    (start_answer (chosen 5 300 300 300 0 600) (nines 15) ∷ start_answer (chosen 2 300 300 300 0 300) [] ∷ [])
    -- Appending: 9, 10, 8, 12, and then the report; reading, handing back and stepping: 9, 10, 11, 12, 8. G40: mark and
    -- version; a cut header and version
    ++ each 40 9 (together (map all (other 2 (66 ∷ 2 ∷ []) ∷ take 15 (other 3 (2 ∷ [])) ∷ [])))
    -- G41: version and settings; version and a cut entry; version and too many
    ++ each 41 10 (together
    (map all (other 3 (2 ∷ 0 ∷ 5 ∷ []) ∷ changed (take 25 sound) 3 (2 ∷ []) ∷ changed too_many 3 (2 ∷ []) ∷ [])))
    -- G42: in appending, settings and no room,
    ++ each 42 8 (appending (other 5 (5 ∷ [])) 5 good ∷ appending (other 5 (3 ∷ [])) 5 good
    ∷ appending (other 5 (3 ∷ [])) 8190 good ∷ [])
    -- G43: no room and a report of no kind, or of an island that is occupied already,
    ++ each 43 12 (appending sound 5 unknown ∷ appending sound 8190 unknown
    ∷ (appended sound 5 (step_of sound 5).station good).answer ∷ [])
    -- settings and such a report
    ++ each 43 8 (appending (other 5 (3 ∷ [])) 0 unknown ∷ [])
    -- G44: in the others, a cut entry and too many; a cut entry and settings,
    ++ each 44 11 (together (map readers (long 65529 ∷ changed (take 25 sound) 5 (5 ∷ []) ∷ [])))
    -- G45: too many and settings; mark and too many
    ++ each 45 12 (readers (changed too_many 5 (5 ∷ [])))
    ++ each 45 9 (readers (changed too_many 0 (68 ∷ [])))
    -- Reading: then 13. G46: settings and a wrong entry
    ++ each 46 8 ((read_of (changed (other 5 (5 ∷ [])) 22 (1 ∷ []))).answer
    ∷ (step_of (changed (other 5 (5 ∷ [])) 22 (1 ∷ [])) 1).answer ∷ [])
    -- Handing back and stepping: then 14. G47: settings and such a row; a cut entry and such a
    -- row; too many and such a row
    ++ each 47 8 (map (λ k. (step_of (other 5 (5 ∷ [])) k).answer) (8191 ∷ 6 ∷ [])
    ++ map (entry_answer (other 5 (5 ∷ []))) (0 ∷ 6 ∷ []))
    ++ each 47 11 ((step_of (take 25 sound) 2).answer ∷ map (entry_answer (take 25 sound)) (0 ∷ 2 ∷ []))
    ++ each 47 12 ((step_of too_many 8192).answer ∷ map (entry_answer too_many) (0 ∷ 8192 ∷ []))
    -- Stepping: then 13. G48: such a row and a wrong entry. Handing back does not replay.
    ++ rows 48 (said (step_of (other 22 (1 ∷ [])) 6)) (14 ∷ 0 ∷ 0 ∷ [])
    ++ rows 48 (map (entry_answer (other 22 (1 ∷ []))) (1 ∷ 5 ∷ 6 ∷ [])) (0 ∷ 0 ∷ 14 ∷ [])
    -- G49: A refused read or step returns a fresh station of 1 track with T1 to T4 equal to 1 and T5 to 2, and count 0;
    -- the entry named is 0 unless 13 is answered. Read: 9, 10, 11, 12, 8.
    ++ all_rows (map (λ b. rows 49 (beside (read_of b)) (0 ∷ 0 ∷ least_told))
    ([] ∷ other 3 (2 ∷ []) ∷ take 25 sound ∷ too_many ∷ other 5 (5 ∷ []) ∷ []))
    -- G50: step: the same, and 14
    ++ all_rows (map (λ b. rows 50 (beside (step_of b 6)) (0 ∷ 0 ∷ least_told))
    ([] ∷ other 3 (2 ∷ []) ∷ take 25 sound ∷ too_many ∷ other 5 (5 ∷ []) ∷ sound ∷ []))
    -- G51: 13, read and stepped to
    ++ rows 51 (beside (read_of (other 46 (6 ∷ []))) ++ beside (step_of (other 46 (6 ∷ [])) 4))
    ((4 ∷ 0 ∷ least_told) ++ (4 ∷ 0 ∷ least_told))
