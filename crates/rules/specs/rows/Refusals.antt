-- Document 01, "The numbers it answers": bad input gets its number, and input just within the
-- limits gets 0, as rows of a single table.
use Rattle.std.specs.Prelude.{ℕ, false, List, [], ◌∷◌, ◌++◌, map}
use Rattle.rules.specs.Answers.{answer_of}
use Rattle.rules.specs.Aspect.{aspect_of}
use Rattle.rules.specs.Heads.{heads_of}
use Rattle.rules.specs.OfEachKind.{clock, condition, failed, freed, normalised, occupied, report, restored}
use Rattle.rules.specs.Siting.{advance_sited, warning_sited}
use Rattle.rules.specs.Station.{fresh_station, made, with_fault}
use Rattle.rules.specs.declared.Report.{Report}
use Rattle.rules.specs.declared.Settings.{Settings}
use Rattle.rules.specs.declared.Sited.{Sited}
use Rattle.rules.specs.declared.Station.{Station}
use Rattle.rules.specs.rows.Machine.{ours}
use Rattle.rules.specs.rows.Row.{Row, each, rows}
use Rattle.rules.specs.rows.Table.{c2, run, seconds}

-- a report of each kind, with nothing wrong in it
abbrev pub well_formed : List Report
well_formed = occupied 0 3 ∷ freed 0 3 ∷ clock 1 ∷ failed 0 3 ∷ restored 0 3 ∷ condition 0 8 ∷ normalised ∷ []

-- what a normalised station of 2 tracks answers, at once and after some reports
abbrev pub answer : Report → ℕ
answer r = answer_of (c2 ours) r

abbrev pub answer_after : List Report → Report → ℕ
answer_after before r = answer_of (run ours (c2 ours) before) r

-- settings: the number of tracks, T1, T2, T3, T4, T5
abbrev pub chosen : ℕ → ℕ → ℕ → ℕ → ℕ → ℕ → Settings
chosen tracks t1 t2 t3 t4 t5 = record { tracks = tracks; t1 = t1; t2 = t2; t3 = t3; t4 = t4; t5 = t5 }

-- the answer to making a station of them
abbrev pub making : Settings → ℕ
making c = (made c).answer

-- A station handed in, its fault not latched: of five tracks, and of a T5 that is not greater than T2.
abbrev pub handed_in : Settings → Station
handed_in c = with_fault (fresh_station c) false

abbrev pub five_tracks : Station
five_tracks = handed_in (chosen 5 300 300 300 0 600)

abbrev pub short_t5 : Station
short_t5 = handed_in (chosen 2 300 300 300 0 300)

-- Speed 0 and 351, message time 61; speed 0 and 351, tracks 0 and 5.
abbrev pub sitings : List Sited
sitings =
    advance_sited 0 (seconds 6)
    ∷ advance_sited 351 (seconds 6)
    ∷ advance_sited 155 (seconds 61)
    ∷ warning_sited 0 2
    ∷ warning_sited 351 2
    ∷ warning_sited 155 0
    ∷ warning_sited 155 5
    ∷ []

-- and the sitings that stand just within the limits
abbrev pub nearest : List Sited
nearest = advance_sited 1 (seconds 0) ∷ advance_sited 350 (seconds 60) ∷ warning_sited 1 1 ∷ warning_sited 350 4 ∷ []

abbrev pub refusals : List Row
refusals =
    -- R1: 1, kind is not 1 to 7
    each 1 1 (map answer (report 0 0 0 0 0 ∷ report 8 0 0 0 0 ∷ report 255 0 0 0 0 ∷ []))
    -- R2: 2, spare not 0, on each of the seven kinds,
    ++ each 2 2 (map answer (report 1 0 3 1 0 ∷ report 2 0 3 1 0 ∷ report 3 0 0 1 1 ∷ report 4 0 3 1 0 ∷ []))
    ++ each 3 2 (map answer (report 5 0 3 1 0 ∷ report 6 0 0 1 8 ∷ report 7 0 0 1 0 ∷ []))
    -- R4: a field shown as 0 is not: the value on kinds 1, 2, 4 and 5,
    ++ each 4 2 (map answer (report 1 0 3 0 1 ∷ report 2 0 3 0 1 ∷ report 4 0 3 0 1 ∷ report 5 0 3 0 1 ∷ []))
    -- R5: a and b on a clock report,
    ++ each 5 2 (map answer (report 3 1 0 0 1 ∷ report 3 0 1 0 1 ∷ []))
    -- R6: b on a head condition,
    ++ each 6 2 (map answer (report 6 0 1 0 8 ∷ []))
    -- R7: a, b and the value on a normalise,
    ++ each 7 2 (map answer (report 7 1 0 0 0 ∷ report 7 0 1 0 0 ∷ report 7 0 0 0 1 ∷ []))
    -- R8: clock value 0, condition above 1023
    ++ each 8 2 (map answer (clock 0 ∷ condition 0 1024 ∷ []))
    -- R9: 3, no such track, at the station's number and at 255
    ++ each 9 3 (map answer (occupied 2 3 ∷ freed 2 3 ∷ failed 2 3 ∷ restored 2 3 ∷ []))
    ++ each 10 3 (map answer (occupied 255 3 ∷ freed 255 3 ∷ failed 255 3 ∷ restored 255 3 ∷ []))
    -- R11: 4, island above 4
    ++ each 11 4 (map answer (occupied 0 5 ∷ freed 0 5 ∷ failed 0 5 ∷ restored 0 5 ∷ []))
    -- R12: 5, head above 1
    ++ each 12 5 (map answer (condition 2 8 ∷ []))
    -- R13: 6, occupied already, free already,
    ++ each 13 6 (answer_after (occupied 0 3 ∷ []) (occupied 0 3) ∷ answer (freed 0 3) ∷ [])
    -- R14: and free again,
    ++ each 14 6 (answer_after (occupied 0 3 ∷ freed 0 3 ∷ []) (freed 0 3) ∷ [])
    -- R15: failed already, not failed already,
    ++ each 15 6 (answer_after (failed 0 3 ∷ []) (failed 0 3) ∷ answer (restored 0 3) ∷ [])
    -- R16: and restored again
    ++ each 16 6 (answer_after (failed 0 3 ∷ restored 0 3 ∷ []) (restored 0 3) ∷ [])
    -- R17: 7, normalise with an island occupied or a detector failed
    ++ each 17 7 (answer_after (occupied 0 3 ∷ []) normalised ∷ answer_after (failed 0 3 ∷ []) normalised ∷ [])
    -- R18: 8, setting outside its limits, the number of tracks at 0, 5 and 255,
    ++ each 18 8
    (map making (chosen 0 300 300 300 0 600 ∷ chosen 5 300 300 300 0 600 ∷ chosen 255 300 300 300 0 600 ∷ []))
    -- R19: T1, T2 and T3 at 0,
    ++ each 19 8 (map making (chosen 2 0 300 300 0 600 ∷ chosen 2 300 0 300 0 600 ∷ chosen 2 300 300 0 0 600 ∷ []))
    -- R20: T5 at 0, equal to T2, and below T2
    ++ each 20 8 (map making (chosen 2 300 300 300 0 0 ∷ chosen 2 300 300 300 0 300 ∷ chosen 2 300 300 300 0 299 ∷ []))
    -- R21: 8, also of a station handed in, to each kind of report; the aspect is 5 and the heads show 0
    ++ each 21 8 (map (answer_of five_tracks) well_formed ++ map (answer_of short_t5) well_formed)
    ++ each 22 5 (map aspect_of (five_tracks ∷ short_t5 ∷ []))
    ++ each 23 0 (heads_of five_tracks ++ heads_of short_t5)
    -- R24: 8, siting number outside its limits; refused siting returns distance 0
    ++ each 24 8 (map (λ s. s.answer) sitings)
    ++ each 25 0 (map (λ s. s.distance.0) sitings)
    -- Order: a report is tested for 8, 1, 2, then 3 or 5, 4, and 6 or 7. R26: No such kind, and spare not 0:
    ++ each 26 1 (map answer (report 8 0 0 1 0 ∷ []))
    -- R27: spare not 0, and no such track:
    ++ each 27 2 (map answer (report 1 2 3 1 0 ∷ []))
    -- R28: no such track, and island above 4:
    ++ each 28 3 (map answer (occupied 2 5 ∷ []))
    -- R29: settings outside their limits, and no such kind:
    ++ each 29 8 (answer_of five_tracks (report 8 0 0 0 0) ∷ [])
    -- Each number is given in its stated case only: what stands just within a limit is answered 0. R30: Settings, at
    -- their least and at their greatest,
    ++ each 30 0 (map making (chosen 1 1 1 1 0 2 ∷ chosen 4 65535 65534 65535 65535 65535 ∷ []))
    -- R31: reports, the last track, the first and the last island, the last head, the shortest and the
    -- longest clock, the greatest condition,
    ++ each 31 0
    (map answer (occupied 1 0 ∷ occupied 1 4 ∷ condition 1 0 ∷ condition 0 1023 ∷ clock 1 ∷ clock 65535 ∷ []))
    -- R32: an island whose detector has failed, and a detector whose island is occupied,
    ++ each 32 0
    (answer_after (failed 0 3 ∷ []) (occupied 0 3)
    ∷ answer_after (failed 0 3 ∷ occupied 0 3 ∷ []) (freed 0 3)
    ∷ answer_after (occupied 0 3 ∷ []) (failed 0 3)
    ∷ answer_after (occupied 0 3 ∷ failed 0 3 ∷ []) (restored 0 3)
    ∷ [])
    -- R33: and siting: 1 km/h with 0 s, 350 km/h with 60 s, 1 km/h across 1 track, 350 km/h across 4. R34: 87,500, the
    -- greatest distance of all, is more than sixteen bits hold
    ++ each 33 0 (map (λ s. s.answer) nearest)
    ++ rows 34 (map (λ s. s.distance.0) nearest) (84 ∷ 87500 ∷ 20 ∷ 27223 ∷ [])
