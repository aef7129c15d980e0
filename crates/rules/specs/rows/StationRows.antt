-- Rows H29 to H45, more of our own: for what a rule could do wrong that C1 to C14 and the first house rows do not look
-- at. Every track of four, both sides, detectors failed, the fault latched, stations handed in, reports refused. What
-- is due is read off the sentence that stands above each.
use Rattle.std.specs.Prelude.{ℕ, Bool, true, false, List, [], ◌∷◌, ◌++◌, map}
use Rattle.rules.specs.Answers.{answer_of, station_after, taken}
use Rattle.rules.specs.Aspect.{presence_of}
use Rattle.rules.specs.Heads.{head_outputs}
use Rattle.rules.specs.OfEachKind.{clock, condition, failed, freed, normalised, occupied, report, restored}
use Rattle.rules.specs.Printer.{zones_of}
use Rattle.rules.specs.Reports.{with_island}
use Rattle.rules.specs.Station.{island_at, track_at, with_fault, with_hold, with_track, with_tracks}
use Rattle.rules.specs.declared.Island.{Island}
use Rattle.rules.specs.declared.Report.{Report}
use Rattle.rules.specs.declared.Station.{Station}
use Rattle.rules.specs.rows.HouseRows.{departing, leaving, shown, unheld}
use Rattle.rules.specs.rows.Machine.{ours}
use Rattle.rules.specs.rows.Refusals.{answer_after, chosen, five_tracks}
use Rattle.rules.specs.rows.RegisterRows.{settings_told}
use Rattle.rules.specs.rows.Row.{Row, digits, each, rows}
use Rattle.rules.specs.rows.Table.{c1, c2, c3, c7, c9, outputs, run, settings}

-- short timers 3, 5, 4 and T5 = 9: a normalised station of so many tracks and of this T4, after
-- these reports; its aspect with T4 = 0
abbrev pub short : ℕ → ℕ → List Report → Station
short tracks t4 reports = run ours (ours.make (chosen tracks 3 5 4 t4 9)) (normalised ∷ reports)

abbrev pub aspects : ℕ → List (List Report) → List ℕ
aspects tracks lists = map (λ l. ours.aspect (short tracks 0 l)) lists

-- that of four tracks, each of which is named in turn
abbrev pub on_each : (ℕ → List Report) → List ℕ
on_each reports = aspects 4 (map reports (0 ∷ 1 ∷ 2 ∷ 3 ∷ []))

-- an island: occupied, leaving, failed, age; of a station, and of track 0 of C2 after these reports
abbrev pub told : Station → ℕ → ℕ → List ℕ
told s track island =
    let i : Island = island_at (track_at s track) island in
    digits (i.occupied ∷ i.leaving ∷ i.failed ∷ []) ++ (i.age ∷ [])

abbrev pub told_after : ℕ → List Report → List ℕ
told_after island reports = told (run ours (c2 ours) reports) 0 island

-- a station of one track handed in with the tracks of a station of two: on track 1 an advance island and the crossing
-- are fresh, a warning island is at T5, and the detector of the crossing failed
abbrev pub overfull : Station
overfull =
    with_tracks (short 1 2 [])
    (short 2 2 (occupied 1 3 ∷ clock 9 ∷ occupied 1 4 ∷ occupied 1 2 ∷ failed 1 2 ∷ [])).tracks

-- C2 with an island of track 0 that is leaving or not, and of age 700: occupied, or free, which no run reaches
abbrev pub handed : Bool → Bool → ℕ → Station
handed occupied leaving island =
    with_track (c2 ours) 0 (with_island (track_at (c2 ours) 0) island
    (record { occupied = occupied; leaving = leaving; failed = false; age = 700 }))

abbrev pub five_islands : List ℕ
five_islands = 0 ∷ 1 ∷ 2 ∷ 3 ∷ 4 ∷ []

abbrev pub station_rows : List Row
station_rows =
    -- H29: every track of four is read: fresh advance 1, fresh crossing 2, held 4, a warning
    -- island at T5 and a failed detector 5
    each 29 1 (on_each (λ a. occupied a 4 ∷ [])) ++ each 29 2 (on_each (λ a. occupied a 2 ∷ []))
    ++ each 29 4 (on_each (λ a. occupied a 0 ∷ clock 3 ∷ []))
    ++ each 29 5 (on_each (λ a. occupied a 1 ∷ clock 9 ∷ []) ++ on_each (λ a. failed a 3 ∷ []))
    -- at least two tracks: any two, three, four, the last two of three; trains on one track, or
    -- on the only one, never count as two
    ++ rows 29 (on_each (λ a. occupied 3 2 ∷ occupied a 4 ∷ [])) (3 ∷ 3 ∷ 3 ∷ 2 ∷ [])
    ++ each 29 3 (aspects 4
    ((occupied 1 0 ∷ occupied 2 4 ∷ occupied 3 3 ∷ []) ∷ map (λ a. occupied a 4) (0 ∷ 1 ∷ 2 ∷ 3 ∷ []) ∷ []))
    ++ each 29 3 (aspects 3 ((occupied 1 0 ∷ occupied 2 4 ∷ []) ∷ []))
    ++ each 29 2 (aspects 1 ((occupied 0 0 ∷ occupied 0 2 ∷ occupied 0 4 ∷ []) ∷ []))
    ++ rows 29 (zones_of (short 4 0 (occupied 0 4 ∷ occupied 2 0 ∷ occupied 3 3 ∷ []))) (0 ∷ 1 ∷ 1 ∷ 0 ∷ 0 ∷ [])
    ++ rows 29 (digits (presence_of (short 4 0 (occupied 0 4 ∷ occupied 2 0 ∷ leaving 3)))) (1 ∷ 0 ∷ 1 ∷ 1 ∷ [])
    ++ rows 29 (digits (presence_of (short 4 0 (occupied 1 4 ∷ occupied 2 0 ∷ [])))) (0 ∷ 1 ∷ 1 ∷ 0 ∷ [])
    -- H30: the crossing of that track gives the mark: a train leaves on each of four; and no island of another track
    ++ each 30 0 (on_each leaving ++ on_each departing)
    ++ each 30 2 (aspects 4
    ((occupied 0 2 ∷ occupied 1 1 ∷ freed 0 2 ∷ []) ∷ (occupied 3 2 ∷ occupied 2 3 ∷ freed 3 2 ∷ []) ∷ []))
    ++ rows 30 (aspects 2 ((leaving 0 ++ (occupied 1 0 ∷ freed 0 1 ∷ []))
    ∷ (occupied 1 2 ∷ occupied 0 0 ∷ occupied 1 1 ∷ freed 1 2 ∷ freed 0 0 ∷ []) ∷ []))
    (1 ∷ 0 ∷ [])
    -- H31: H5 by side 1. The crossing is always approaching, beside a leaving warning island of either
    -- side. The mark is set once: the warning island of a long train stays approaching when its advance
    -- island frees, the crossing occupied.
    ++ each 31 72 (map shown
    ((occupied 0 2 ∷ occupied 0 0 ∷ occupied 0 1 ∷ freed 0 2 ∷ []) ∷ (leaving 0 ++ (occupied 0 2 ∷ [])) ∷ []))
    ++ each 31 72 (map shown ((occupied 0 2 ∷ occupied 0 3 ∷ freed 0 2 ∷ occupied 0 2 ∷ []) ∷ []))
    ++ each 31 72 (map shown ((occupied 0 4 ∷ occupied 0 3 ∷ occupied 0 2 ∷ freed 0 4 ∷ freed 0 2 ∷ []) ∷ []))
    -- whatever the detectors: of the crossing, of the advance island, of the leaving warning island
    ++ rows 31 (told_after 1 (occupied 0 2 ∷ failed 0 2 ∷ occupied 0 1 ∷ [])) (1 ∷ 1 ∷ 0 ∷ 0 ∷ [])
    ++ rows 31 (told_after 1 (occupied 0 2 ∷ occupied 0 0 ∷ failed 0 0 ∷ occupied 0 1 ∷ [])) (1 ∷ 0 ∷ 0 ∷ 0 ∷ [])
    ++ rows 31 (told_after 0 (leaving 0 ++ (failed 0 1 ∷ occupied 0 0 ∷ []))) (1 ∷ 1 ∷ 0 ∷ 0 ∷ [])
    -- H32: a detector that fails or is restored changes neither mark nor age; every occupied
    -- island's age grows, and no other
    ++ rows 32 (told_after 1 (leaving 0 ++ (clock 5 ∷ failed 0 1 ∷ []))) (1 ∷ 1 ∷ 1 ∷ 5 ∷ [])
    ++ rows 32 (told_after 1 (leaving 0 ++ (clock 5 ∷ failed 0 1 ∷ clock 2 ∷ restored 0 1 ∷ []))) (1 ∷ 1 ∷ 0 ∷ 7 ∷ [])
    ++ rows 32 (told_after 1 (failed 0 1 ∷ clock 5 ∷ []) ++ told_after 1 (clock 5 ∷ []))
    (0 ∷ 0 ∷ 1 ∷ 0 ∷ 0 ∷ 0 ∷ 0 ∷ 0 ∷ [])
    -- H33: a failed detector makes no island occupied or free, in zones, presence, condition or
    -- aspect (the fault unlatched by hand)
    ++ rows 33 (zones_of (run ours (c2 ours) (occupied 0 2 ∷ failed 0 2 ∷ failed 0 0 ∷ []))) (1 ∷ 1 ∷ 0 ∷ 1 ∷ 1 ∷ [])
    ++ rows 33 (digits (presence_of (run ours (c2 ours) (occupied 0 4 ∷ failed 0 4 ∷ failed 1 0 ∷ []))))
    (1 ∷ 0 ∷ 0 ∷ 0 ∷ [])
    ++ rows 33
    (map (λ reports.
    outputs ours (with_fault (run ours (c2 ours) (failed 0 3 ∷ failed 0 4 ∷ failed 1 0 ∷ reports)) false))
    ([] ∷ (occupied 0 4 ∷ []) ∷ (occupied 0 3 ∷ []) ∷ (occupied 0 4 ∷ clock 300 ∷ [])
    ∷ (occupied 0 4 ∷ occupied 1 0 ∷ []) ∷ []))
    (1 ∷ 34 ∷ 72 ∷ 260 ∷ 152 ∷ [])
    -- H34: any failed detector latches the fault, its island occupied or not; any occupied island or failed
    -- detector, of any track, bars normalising
    ++ each 34 0 (map (λ b. shown (failed 0 b ∷ [])) five_islands ++ (shown (occupied 0 4 ∷ failed 0 4 ∷ []) ∷ []))
    ++ each 34 7
    (map (λ r. answer_after (r ∷ []) normalised) (map (occupied 1) five_islands ++ map (failed 1) five_islands))
    ++ each 34 7 (map (λ r. answer_of (short 4 0 (r ∷ [])) normalised)
    (occupied 2 0 ∷ occupied 3 4 ∷ failed 2 0 ∷ failed 3 4 ∷ []))
    -- H35: a condition stands till the next of that head, 0 too; it is taken while the fault is latched, bars no
    -- normalise, and is no part of the aspect
    ++ rows 35 (let s : Station = run ours (c1 ours) (condition 0 256 ∷ condition 1 3 ∷ normalised ∷ []) in
    outputs ours s ∷ s.conditions) (1 ∷ 256 ∷ 3 ∷ [])
    ++ rows 35 (run ours (c2 ours) (condition 0 8 ∷ condition 1 5 ∷ condition 0 0 ∷ condition 1 2 ∷ [])).conditions
    (0 ∷ 2 ∷ [])
    -- H36: while the fault is latched the hold falls as ever, not on the tick that ends the condition; the
    -- tick that latches it lowers it too
    ++ rows 36 (map (λ n. (run ours (ours.make (chosen 2 7 3 5 4 9)) (occupied 0 4 ∷ occupied 1 0 ∷ clock n ∷ [])).hold)
    (7 ∷ 8 ∷ [])) (4 ∷ 3 ∷ [])
    ++ each 36 4 ((run ours (ours.make (chosen 2 3 7 2 6 9))
    (normalised ∷ occupied 0 1 ∷ occupied 1 3 ∷ clock 9 ∷ [])).hold ∷ [])
    -- H37: a refused report returns the old station: age and mark of an island occupied already; hold and fault;
    -- conditions; and all of one refused with 8
    ++ rows 37 (told_after 4 (occupied 0 4 ∷ clock 5 ∷ occupied 0 4 ∷ [])) (1 ∷ 0 ∷ 0 ∷ 5 ∷ [])
    ++ rows 37 (told_after 1 (leaving 0 ++ (clock 5 ∷ occupied 0 1 ∷ []))) (1 ∷ 1 ∷ 0 ∷ 5 ∷ [])
    ++ rows 37 ((run ours (c9 ours) (normalised ∷ [])).hold
    ∷ outputs ours (run ours (c1 ours) (occupied 0 4 ∷ normalised ∷ [])) ∷ []) (50 ∷ 0 ∷ [])
    ++ rows 37
    (run ours (c2 ours) (condition 0 8 ∷ condition 0 1040 ∷ condition 2 16 ∷ report 6 0 1 0 32 ∷ [])).conditions
    (8 ∷ 0 ∷ [])
    ++ each 37 0 (map (λ r. (station_after unheld r).hold) (occupied 1 0 ∷ freed 0 0 ∷ failed 1 1 ∷ normalised ∷ []))
    ++ rows 37 (settings_told (station_after five_tracks normalised).settings) (5 ∷ 300 ∷ 300 ∷ 300 ∷ 0 ∷ 600 ∷ [])
    ++ each 37 0 (digits (map (λ r. (station_after five_tracks r).fault) (failed 0 0 ∷ normalised ∷ [])))
    -- H38: any failed lamp puts out every lamp; each sounder by its own bit; a lamp and a sounder, both; first of all
    -- power, communication, two sounders
    ++ each 38 0 (map (head_outputs 31) (1 ∷ 2 ∷ 4 ∷ 8 ∷ [])) ++ each 38 480 (map (head_outputs 511) (1 ∷ 2 ∷ 4 ∷ 8 ∷ []))
    ++ rows 38 (map (head_outputs 511) (16 ∷ 32 ∷ 64 ∷ 128 ∷ 17 ∷ 34 ∷ 68 ∷ 136 ∷ []))
    (479 ∷ 447 ∷ 383 ∷ 255 ∷ 448 ∷ 416 ∷ 352 ∷ 224 ∷ [])
    ++ each 38 0 (map (head_outputs 511) (264 ∷ 520 ∷ 56 ∷ 96 ∷ 192 ∷ 1023 ∷ []))
    ++ each 38 511 (head_outputs 1023 0 ∷ map (head_outputs 511) (1024 ∷ 64512 ∷ []))
    ++ each 38 479 (map (head_outputs 511) (1040 ∷ 64528 ∷ []))
    -- H39: tracks beyond the station's number are neither read, by aspect, condition, zones,
    -- presence, normalise and the fault at T5,
    ++ rows 39
    (map (λ reports. ours.aspect (run ours overfull reports)) ([] ∷ (occupied 0 4 ∷ []) ∷ (clock 1 ∷ []) ∷ []))
    (0 ∷ 1 ∷ 0 ∷ [])
    ++ each 39 4 (ours.aspect (with_tracks (short 2 0 [])
    (short 3 0 (occupied 0 4 ∷ occupied 1 4 ∷ clock 3 ∷ occupied 2 4 ∷ [])).tracks) ∷ [])
    ++ each 39 1 (zones_of overfull) ++ each 39 0 (answer_of overfull normalised ∷ digits (presence_of overfull))
    -- nor changed, by the clock or a normalise
    ++ rows 39 (told (run ours overfull (clock 1 ∷ [])) 1 3 ++ told (run ours overfull (normalised ∷ [])) 1 2)
    (1 ∷ 0 ∷ 0 ∷ 9 ∷ 1 ∷ 0 ∷ 1 ∷ 0 ∷ [])
    -- H40: a free island is free whatever mark and age it is handed in with; occupied, its age becomes 0
    ++ each 40 1 (map (λ k. outputs ours (station_after (handed false true k) (clock 1))) five_islands)
    ++ each 40 34 (map (λ k. outputs ours (station_after (handed false true k) (occupied 1 4))) five_islands)
    ++ rows 40 (told (station_after (handed false true 1) (occupied 0 0)) 0 0) (1 ∷ 0 ∷ 0 ∷ 0 ∷ [])
    ++ rows 40 (told (station_after (handed false true 1) (occupied 0 1)) 0 1) (1 ∷ 0 ∷ 0 ∷ 0 ∷ [])
    -- and a crossing is occupied though it is handed in as leaving
    ++ rows 40 (told (station_after (handed true true 2) (occupied 0 1)) 0 1) (1 ∷ 1 ∷ 0 ∷ 0 ∷ [])
    -- H41: a warning island beyond T5 latches the fault in a tick, and by no other report; the
    -- fault, not the age, gives aspect 5
    ++ rows 41 (outputs ours (handed true false 3) ∷ []) (260 ∷ [])
    ++ rows 41
    (map (λ r. outputs ours (station_after (handed true false 3) r)) (condition 0 1 ∷ occupied 0 0 ∷ clock 1 ∷ []))
    (260 ∷ 34 ∷ 0 ∷ [])
    -- H42: the hold is set to T4 where more is handed in, 0 too; it falls by one from there; and
    -- it is set after a tick, not before
    ++ each 42 50 (map (λ r. (station_after (with_hold unheld 70) r).hold) (condition 0 8 ∷ clock 1 ∷ []))
    ++ rows 42 ((station_after (with_hold (c7 ours) 70) (condition 0 8)).hold
    ∷ (station_after (with_hold (c9 ours) 70) (clock 1)).hold ∷ []) (0 ∷ 69 ∷ [])
    ++ each 42 0
    ((station_after (with_hold (short 2 2 (occupied 0 4 ∷ occupied 1 4 ∷ clock 2 ∷ [])) 0) (clock 1)).hold ∷ [])
    -- H43: a fresh station has no hold left and both conditions 0; a refused making is of 1 track with T1 to T4 equal
    -- to 1 and T5 to 2, its fault latched
    ++ each 43 0 ((ours.make (settings 50)).hold ∷ (ours.make (settings 50)).conditions)
    ++ rows 43 (settings_told (ours.make five_tracks.settings).settings
    ++ (ours.aspect (ours.make five_tracks.settings) ∷ [])) (1 ∷ 1 ∷ 1 ∷ 1 ∷ 1 ∷ 2 ∷ 5 ∷ [])
    -- H44: both bytes of the value are read; fields far beyond their limits; 2 before 3, 5 and 7; the last track of
    -- 4, and the one after of 1, 3 and 4
    ++ rows 44 (map (λ kind. answer_of (c2 ours) (report kind 0 0 0 256)) (1 ∷ 2 ∷ 3 ∷ 4 ∷ 5 ∷ 6 ∷ 7 ∷ []))
    (2 ∷ 2 ∷ 0 ∷ 2 ∷ 2 ∷ 0 ∷ 2 ∷ [])
    ++ rows 44
    (map (answer_of (c2 ours)) (occupied 0 255 ∷ condition 255 8 ∷ condition 0 65535 ∷ report 1 0 3 128 0 ∷ []))
    (4 ∷ 5 ∷ 2 ∷ 2 ∷ [])
    ++ each 44 2 (map (answer_of (c3 ours))
    (report 1 2 3 0 1 ∷ condition 2 1024 ∷ report 6 2 1 0 8 ∷ report 7 1 0 0 0 ∷ report 7 0 0 1 0 ∷ []))
    ++ each 44 3 (map (λ n. answer_of (short n 0 []) (occupied n 0)) (1 ∷ 3 ∷ 4 ∷ []))
    ++ each 44 0 (answer_of (short 4 0 []) (failed 3 4) ∷ [])
    -- H45: a report is taken, or refused by its number: the answer and the station after it, side by side
    ++ rows 45 ((taken (c3 ours) (occupied 0 4)).answer ∷ ours.aspect (taken (c3 ours) (occupied 0 3)).station ∷ [])
    (6 ∷ 2 ∷ [])
