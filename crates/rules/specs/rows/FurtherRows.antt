-- Rows H46 to H71, of our own: each but H64, H70 and H71 is here because a wrong rule had passed every row before it.
-- What is due is read off the sentence that stands above each.
use Rattle.std.specs.Prelude.{ℕ, true, false, List, [], ◌∷◌, ◌++◌, map, replicate}
use Rattle.rules.specs.Answers.{after_answer, answer_of, station_after, taken}
use Rattle.rules.specs.Aspect.{presence_of}
use Rattle.rules.specs.Heads.{heads_of}
use Rattle.rules.specs.Layout.{entry_of}
use Rattle.rules.specs.OfEachKind.{clock, condition, failed, freed, normalised, occupied, report, restored}
use Rattle.rules.specs.Printer.{fields_of, zones_of}
use Rattle.rules.specs.Register.{read_of, start_answer}
use Rattle.rules.specs.Reports.{with_island}
use Rattle.rules.specs.Siting.{advance_sited, rounded_up, warning_sited}
use Rattle.rules.specs.Station.{track_at, with_fault, with_hold, with_track, with_tracks}
use Rattle.rules.specs.declared.Report.{Report}
use Rattle.rules.specs.declared.Station.{Station}
use Rattle.rules.specs.rows.HouseRows.{departing, leaving, shown, train_gone, unheld}
use Rattle.rules.specs.rows.Machine.{ours}
use Rattle.rules.specs.rows.Refusals.{answer_after, chosen, five_tracks, making, short_t5}
use Rattle.rules.specs.rows.RegisterRefusals.{all, appending_of, other, sound, too_many}
use Rattle.rules.specs.rows.RegisterRows.{said, station_told, worked_header}
use Rattle.rules.specs.rows.Row.{Row, digits, each, rows, together}
use Rattle.rules.specs.rows.StationRows.{aspects, five_islands, handed, told, told_after}
use Rattle.rules.specs.rows.Table.{c2, c4, c7, c9, outputs, run, seconds, settings}

-- C2 with a detector failed, and no fault all the same: no run reaches it
abbrev pub failed_unlatched : Station
failed_unlatched = with_fault (run ours (c2 ours) (occupied 0 4 ∷ failed 0 4 ∷ [])) false

-- C2 with the crossing of track 0 leaving, which no run reaches, and just occupied
abbrev pub leaving_crossing : Station
leaving_crossing =
    with_track (c2 ours) 0
    (with_island (track_at (c2 ours) 0) 2 (record { occupied = true; leaving = true; failed = false; age = 0 }))

-- the aspect of a fresh station after these reports, with T4 = 50
abbrev pub latched : List Report → ℕ
latched reports = ours.aspect (run ours (ours.make (settings 50)) reports)

-- the outputs after each event of a matrix, and the next event goes on from there
abbrev pub outputs_after : Station → List (List Report) → List ℕ
outputs_after s [] = []
outputs_after s (event ∷ events) = outputs ours (run ours s event) ∷ outputs_after (run ours s event) events

-- Document 000, matrix N10.1: train 1 comes from side 2 on track 0, and leaves by a siding from its warning island;
-- train 2 passes from side 1 to side 2 on track 1. The events are those of the matrix, in its order.
abbrev pub n10_1 : List (List Report)
n10_1 =
    []
    ∷ (occupied 0 4 ∷ [])
    ∷ (occupied 1 0 ∷ [])
    ∷ (occupied 0 3 ∷ freed 0 4 ∷ [])
    ∷ (occupied 1 1 ∷ freed 1 0 ∷ [])
    ∷ (freed 0 3 ∷ [])
    ∷ (occupied 1 2 ∷ freed 1 1 ∷ occupied 1 3 ∷ freed 1 2 ∷ [])
    ∷ (occupied 1 4 ∷ freed 1 3 ∷ [])
    ∷ []

-- a register: a normalise, and reports refused by 1 to 5
abbrev pub refused_to_five : List ℕ
refused_to_five =
    worked_header
    ++ (7 ∷ 0 ∷ 0 ∷ 0 ∷ 0 ∷ 0 ∷ 0 ∷ 0 ∷ [])
    ++ (8 ∷ 0 ∷ 0 ∷ 0 ∷ 0 ∷ 0 ∷ 1 ∷ 0 ∷ [])
    ++ (3 ∷ 0 ∷ 0 ∷ 0 ∷ 0 ∷ 0 ∷ 2 ∷ 0 ∷ [])
    ++ (1 ∷ 2 ∷ 0 ∷ 0 ∷ 0 ∷ 0 ∷ 3 ∷ 0 ∷ [])
    ++ (1 ∷ 0 ∷ 5 ∷ 0 ∷ 0 ∷ 0 ∷ 4 ∷ 0 ∷ [])
    ++ (6 ∷ 2 ∷ 0 ∷ 0 ∷ 8 ∷ 0 ∷ 5 ∷ 0 ∷ [])

-- fourteen reports of no kind to a fresh station, and one whose answer is wrong
abbrev pub wrong_fifteenth : List ℕ
wrong_fifteenth =
    worked_header ++ together (replicate 14 (8 ∷ 0 ∷ 0 ∷ 0 ∷ 0 ∷ 0 ∷ 1 ∷ 5 ∷ [])) ++ (8 ∷ 0 ∷ 0 ∷ 0 ∷ 0 ∷ 0 ∷ 2 ∷ 5 ∷ [])

abbrev pub further_rows : List Row
further_rows =
    -- H46: the greatest-risk condition asks for a fresh approaching island: two trains that leave are
    -- none, nor one held and one that leaves
    rows 46 (shown (leaving 0 ++ leaving 1) ∷ shown (occupied 0 4 ∷ clock 300 ∷ leaving 1) ∷ []) (1 ∷ 260 ∷ [])
    -- a fresh island of any zone is one, and a track counts by a held island of any zone, though it is approaching;
    -- a leaving crossing does not count
    ++ each 46 3 (aspects 2 (map (λ k. occupied 0 4 ∷ clock 5 ∷ occupied 1 k ∷ []) five_islands
    ++ map (λ k. occupied 0 k ∷ clock 5 ∷ occupied 1 4 ∷ []) five_islands))
    ++ each 46 1 (ours.aspect (station_after leaving_crossing (occupied 1 4)) ∷ [])
    -- H47: the fault comes before the condition, before a hold that is left, and before every fresh or held island;
    ++ each 47 5 (map latched ((occupied 0 4 ∷ occupied 1 4 ∷ []) ∷ train_gone ∷ (occupied 0 3 ∷ [])
    ∷ (occupied 0 2 ∷ []) ∷ (occupied 0 4 ∷ clock 300 ∷ []) ∷ []))
    -- a hold that is left before a fresh warning or crossing island, whatever T4 is
    ++ each 47 3 (map (λ s. ours.aspect s)
    (run ours (c9 ours) (occupied 0 3 ∷ []) ∷ run ours (c9 ours) (occupied 0 2 ∷ []) ∷ with_hold (c4 ours) 5 ∷ []))
    -- H48: of a station refused with 8 the aspect is 5 and the heads show 0, whatever else it would show
    ++ each 48 5 (ours.aspect (with_tracks (with_hold five_tracks 5) (c7 ours).tracks)
    ∷ ours.aspect (with_tracks five_tracks (c4 ours).tracks) ∷ [])
    ++ each 48 0 (heads_of (with_tracks (with_hold five_tracks 5) (c7 ours).tracks))
    -- and its zones and tracks are shown as occupied, whichever setting is outside (house)
    ++ rows 48 (zones_of short_t5 ++ digits (presence_of short_t5)) (0 ∷ 0 ∷ 0 ∷ 0 ∷ 0 ∷ 1 ∷ 1 ∷ 1 ∷ 1 ∷ [])
    -- H49: a warning island alone latches the fault by its age, and does so though the greatest-risk condition is true
    ++ rows 49 (aspects 1 (map (λ k. occupied 0 k ∷ clock 9 ∷ []) five_islands)) (4 ∷ 5 ∷ 4 ∷ 5 ∷ 4 ∷ [])
    ++ rows 49 (aspects 2
    ((occupied 0 3 ∷ clock 8 ∷ occupied 1 4 ∷ []) ∷ (occupied 0 3 ∷ clock 8 ∷ occupied 1 4 ∷ clock 1 ∷ []) ∷ []))
    (3 ∷ 5 ∷ [])
    -- H50: an advance island is leaving where the warning island of its side is, though the crossing is still occupied;
    ++ rows 50 (told_after 0 (occupied 0 2 ∷ occupied 0 1 ∷ occupied 0 0 ∷ [])
    ++ told_after 4 (occupied 0 2 ∷ occupied 0 3 ∷ occupied 0 4 ∷ [])) (1 ∷ 1 ∷ 0 ∷ 0 ∷ 1 ∷ 1 ∷ 0 ∷ 0 ∷ [])
    -- beside one that is approaching, the crossing free or occupied, or that is free and handed
    -- in as leaving, it is approaching
    ++ rows 50 (told_after 0 (occupied 0 1 ∷ occupied 0 0 ∷ []) ++ told_after 4 (occupied 0 3 ∷ occupied 0 4 ∷ []))
    (1 ∷ 0 ∷ 0 ∷ 0 ∷ 1 ∷ 0 ∷ 0 ∷ 0 ∷ [])
    ++ rows 50 (told_after 0 (occupied 0 1 ∷ occupied 0 2 ∷ occupied 0 0 ∷ [])
    ++ told_after 4 (occupied 0 3 ∷ occupied 0 2 ∷ occupied 0 4 ∷ [])) (1 ∷ 0 ∷ 0 ∷ 0 ∷ 1 ∷ 0 ∷ 0 ∷ 0 ∷ [])
    ++ rows 50 (told (station_after (handed false true 3) (occupied 0 4)) 0 4) (1 ∷ 0 ∷ 0 ∷ 0 ∷ [])
    -- whatever the ages are
    ++ rows 50 (told_after 0 (occupied 0 2 ∷ occupied 0 1 ∷ clock 1 ∷ occupied 0 0 ∷ [])
    ++ told_after 3 (occupied 0 2 ∷ occupied 0 4 ∷ clock 1 ∷ occupied 0 3 ∷ [])) (1 ∷ 1 ∷ 0 ∷ 0 ∷ 1 ∷ 0 ∷ 0 ∷ 0 ∷ [])
    -- H51: a warning island of side 2 is leaving beside an advance island that is; an approaching one of the other
    -- side is not asked, on either side;
    ++ rows 51 (told_after 3
    (occupied 0 2 ∷ occupied 0 3 ∷ freed 0 2 ∷ occupied 0 4 ∷ freed 0 3 ∷ occupied 0 2 ∷ occupied 0 3 ∷ []))
    (1 ∷ 1 ∷ 0 ∷ 0 ∷ [])
    ++ rows 51 (told_after 3 (occupied 0 2 ∷ occupied 0 0 ∷ occupied 0 3 ∷ [])
    ++ told_after 1 (occupied 0 2 ∷ occupied 0 4 ∷ occupied 0 1 ∷ [])) (1 ∷ 1 ∷ 0 ∷ 0 ∷ 1 ∷ 1 ∷ 0 ∷ 0 ∷ [])
    -- with the crossing free it is approaching, though the advance island beside it is leaving
    ++ rows 51 (told_after 1 (departing 0 ++ (occupied 0 1 ∷ []))) (1 ∷ 0 ∷ 0 ∷ 0 ∷ [])
    -- and the crossing is approaching between two warning islands that are leaving
    ++ rows 51 (told_after 2 (occupied 0 2 ∷ occupied 0 1 ∷ occupied 0 3 ∷ freed 0 2 ∷ occupied 0 2 ∷ []))
    (1 ∷ 0 ∷ 0 ∷ 0 ∷ [])
    -- H52: a free island keeps the mark and the age that it is handed in with: in a tick, in a normalise,
    -- and where its detector fails (house)
    ++ rows 52
    (together (map (λ r. told (station_after (handed false true 1) r) 0 1) (clock 1 ∷ normalised ∷ failed 0 1 ∷ [])))
    (0 ∷ 1 ∷ 0 ∷ 700 ∷ 0 ∷ 1 ∷ 0 ∷ 700 ∷ 0 ∷ 1 ∷ 1 ∷ 700 ∷ [])
    -- H53: where a detector has failed and no fault is latched, no report latches it but another failure, or an age
    ++ rows 53 (map (λ r. ours.aspect (station_after failed_unlatched r))
    (freed 0 4 ∷ occupied 0 0 ∷ clock 1 ∷ condition 0 0 ∷ failed 0 0 ∷ [])) (0 ∷ 1 ∷ 1 ∷ 1 ∷ 5 ∷ [])
    -- and a restored detector is taken, though no fault is latched
    ++ each 53 0 (answer_of failed_unlatched (restored 0 4) ∷ [])
    -- H54: a clock of a thousand ticks; and after an answer of 0 a report of no kind does nothing
    ++ rows 54 (told_after 4 (occupied 0 4 ∷ clock 1000 ∷ [])) (1 ∷ 0 ∷ 0 ∷ 1000 ∷ [])
    ++ rows 54 (together (map (λ kind. station_told (after_answer (c9 ours) (report kind 0 0 0 0) 0)) (0 ∷ 8 ∷ [])))
    (station_told (c9 ours) ++ station_told (c9 ours))
    -- H55: a normalise is refused with 7, and by no other number, whichever island is occupied or failed, the first of
    -- the first track too, leaving or not;
    ++ each 55 7 (map (λ l. answer_after l normalised) (map (λ k. occupied 0 k ∷ []) five_islands
    ++ map (λ k. failed 0 k ∷ []) five_islands ++ (departing 0 ∷ leaving 0 ∷ [])))
    -- clock and head reports are taken whatever is occupied or failed
    ++ each 55 0 (map (answer_after (occupied 0 0 ∷ failed 0 0 ∷ occupied 1 0 ∷ failed 1 0 ∷ []))
    (clock 1 ∷ condition 0 8 ∷ condition 1 8 ∷ []))
    -- H56: a report refused by 1 to 5 leaves the hold as it is, though the greatest-risk condition is true
    ++ each 56 0 (map (λ r. (station_after unheld r).hold)
    (report 8 0 0 0 0 ∷ clock 0 ∷ occupied 2 0 ∷ occupied 0 5 ∷ condition 2 8 ∷ []))
    -- H57: T1, T3 and T4 may be above T5, and T1 and T3 below T2; no timer is above 65535
    ++ each 57 0 (map making (chosen 2 700 300 300 0 600 ∷ chosen 2 300 300 700 0 600 ∷ chosen 2 300 300 300 700 600
    ∷ chosen 2 1 300 1 0 301 ∷ []))
    ++ each 57 8 (map making (chosen 2 65536 300 300 0 600 ∷ chosen 2 300 300 65536 0 600
    ∷ chosen 2 300 300 300 65536 600 ∷ chosen 2 300 300 300 0 65536 ∷ []))
    -- H58: rounded up wherever something is left over, be it one; not where nothing is. Of a decimetre at least two
    -- eighteenths are left over, and at most sixteen
    ++ rows 58 (map (λ n. rounded_up n 18) (0 ∷ 1 ∷ 17 ∷ 18 ∷ 19 ∷ [])) (0 ∷ 1 ∷ 1 ∷ 1 ∷ 2 ∷ [])
    ++ rows 58 (map (λ s. s.distance.0)
    (advance_sited 1 (seconds 1) ∷ advance_sited 1 (seconds 2) ∷ advance_sited 18 (seconds 0) ∷ []))
    (87 ∷ 89 ∷ 1500 ∷ [])
    ++ rows 58 (map (λ s. s.distance.0) (warning_sited 7 1 ∷ warning_sited 2 1 ∷ warning_sited 18 1 ∷ []))
    (137 ∷ 39 ∷ 350 ∷ [])
    -- H59: a buffer that is longer than any register is started (house)
    ++ each 59 0 (start_answer (chosen 2 300 300 300 0 600) too_many ∷ [])
    -- H60: an entry's answer and aspect are compared whole, not by their lowest bits
    ++ rows 60 (said (read_of (other 30 (16 ∷ []))) ++ said (read_of (other 31 (17 ∷ [])))
    ++ said (read_of (other 31 (129 ∷ [])))) (13 ∷ 2 ∷ 0 ∷ 13 ∷ 2 ∷ 0 ∷ 13 ∷ 2 ∷ 0 ∷ [])
    -- H61: a head's condition stands through every other report, and bars no normalise, fault or no fault
    ++ rows 61 (run ours (c2 ours) (condition 0 8 ∷ condition 1 5 ∷ clock 1 ∷ occupied 0 4 ∷ failed 0 4 ∷ restored 0 4
    ∷ freed 0 4 ∷ normalised ∷ [])).conditions (8 ∷ 5 ∷ [])
    ++ each 61 0 (answer_after (condition 0 8 ∷ condition 1 5 ∷ []) normalised ∷ [])
    -- H62: the hold is set after each single tick, also where the condition becomes true and
    -- false again within one clock report
    ++ each 62 3 ((run ours (ours.make (chosen 2 7 3 5 4 9))
    (normalised ∷ departing 0 ++ (clock 3 ∷ occupied 1 4 ∷ clock 8 ∷ []))).hold ∷ [])
    -- H63: a track with a leaving warning island counts, and one with a leaving advance island
    -- does not until that is held
    ++ rows 63 (together (map (λ l. digits (presence_of (run ours (c2 ours) l)))
    (leaving 0 ∷ departing 0 ∷ (departing 0 ++ (clock 300 ∷ [])) ∷ [])))
    (1 ∷ 0 ∷ 0 ∷ 0 ∷ 0 ∷ 0 ∷ 0 ∷ 0 ∷ 1 ∷ 0 ∷ 0 ∷ 0 ∷ [])
    -- H64: N10.1 keeps R+ after train 1 has gone to the siding, though its own note says the board is off. The note
    -- decides: 72 in its sixth event, not 152
    ++ rows 64 (outputs_after (c2 ours) n10_1) (1 ∷ 34 ∷ 152 ∷ 152 ∷ 152 ∷ 72 ∷ 1 ∷ 1 ∷ [])
    -- H65: 9: wrong mark: each of its letters, one less and one more
    ++ each 65 9 (together (map all (other 0 (66 ∷ []) ∷ other 0 (68 ∷ []) ∷ other 1 (68 ∷ []) ∷ other 1 (70 ∷ [])
    ∷ other 2 (64 ∷ []) ∷ other 2 (66 ∷ []) ∷ [])))
    -- H66: 8: in appending, header settings not the station's: each of the six, the header's one less
    ++ each 66 8
    (map (appending_of sound) (chosen 3 300 300 300 0 600 ∷ chosen 2 301 300 300 0 600 ∷ chosen 2 300 301 300 0 600
    ∷ chosen 2 300 300 301 0 600 ∷ chosen 2 300 300 300 1 600 ∷ chosen 2 300 300 300 0 601 ∷ []))
    -- H67: 16 bits, low byte first: 255 and 65535
    ++ rows 67 (entry_of (clock 255) 0 0 ++ entry_of (clock 65535) 0 0)
    (3 ∷ 0 ∷ 0 ∷ 0 ∷ 255 ∷ 0 ∷ 0 ∷ 0 ∷ 3 ∷ 0 ∷ 0 ∷ 0 ∷ 255 ∷ 255 ∷ 0 ∷ 0 ∷ [])
    -- H68: a report refused by 1 to 5 has its number where it is taken, in its entry, and on its row of the sheet
    ++ rows 68 (map (λ r. (taken (c2 ours) r).answer)
    (report 8 0 0 0 0 ∷ clock 0 ∷ occupied 2 0 ∷ occupied 0 5 ∷ condition 2 8 ∷ [])) (1 ∷ 2 ∷ 3 ∷ 4 ∷ 5 ∷ [])
    ++ rows 68 (said (read_of refused_to_five)) (0 ∷ 0 ∷ 6 ∷ [])
    ++ rows 68 (map (λ n. (fields_of refused_to_five n).answer) (1 ∷ 2 ∷ 3 ∷ 4 ∷ 5 ∷ [])) (1 ∷ 2 ∷ 3 ∷ 4 ∷ 5 ∷ [])
    -- H69: the first entry that is wrong is named, the fifteenth too
    ++ rows 69 (said (read_of wrong_fifteenth)) (13 ∷ 15 ∷ 0 ∷ [])
    -- H70: our rounding to metres costs up to nine of them at each detector: ten times the rounded metres are 140 and
    -- 340
    ++ rows 70 (map (λ s. s.distance.0) (advance_sited 1 (seconds 17) ∷ warning_sited 17 1 ∷ [])) (131 ∷ 331 ∷ [])
    -- H71: rounded up once: 30 and 60 seconds apart are 12,917 + 25,834 = 38,751, and four tracks apart 4 · 20 = 80
    ++ rows 71 (map (λ s. s.distance.0) (advance_sited 155 (seconds 60) ∷ warning_sited 1 4 ∷ [])) (38750 ∷ 78 ∷ [])
