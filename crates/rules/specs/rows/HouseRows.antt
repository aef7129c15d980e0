-- Rows of our own, for sentences of document 01 that C1 to C14 would not catch if they were wrong. What is due is read
-- off the sentence that stands above each.
use Rattle.std.specs.Prelude.{ℕ, Bool, true, false, List, [], ◌∷◌, ◌++◌, map}
use Rattle.rules.specs.Answers.{station_after}
use Rattle.rules.specs.Aspect.{presence_of}
use Rattle.rules.specs.Heads.{head_outputs, heads_of}
use Rattle.rules.specs.OfEachKind.{clock, condition, failed, freed, normalised, occupied, restored}
use Rattle.rules.specs.Outputs.{outputs_of}
use Rattle.rules.specs.Printer.{zones_of}
use Rattle.rules.specs.Reports.{older, with_island}
use Rattle.rules.specs.Station.{island_at, track_at, with_fault, with_hold, with_track}
use Rattle.rules.specs.declared.Island.{Island}
use Rattle.rules.specs.declared.Report.{Report}
use Rattle.rules.specs.declared.Station.{Station}
use Rattle.rules.specs.rows.Machine.{ours}
use Rattle.rules.specs.rows.Refusals.{answer_after, five_tracks}
use Rattle.rules.specs.rows.Row.{Row, digits, row, rows}
use Rattle.rules.specs.rows.Table.{c1, c2, c3, c4, c7, c9, outputs, run, settings}

-- ours after these reports, from a normalised station; or from one of another T4
abbrev pub shown : List Report → ℕ
shown reports = outputs ours (run ours (c2 ours) reports)

abbrev pub shown_with : ℕ → List Report → ℕ
shown_with t4 reports = outputs ours (run ours (ours.make (settings t4)) (normalised ∷ reports))

-- a train that leaves by side 1, as far as its warning island
abbrev pub leaving : ℕ → List Report
leaving track = occupied track 2 ∷ occupied track 1 ∷ freed track 2 ∷ []

-- and as far as its advance island
abbrev pub departing : ℕ → List Report
departing track = leaving track ++ (occupied track 0 ∷ freed track 1 ∷ [])

-- one island occupied for n ticks, with timers 100, 200 and 300
abbrev pub shown_aged : ℕ → ℕ → ℕ
shown_aged island n =
    outputs ours (run ours (ours.make (record { tracks = 2; t1 = 100; t2 = 200; t3 = 300; t4 = 0; t5 = 600 }))
    (normalised ∷ occupied 0 island ∷ clock n ∷ []))

-- island 1 of track 0: whether it is occupied, whether it is leaving, and its age
abbrev pub seen : List Report → List ℕ
seen reports =
    let i : Island = island_at (track_at (run ours (c2 ours) reports) 0) 1 in
    digits (i.occupied ∷ i.leaving ∷ []) ++ (i.age ∷ [])

-- two trains, a detector failed, T4 = 50, and no hold left: no run reaches this
abbrev pub unheld : Station
unheld =
    with_hold
    (run ours (ours.make (settings 50)) (normalised ∷ occupied 0 4 ∷ occupied 1 4 ∷ occupied 1 0 ∷ failed 1 1 ∷ [])) 0

-- two trains, one of which is gone, with T4 = 50: n ticks later, the hold that is left and the
-- age of the island that is occupied
abbrev pub train_gone : List Report
train_gone = occupied 0 4 ∷ occupied 1 0 ∷ freed 1 0 ∷ []

abbrev pub hold_and_age : ℕ → List Report → List ℕ
hold_and_age n reports =
    let s : Station = run ours (ours.make (settings 50)) (reports ++ (clock n ∷ [])) in
    s.hold ∷ (island_at (track_at s 0) 4).age ∷ []

-- an island of track 0 that has been occupied for so long, its detector failed or not, one tick later: no run of a
-- row's length reaches such an age, and none at all a failed detector with the fault not latched
abbrev pub shown_old : Bool → ℕ → ℕ → ℕ
shown_old failed island age =
    let s : Station =
    run ours (ours.make (record { tracks = 1; t1 = 65535; t2 = 65534; t3 = 65535; t4 = 0; t5 = 65535 }))
    (normalised ∷ []) in
    let old : Island = record { occupied = true; leaving = false; failed = failed; age = age } in
    outputs ours (run ours (with_track s 0 (with_island (track_at s 0) island old)) (clock 1 ∷ []))

abbrev pub house_rows : List Row
house_rows =
    -- H1: lowering the hold on the tick that ends the condition, T4 = 1 would hold nothing. Both islands are held at
    -- tick 300; the hold is gone at 301.
    row 1 (shown_with 1 (occupied 0 4 ∷ occupied 1 4 ∷ clock 299 ∷ [])) 152
    ∷ row 1 (shown_with 1 (occupied 0 4 ∷ occupied 1 4 ∷ clock 300 ∷ [])) 152
    ∷ row 1 (shown_with 1 (occupied 0 4 ∷ occupied 1 4 ∷ clock 301 ∷ [])) 260
    -- H2: a held island on one track does not hide a fresh leaving warning island from the count
    ∷ row 2 (shown (occupied 0 4 ∷ clock 300 ∷ leaving 1 ++ (occupied 0 3 ∷ []))) 152
    -- H3: two trains on one track never count as two
    ∷ row 3 (shown (occupied 0 0 ∷ occupied 0 4 ∷ [])) 34
    -- H4: the same train by the other side: its warning and advance islands of side 2 are leaving,
    ∷ row 4
    (shown (occupied 0 0 ∷ occupied 0 1 ∷ freed 0 0 ∷ occupied 0 2 ∷ occupied 0 3 ∷ freed 0 1 ∷ freed 0 2 ∷ [])) 1
    ∷ row 4 (shown (occupied 0 2 ∷ occupied 0 3 ∷ freed 0 2 ∷ occupied 0 4 ∷ freed 0 3 ∷ [])) 1
    -- and held after their timers like any other
    ∷ row 4 (shown (occupied 0 2 ∷ occupied 0 3 ∷ freed 0 2 ∷ clock 300 ∷ [])) 260
    -- H5: a warning island is approaching where the advance island of the same side is occupied and approaching, though
    -- the crossing is occupied; the other side's advance island is not asked
    ∷ row 5 (shown (occupied 0 2 ∷ occupied 0 4 ∷ occupied 0 3 ∷ freed 0 2 ∷ [])) 72
    ∷ row 5 (shown (occupied 0 2 ∷ occupied 0 4 ∷ occupied 0 1 ∷ freed 0 2 ∷ [])) 34
    -- and it is leaving where that advance island is occupied but leaving
    ∷ row 5 (shown (departing 0 ++ (occupied 0 2 ∷ occupied 0 1 ∷ freed 0 2 ∷ []))) 1
    -- with the crossing free it is approaching; an advance island beside a warning island that
    -- is not leaving is approaching too
    ∷ row 5 (shown (occupied 0 3 ∷ [])) 72
    ∷ row 5 (shown (occupied 0 3 ∷ occupied 0 4 ∷ freed 0 3 ∷ [])) 34
    -- H6: a failed detector latches the fault; restoring does not unlatch it; normalise does
    ∷ row 6 (shown (failed 1 0 ∷ [])) 0
    ∷ row 6 (shown (failed 1 0 ∷ restored 1 0 ∷ [])) 0
    ∷ row 6 (shown (failed 1 0 ∷ restored 1 0 ∷ normalised ∷ [])) 1
    -- H7: reports of trains are taken while the fault is latched
    ∷ row 7 (ours.answer (c1 ours) (occupied 0 4)) 0
    -- H8: normalise sets the hold to 0
    ∷ row 8 (outputs ours (run ours (c9 ours) (freed 0 4 ∷ []))) 152
    ∷ row 8 (outputs ours (run ours (c9 ours) (freed 0 4 ∷ normalised ∷ []))) 1
    -- H9: n ticks are n single ticks, in one report or in several
    ∷ row 9 (outputs ours (run ours (c9 ours) (clock 20 ∷ clock 29 ∷ []))) 152
    ∷ row 9 (outputs ours (run ours (c9 ours) (clock 20 ∷ clock 30 ∷ []))) 34
    -- H10: a leaving warning island latches the fault too
    ∷ row 10 (shown (leaving 0 ++ (clock 599 ∷ []))) 260
    ∷ row 10 (shown (leaving 0 ++ (clock 600 ∷ []))) 0
    -- H11: an age stops at 65535
    ∷ row 11 (older (record { occupied = true; leaving = true; failed = true; age = 65534 })).age 65535
    ∷ row 11 (older (record { occupied = true; leaving = true; failed = true; age = 65535 })).age 65535
    ∷
    -- H12: T1 belongs to the advance islands, T2 to warning, T3 to the crossing
    rows 12 (map (shown_aged 4) (99 ∷ 100 ∷ [])) (34 ∷ 260 ∷ [])
    ++ rows 12 (map (shown_aged 3) (199 ∷ 200 ∷ [])) (72 ∷ 260 ∷ [])
    ++ rows 12 (map (shown_aged 2) (299 ∷ 300 ∷ [])) (72 ∷ 260 ∷ [])
    -- H13: a held island counts, though it is leaving. Track 0's becomes held at tick 300, when track 1's is fresh: the
    -- condition becomes true on a tick, which sets the hold, so freeing the held island leaves the aspect.
    ++ rows 13 (map (λ n. shown_with 50 (departing 0 ++ (clock 100 ∷ occupied 1 4 ∷ clock n ∷ []))) (199 ∷ 200 ∷ []))
    (34 ∷ 152 ∷ [])
    ++ rows 13 (shown_with 50 (departing 0 ++ (clock 100 ∷ occupied 1 4 ∷ clock 200 ∷ freed 0 0 ∷ [])) ∷ []) (152 ∷ [])
    -- H14: after every accepted report the hold is set to T4 if the greatest-risk condition is then
    -- true, on a station handed in with less
    ++ rows 14 (map (λ r. (station_after unheld r).hold) (freed 1 0 ∷ failed 1 0 ∷ restored 1 1 ∷ condition 0 8 ∷ []))
    (50 ∷ 50 ∷ 50 ∷ 50 ∷ [])
    -- H15: a detector stays failed while its island is occupied and freed, and an island occupied while
    -- its detector fails and is restored
    ++ rows 15
    (answer_after (failed 0 4 ∷ occupied 0 4 ∷ freed 0 4 ∷ []) normalised
    ∷ answer_after (occupied 0 4 ∷ failed 0 4 ∷ freed 0 4 ∷ []) normalised
    ∷ answer_after (occupied 0 4 ∷ failed 0 4 ∷ []) (occupied 0 4)
    ∷ answer_after (occupied 0 4 ∷ failed 0 4 ∷ restored 0 4 ∷ []) (occupied 0 4)
    ∷ [])
    (7 ∷ 7 ∷ 6 ∷ 6 ∷ [])
    -- H16: a free island has no mark and age 0; occupied, its age becomes 0
    ++ rows 16 (seen (leaving 0 ++ (clock 5 ∷ [])) ++ seen (leaving 0 ++ (clock 5 ∷ freed 0 1 ∷ [])))
    (1 ∷ 1 ∷ 5 ∷ 0 ∷ 0 ∷ 0 ∷ [])
    ++ rows 16 (seen (leaving 0 ++ (clock 5 ∷ freed 0 1 ∷ occupied 0 1 ∷ []))) (1 ∷ 0 ∷ 0 ∷ [])
    -- H17: a number above 5 gives 0
    ++ rows 17 (map outputs_of (0 ∷ 1 ∷ 2 ∷ 3 ∷ 4 ∷ 5 ∷ 6 ∷ 255 ∷ [])) (1 ∷ 34 ∷ 72 ∷ 152 ∷ 260 ∷ 0 ∷ 0 ∷ 0 ∷ [])
    -- H18: any failed lamp or board: the five lamp outputs 0, sounders kept
    ++ rows 18 (map (head_outputs 152) (1 ∷ 2 ∷ 4 ∷ 8 ∷ 15 ∷ [])) (128 ∷ 128 ∷ 128 ∷ 128 ∷ 128 ∷ [])
    -- H19: power, communication, or more than one failed sounder: outputs 0
    ++ rows 19 (map (head_outputs 152) (256 ∷ 512 ∷ 48 ∷ 144 ∷ 240 ∷ [])) (0 ∷ 0 ∷ 0 ∷ 0 ∷ 0 ∷ [])
    -- H20: one failed sounder: that one silent. Bits from 10 up are not read.
    ++ rows 20
    (head_outputs 34 16 ∷ head_outputs 72 32 ∷ head_outputs 152 64 ∷ head_outputs 260 128 ∷ head_outputs 152 16
    ∷ head_outputs 152 1024 ∷ [])
    (2 ∷ 8 ∷ 24 ∷ 4 ∷ 152 ∷ 152 ∷ [])
    -- H21: the two heads are worked out apart
    ++ rows 21 (heads_of (run ours (c7 ours) (condition 1 8 ∷ []))) (152 ∷ 128 ∷ [])
    -- H22: five zone digits in island order, 0 if any track occupies it
    ++ rows 22 (zones_of (c3 ours)) (1 ∷ 1 ∷ 1 ∷ 1 ∷ 0 ∷ [])
    ++ rows 22 (zones_of (c4 ours)) (1 ∷ 1 ∷ 1 ∷ 0 ∷ 0 ∷ [])
    ++ rows 22 (zones_of (c7 ours)) (1 ∷ 0 ∷ 1 ∷ 1 ∷ 0 ∷ [])
    ++ rows 22 (zones_of five_tracks) (0 ∷ 0 ∷ 0 ∷ 0 ∷ 0 ∷ [])
    -- H23: a track's presence is what the greatest-risk condition counts
    ++ rows 23 (digits (presence_of (c2 ours))) (0 ∷ 0 ∷ 0 ∷ 0 ∷ [])
    ++ rows 23 (digits (presence_of (c7 ours))) (1 ∷ 1 ∷ 0 ∷ 0 ∷ [])
    ++ rows 23 (digits (presence_of five_tracks)) (1 ∷ 1 ∷ 1 ∷ 1 ∷ [])
    -- H24: in a single tick the hold falls by one and ages grow by one, whether the fault is latched or not
    ++ rows 24 (hold_and_age 20 train_gone ++ hold_and_age 20 (normalised ∷ train_gone)) (30 ∷ 20 ∷ 30 ∷ 20 ∷ [])
    -- H25: an island is held when its age is at least its timer, where that is 65535 by an age that stops there
    ++ rows 25 (map (shown_old false 4) (65533 ∷ 65534 ∷ 65535 ∷ [])) (34 ∷ 260 ∷ 260 ∷ [])
    -- H26: the fault latches if an occupied warning island's age is T5 or more, up to 65535 and whatever its detector
    ++ rows 26 (map (shown_old false 3) (65533 ∷ 65534 ∷ 65535 ∷ [])) (260 ∷ 0 ∷ 0 ∷ [])
    ++ rows 26 (map (shown_old true 3) (65533 ∷ 65534 ∷ 65535 ∷ [])) (260 ∷ 0 ∷ 0 ∷ [])
    -- H27: the fault stays latched whatever is reported but a normalise: of a fresh station, and
    -- after a warning island is free again
    ++ rows 27
    (map (λ reports. outputs ours (run ours (c1 ours) reports))
    ((occupied 0 4 ∷ [])
    ∷ (occupied 0 4 ∷ freed 0 4 ∷ [])
    ∷ (clock 1 ∷ [])
    ∷ (failed 0 4 ∷ restored 0 4 ∷ clock 1 ∷ [])
    ∷ (condition 0 1 ∷ [])
    ∷ [])
    ++ (shown (occupied 0 3 ∷ clock 600 ∷ freed 0 3 ∷ clock 1 ∷ []) ∷ []))
    (0 ∷ 0 ∷ 0 ∷ 0 ∷ 0 ∷ 0 ∷ [])
    -- and no restored detector latches it: of a station handed in, with one failed and no fault
    ++ rows 27
    (outputs ours (run ours (with_fault (run ours (c2 ours) (failed 0 4 ∷ [])) false) (restored 0 4 ∷ [])) ∷ [])
    (1 ∷ [])
    -- H28: where the condition is false, no report but the clock and a normalise changes the hold
    ++ rows 28
    (map (λ reports. (run ours (c9 ours) reports).hold)
    ((condition 0 1 ∷ [])
    ∷ (occupied 0 3 ∷ [])
    ∷ (freed 0 4 ∷ [])
    ∷ (failed 1 1 ∷ [])
    ∷ (failed 1 1 ∷ restored 1 1 ∷ [])
    ∷ (freed 0 4 ∷ normalised ∷ [])
    ∷ []))
    (50 ∷ 50 ∷ 50 ∷ 50 ∷ 50 ∷ 0 ∷ [])
