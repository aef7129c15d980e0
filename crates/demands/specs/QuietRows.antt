-- Rows Q1 to Q19, for the words of demand 3 in specs/Quiet: what is due is worked out by hand from these words and from
-- document 01. "No lamp is stuck. Take any station reached by any reports. Let only clock reports, head reports and
-- refused ones follow. Once the clock has gone the longer of two times, T5 alone or T4 plus the greatest of T1, T2 and
-- T3, the aspect is settled and stays so: out of service if a fault was latched when the quiet began or a warning
-- island is occupied; otherwise orange if any island is occupied; otherwise green."
use Rattle.std.specs.Prelude.{ℕ, ◌-◌, true, false, List, [], ◌∷◌, ◌++◌, map}
use Rattle.demands.specs.Quiet.{Quiet, after_all, clock_gone, long_enough, settled}
use Rattle.rules.specs.Aspect.{aspect_of}
use Rattle.rules.specs.OfEachKind.{clock, condition, failed, freed, normalised, occupied, report, restored}
use Rattle.rules.specs.Station.{with_tracks}
use Rattle.rules.specs.declared.Report.{Report}
use Rattle.rules.specs.declared.Settings.{Settings}
use Rattle.rules.specs.declared.Station.{Station}
use Rattle.rules.specs.rows.HouseRows.{departing, leaving}
use Rattle.rules.specs.rows.Machine.{ours}
use Rattle.rules.specs.rows.Refusals.{chosen, five_tracks}
use Rattle.rules.specs.rows.Row.{Row, digits, rows}
use Rattle.rules.specs.rows.Table.{run}

-- Settings of two tracks (T1, T2, T3, T4, T5), all of them different. The longer is T5; T4 + T1; T4 + T2; T4 + T3.
abbrev pub by_t5 : Settings
by_t5 = chosen 2 3 5 4 2 9

abbrev pub by_t1 : Settings
by_t1 = chosen 2 7 3 5 4 9

abbrev pub by_t2 : Settings
by_t2 = chosen 2 3 7 2 6 9

abbrev pub by_t3 : Settings
by_t3 = chosen 2 5 3 8 4 9

-- a normalised station of these settings after these reports, and one with nothing reported since
abbrev pub from : Settings → List Report → Station
from c reports = run ours (ours.make c) (normalised ∷ reports)

abbrev pub idle : Station
idle = from by_t5 []

-- island 4 of track 0 is occupied, and the detector of island 0 of track 1 failed
abbrev pub busy : Station
busy = from by_t5 (occupied 0 4 ∷ failed 1 0 ∷ [])

-- advance islands on two tracks; advance islands on two tracks that are free again, the hold at
-- T4; warning islands on two tracks
abbrev pub two_advance : Station
two_advance = from by_t1 (occupied 0 4 ∷ occupied 1 0 ∷ [])

abbrev pub hold_left : Station
hold_left = from by_t1 (occupied 0 4 ∷ occupied 1 4 ∷ freed 0 4 ∷ freed 1 4 ∷ [])

abbrev pub two_warning : Station
two_warning = from by_t2 (occupied 0 1 ∷ occupied 1 3 ∷ [])

-- a warning island of side 2 that is leaving
abbrev pub leaving_side2 : ℕ → List Report
leaving_side2 track = occupied track 2 ∷ occupied track 3 ∷ freed track 2 ∷ []

-- how long is long enough; the aspect one tick before that, and then; and the settled aspect
abbrev pub around : Station → List ℕ
around s =
    let n : ℕ = long_enough s.settings in
    n
    ∷ aspect_of (after_all s (clock (n - 1) ∷ []))
    ∷ aspect_of (after_all s (clock n ∷ []))
    ∷ settled s.fault (after_all s (clock n ∷ []))
    ∷ []

-- whether these reports are quiet, how many ticks the clock has gone, the aspect after them, and the settled aspect
abbrev pub judged : Station → List Report → List ℕ
judged s reports =
    digits (Quiet s reports ∷ [])
    ++ (clock_gone s reports ∷ aspect_of (after_all s reports) ∷ settled s.fault (after_all s reports) ∷ [])

-- each report by itself: whether it is quiet, and the ticks it counts for
abbrev pub quiet_each : Station → List Report → List ℕ
quiet_each s reports = digits (map (λ r. Quiet s (r ∷ [])) reports)

abbrev pub gone_each : Station → List Report → List ℕ
gone_each s reports = map (λ r. clock_gone s (r ∷ [])) reports

-- whether each of these lists of reports is quiet
abbrev pub quiet_lists : Station → List (List Report) → List ℕ
quiet_lists s lists = digits (map (Quiet s) lists)

-- the aspect of `idle` after these reports
abbrev pub aspect_after : List Report → ℕ
aspect_after reports = aspect_of (after_all idle reports)

-- the settled aspect where no fault was latched when the quiet began, and where one was
abbrev pub unlatched : List Report → ℕ
unlatched reports = settled false (from by_t5 reports)

abbrev pub latched : List Report → ℕ
latched reports = settled true (from by_t5 reports)

-- a station of one track, handed in with the tracks of a station of two
abbrev pub one_track : List Report → Station
one_track reports = with_tracks (from (chosen 1 3 5 4 2 9) []) (from by_t5 reports).tracks

-- 5 + 2 + 3 ticks, with head reports between and such as `two_advance` refuses: by 6, 2, 2, 6, 7, 5 and 1
abbrev pub mixed : List Report
mixed =
    clock 5
    ∷ condition 0 8
    ∷ occupied 0 4
    ∷ clock 0
    ∷ report 3 1 0 0 6
    ∷ clock 2
    ∷ freed 0 3
    ∷ normalised
    ∷ condition 2 8
    ∷ report 8 0 0 0 7
    ∷ clock 3
    ∷ condition 1 1023
    ∷ []

abbrev pub quiet_rows : List Row
quiet_rows =
    -- Q1: the longer of two times, T5 alone or T4 plus the greatest of T1, T2 and T3: 9 against 2 + 5;
    -- 4 + 7, 6 + 7 and 4 + 8 against 9;
    rows 1 (map long_enough (by_t5 ∷ by_t1 ∷ by_t2 ∷ by_t3 ∷ [])) (9 ∷ 11 ∷ 13 ∷ 12 ∷ [])
    -- with T4 = 0: 9 against 5; T1 = 12 and T3 = 11 against 9; 4 + 5 is 9; and 65535 + 65535 is not cut off
    ++ rows 1 (map long_enough (chosen 2 3 5 4 0 9 ∷ chosen 2 12 5 4 0 9 ∷ chosen 2 4 5 11 0 9 ∷ [])) (9 ∷ 12 ∷ 11 ∷ [])
    ++ rows 1 (map long_enough (chosen 2 3 5 1 4 9 ∷ chosen 4 65535 65534 65535 65535 65535 ∷ [])) (9 ∷ 131070 ∷ [])
    -- Q2: T5 is needed, by a warning island. Held from tick 5 on, no hold: 4 at tick 8; its age is 9 at tick 9, the
    -- fault latches: 5. Leaving, the same.
    ++ rows 2 (around (from by_t5 (occupied 0 3 ∷ []))) (9 ∷ 4 ∷ 5 ∷ 5 ∷ [])
    ++ rows 2 (around (from by_t5 (leaving 1))) (9 ∷ 4 ∷ 5 ∷ 5 ∷ [])
    -- Q3: T4 + T1 is needed, by advance islands on two tracks. Fresh up to tick 6, so the hold stays 4 on tick 7, the
    -- first after which the condition is false; it falls on ticks 8, 9, 10 and 11: 1 is left at tick 10, aspect 3; none
    -- at tick 11, both islands held: 4.
    ++ rows 3 (around two_advance) (11 ∷ 3 ∷ 4 ∷ 4 ∷ [])
    -- Q4: T4 + T3 is needed, by the crossing beside an advance island of another track. The crossing is fresh up to
    -- tick 7, the hold 4 at tick 8, 1 at tick 11: 3; none at tick 12: 4.
    ++ rows 4 (around (from by_t3 (occupied 0 2 ∷ occupied 1 0 ∷ []))) (12 ∷ 3 ∷ 4 ∷ 4 ∷ [])
    -- Q5: T4 + T2 is never the last to settle, as T5 is greater than T2: a warning island that keeps the condition true
    -- to tick T2 latches the fault at T5. Fresh up to tick 6, the hold 6 at tick 7 and 5 at tick 8: 3; at tick 9 the
    -- fault: 5, and so at 12 and 13. Of T2 only the length asked is seen.
    ++ rows 5 (around two_warning) (13 ∷ 5 ∷ 5 ∷ 5 ∷ [])
    ++ rows 5 (judged two_warning (clock 8 ∷ [])) (1 ∷ 8 ∷ 3 ∷ 5 ∷ [])
    ++ rows 5 (judged two_warning (clock 9 ∷ [])) (1 ∷ 9 ∷ 5 ∷ 5 ∷ [])
    -- Q6: T4 = 0, one island: an advance island is fresh at tick 11 of T1 = 12: 1; the crossing at tick 10
    -- of T3 = 11: 2; held one tick later
    ++ rows 6 (around (from (chosen 2 12 5 4 0 9) (occupied 1 4 ∷ []))) (12 ∷ 1 ∷ 4 ∷ 4 ∷ [])
    ++ rows 6 (around (from (chosen 2 4 5 11 0 9) (occupied 0 2 ∷ []))) (11 ∷ 2 ∷ 4 ∷ 4 ∷ [])
    -- Q7: otherwise green. Nothing occupied, what is left of the hold is gone after T4 ticks, sooner than asked: 3
    -- at tick 3, 0 at tick 4 and after.
    ++ rows 7 (around idle) (9 ∷ 0 ∷ 0 ∷ 0 ∷ [])
    ++ rows 7 (judged hold_left (clock 3 ∷ [])) (1 ∷ 3 ∷ 3 ∷ 0 ∷ [])
    ++ rows 7 (judged hold_left (clock 4 ∷ [])) (1 ∷ 4 ∷ 0 ∷ 0 ∷ [])
    ++ rows 7 (around hold_left) (11 ∷ 0 ∷ 0 ∷ 0 ∷ [])
    -- Q8: out of service if a fault was latched when the quiet began: on a fresh station; by a failed detector, an
    -- advance island occupied; by a warning island that is free again
    ++ rows 8 (around (ours.make by_t5)) (9 ∷ 5 ∷ 5 ∷ 5 ∷ [])
    ++ rows 8 (around busy) (9 ∷ 5 ∷ 5 ∷ 5 ∷ [])
    ++ rows 8 (around (from by_t5 (occupied 0 3 ∷ clock 9 ∷ freed 0 3 ∷ []))) (9 ∷ 5 ∷ 5 ∷ 5 ∷ [])
    -- Q9: the ticks of several clock reports are added up, with head and refused reports between: at 5 + 2 + 3 ticks
    -- the hold of Q3 is 1, one tick later 0;
    -- and the aspect stays
    ++ rows 9 (judged two_advance mixed) (1 ∷ 10 ∷ 3 ∷ 4 ∷ [])
    ++ rows 9 (judged two_advance (mixed ++ (clock 1 ∷ []))) (1 ∷ 11 ∷ 4 ∷ 4 ∷ [])
    ++ rows 9 (judged two_advance (mixed ++ (clock 1 ∷ condition 0 0 ∷ clock 6 ∷ []))) (1 ∷ 17 ∷ 4 ∷ 4 ∷ [])
    -- Q10: a clock report counts by its value, a refused one not at all: clock value 0, then a, b or spare not 0
    ++ rows 10
    (gone_each idle (clock 1 ∷ clock 7 ∷ clock 0 ∷ report 3 1 0 0 7 ∷ report 3 0 1 0 7 ∷ report 3 0 0 1 7 ∷ []))
    (1 ∷ 7 ∷ 0 ∷ 0 ∷ 0 ∷ 0 ∷ [])
    -- a head report does not count, taken or refused, nor does any other, here of kinds 8, 1 and 7; nor a clock
    -- report to a station outside its limits
    ++ rows 10 (gone_each idle (condition 0 8 ∷ condition 1 1023 ∷ condition 2 8 ∷ [])) (0 ∷ 0 ∷ 0 ∷ [])
    ++ rows 10 (gone_each idle (report 8 0 0 0 7 ∷ report 1 0 4 0 7 ∷ occupied 0 4 ∷ normalised ∷ []))
    (0 ∷ 0 ∷ 0 ∷ 0 ∷ [])
    ++ rows 10 (clock_gone idle [] ∷ clock_gone five_tracks (clock 7 ∷ []) ∷ []) (0 ∷ 0 ∷ [])
    -- the clock goes on after whatever report, and the sum is not cut off
    ++ rows 10 (map (clock_gone idle) ((clock 3 ∷ occupied 0 4 ∷ clock 4 ∷ []) ∷ (clock 1 ∷ clock 65535 ∷ []) ∷ []))
    (7 ∷ 65536 ∷ [])
    -- Q11: quiet are clock and head reports, taken or refused,
    ++ rows 11
    (quiet_each busy (clock 1 ∷ clock 0 ∷ report 3 0 0 1 1 ∷ condition 0 8 ∷ condition 1 0 ∷ condition 2 8 ∷ []))
    (1 ∷ 1 ∷ 1 ∷ 1 ∷ 1 ∷ 1 ∷ [])
    -- Q12: and refused ones of every kind: of no such kind; occupied already, and of no such track;
    -- free already, and of no such island;
    ++ rows 12 (quiet_each busy (report 0 0 0 0 0 ∷ report 8 0 0 0 0 ∷ report 255 0 0 0 0 ∷ [])) (1 ∷ 1 ∷ 1 ∷ [])
    ++ rows 12 (quiet_each busy (occupied 0 4 ∷ occupied 2 3 ∷ freed 0 3 ∷ freed 0 5 ∷ [])) (1 ∷ 1 ∷ 1 ∷ 1 ∷ [])
    -- failed already, not failed already, normalise with an island occupied, with a wrong field; and
    -- any to a station outside its limits
    ++ rows 12 (quiet_each busy (failed 1 0 ∷ restored 1 1 ∷ normalised ∷ report 7 1 0 0 0 ∷ [])) (1 ∷ 1 ∷ 1 ∷ 1 ∷ [])
    ++ rows 12 (quiet_each five_tracks (occupied 0 4 ∷ failed 0 4 ∷ normalised ∷ [])) (1 ∷ 1 ∷ 1 ∷ [])
    -- Q13: no other report that is taken is: occupied, freed, failed, restored, normalised;
    -- occupied, each of the five islands
    ++ rows 13 (quiet_each busy (occupied 0 3 ∷ freed 0 4 ∷ failed 0 0 ∷ restored 1 0 ∷ [])) (0 ∷ 0 ∷ 0 ∷ 0 ∷ [])
    ++ rows 13 (quiet_each idle (occupied 0 4 ∷ failed 1 0 ∷ normalised ∷ [])) (0 ∷ 0 ∷ 0 ∷ [])
    ++ rows 13 (quiet_each idle (map (occupied 1) (0 ∷ 1 ∷ 2 ∷ 3 ∷ 4 ∷ []))) (0 ∷ 0 ∷ 0 ∷ 0 ∷ 0 ∷ [])
    -- Q14: every report of a list is asked: none; one taken first, between and last
    ++ rows 14 (quiet_lists busy ([] ∷ (clock 1 ∷ occupied 0 4 ∷ condition 0 8 ∷ []) ∷ [])) (1 ∷ 1 ∷ [])
    ++ rows 14 (quiet_lists busy ((freed 0 4 ∷ clock 1 ∷ []) ∷ (clock 1 ∷ freed 0 4 ∷ clock 1 ∷ []) ∷ [])) (0 ∷ 0 ∷ [])
    ++ rows 14 (quiet_lists busy ((clock 1 ∷ freed 0 4 ∷ []) ∷ (occupied 0 4 ∷ freed 0 4 ∷ []) ∷ [])) (0 ∷ 0 ∷ [])
    -- of the station that those before it leave: of two alike the second is refused, the first was taken; or the
    -- second is taken, refused at the start
    ++ rows 14 (quiet_lists idle
    ((occupied 0 4 ∷ occupied 0 4 ∷ []) ∷ (normalised ∷ normalised ∷ []) ∷ (occupied 0 4 ∷ freed 0 4 ∷ []) ∷ []))
    (0 ∷ 0 ∷ 0 ∷ [])
    ++ rows 14 (quiet_lists idle
    ((freed 0 4 ∷ occupied 0 4 ∷ freed 0 4 ∷ []) ∷ (freed 0 4 ∷ restored 0 4 ∷ freed 0 4 ∷ []) ∷ [])) (0 ∷ 1 ∷ [])
    -- Q15: and the word "only" is needed. Occupied after 11 ticks: a fresh crossing, two tracks: 3. Freed after the
    -- fault: 5. Failed: 5. Normalised: 0.
    -- (Restored leaves the aspect as it is, but the words do not name it: Q13.)
    ++ rows 15 (judged two_advance (clock 11 ∷ occupied 0 2 ∷ [])) (0 ∷ 11 ∷ 3 ∷ 4 ∷ [])
    ++ rows 15 (judged (from by_t5 (occupied 0 3 ∷ [])) (clock 9 ∷ freed 0 3 ∷ [])) (0 ∷ 9 ∷ 5 ∷ 0 ∷ [])
    ++ rows 15 (judged idle (clock 9 ∷ failed 0 0 ∷ [])) (0 ∷ 9 ∷ 5 ∷ 0 ∷ [])
    ++ rows 15 (judged (ours.make by_t5) (clock 9 ∷ normalised ∷ [])) (0 ∷ 9 ∷ 0 ∷ 5 ∷ [])
    -- Q16: settled, no fault latched when the quiet began: 5 by a warning island of either side, either mark, either
    -- track, whatever else is occupied;
    ++ rows 16
    (map unlatched ((occupied 0 1 ∷ []) ∷ (occupied 0 3 ∷ []) ∷ (occupied 1 1 ∷ []) ∷ (occupied 1 3 ∷ []) ∷ []))
    (5 ∷ 5 ∷ 5 ∷ 5 ∷ [])
    ++ rows 16 (map unlatched (leaving 0 ∷ leaving_side2 0 ∷ leaving 1 ∷ leaving_side2 1 ∷ [])) (5 ∷ 5 ∷ 5 ∷ 5 ∷ [])
    ++ rows 16 (map unlatched ((occupied 0 4 ∷ occupied 1 3 ∷ []) ∷ (occupied 0 1 ∷ occupied 0 2 ∷ []) ∷ []))
    (5 ∷ 5 ∷ [])
    -- Q17: otherwise 4 by an advance island or the crossing, of any age and mark; otherwise 0, a failed detector too
    ++ rows 17 (map unlatched ((occupied 0 0 ∷ []) ∷ (occupied 0 2 ∷ []) ∷ (occupied 0 4 ∷ []) ∷ [])) (4 ∷ 4 ∷ 4 ∷ [])
    ++ rows 17
    (map unlatched ((occupied 1 0 ∷ []) ∷ (occupied 1 2 ∷ clock 4 ∷ []) ∷ (occupied 1 4 ∷ []) ∷ departing 1 ∷ []))
    (4 ∷ 4 ∷ 4 ∷ 4 ∷ [])
    ++ rows 17 (map unlatched ([] ∷ (failed 0 3 ∷ []) ∷ (occupied 0 3 ∷ freed 0 3 ∷ []) ∷ [])) (0 ∷ 0 ∷ 0 ∷ [])
    -- a fault latched when the quiet began: 5 before all
    ++ rows 17 (map latched ([] ∷ (occupied 0 4 ∷ []) ∷ (occupied 0 3 ∷ []) ∷ [])) (5 ∷ 5 ∷ 5 ∷ [])
    -- Q18: every track of the station is read, here the fourth of four; a track beyond its
    -- number is not, here the second of one
    ++ rows 18 (map (λ l. settled false (from (chosen 4 3 5 4 2 9) l)) ((occupied 3 4 ∷ []) ∷ (occupied 3 1 ∷ []) ∷ []))
    (4 ∷ 5 ∷ [])
    ++ rows 18 (map (λ l. settled false (one_track l))
    ((occupied 1 4 ∷ []) ∷ (occupied 1 3 ∷ []) ∷ (occupied 0 4 ∷ occupied 1 3 ∷ []) ∷ [])) (0 ∷ 0 ∷ 4 ∷ [])
    -- Q19: a refused report on the way changes nothing, and those after it are taken: 1 by island 4, then 2 by island 3
    ++ rows 19 (map aspect_after ([] ∷ (occupied 0 4 ∷ occupied 0 4 ∷ []) ∷ [])) (0 ∷ 1 ∷ [])
    ++ rows 19 (map aspect_after ((occupied 0 4 ∷ occupied 0 4 ∷ occupied 0 3 ∷ []) ∷ [])) (2 ∷ [])
    -- the order is kept: the warning island is leaving after the crossing, approaching before it; held at tick
    -- 3 of T1 = 3, not if occupied after
    ++ rows 19 (map aspect_after (leaving 0 ∷ (occupied 0 1 ∷ occupied 0 2 ∷ freed 0 2 ∷ []) ∷ [])) (0 ∷ 2 ∷ [])
    ++ rows 19 (map aspect_after ((occupied 0 4 ∷ clock 3 ∷ []) ∷ (clock 3 ∷ occupied 0 4 ∷ []) ∷ [])) (4 ∷ 1 ∷ [])
    -- and every kind is taken: normalise is refused of a failed detector, taken of a restored one; of head
    -- conditions the last of each head stands
    ++ rows 19 (map aspect_after ((failed 0 3 ∷ normalised ∷ []) ∷ (failed 0 3 ∷ restored 0 3 ∷ normalised ∷ []) ∷ []))
    (5 ∷ 0 ∷ [])
    ++ rows 19 (after_all idle (condition 0 8 ∷ condition 1 5 ∷ condition 0 16 ∷ [])).conditions (16 ∷ 5 ∷ [])
