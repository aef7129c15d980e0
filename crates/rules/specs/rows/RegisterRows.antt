-- Document 01, "The register": rows of our own for where each byte stands, and for what is written, read, stepped to
-- and handed back. A mistake made the same way in writing and in reading would still read back; it fails a row here,
-- since the bytes are typed from the sentence that stands above each.
-- The numbers 8 to 14 are in RegisterRefusals, the sheet is in SheetRows.
use Rattle.std.specs.Prelude.{ℕ, suc, List, [], ◌∷◌, ◌++◌, map, drop, replicate, set, take}
use Rattle.rules.specs.Aspect.{aspect_of}
use Rattle.rules.specs.Layout.{entry_of, header, report_in, settings_in}
use Rattle.rules.specs.OfEachKind.{clock, condition, normalised, occupied, report}
use Rattle.rules.specs.Register.{appended, appended_bytes, entry_answer, handed_back, handed_back_at}
use Rattle.rules.specs.Register.{read_of, start_answer, started, step_of}
use Rattle.rules.specs.declared.Reading.{Reading}
use Rattle.rules.specs.declared.Report.{Report}
use Rattle.rules.specs.declared.Settings.{Settings}
use Rattle.rules.specs.declared.Station.{Station}
use Rattle.rules.specs.declared.Track.{Track}
use Rattle.rules.specs.rows.Machine.{ours}
use Rattle.rules.specs.rows.Refusals.{chosen, five_tracks}
use Rattle.rules.specs.rows.Row.{Row, all_rows, digits, rows, together}
use Rattle.rules.specs.rows.Table.{c1, c2, run, settings}

-- ---- what is compared, in numbers

-- the number of tracks, T1, T2, T3, T4, T5
abbrev pub settings_told : Settings → List ℕ
settings_told c = c.tracks ∷ c.t1 ∷ c.t2 ∷ c.t3 ∷ c.t4 ∷ c.t5 ∷ []

-- kind, a, b, spare, value
abbrev pub report_told : Report → List ℕ
report_told r = r.kind ∷ r.a ∷ r.b ∷ r.spare ∷ r.value ∷ []

-- of each of the five islands whether it is occupied, leaving and failed, and its age
abbrev pub track_told : Track → List ℕ
track_told t = together (map (λ i. digits (i.occupied ∷ i.leaving ∷ i.failed ∷ []) ++ (i.age ∷ [])) t.islands)

-- a whole station: its settings, its hold, its fault, its two head conditions, and its four tracks
abbrev pub station_told : Station → List ℕ
station_told s =
    settings_told s.settings
    ++ (s.hold ∷ digits (s.fault ∷ []) ++ (s.conditions ++ together (map track_told s.tracks)))

-- a reading but for its station: answer, entry named, count
abbrev pub said : Reading → List ℕ
said r = r.answer ∷ r.entry ∷ r.count ∷ []

abbrev pub zeros : ℕ → List ℕ
zeros n = replicate n 0

-- a lent buffer
abbrev pub nines : ℕ → List ℕ
nines n = replicate n 9

-- A fresh station has every island free, no detector failed, both head conditions 0, no hold
-- left, and its fault latched.
abbrev pub fresh_told : List ℕ → List ℕ
fresh_told c = c ++ (0 ∷ 1 ∷ 0 ∷ 0 ∷ zeros 80)

-- of 1 track with T1 to T4 equal to 1 and T5 to 2
abbrev pub least_told : List ℕ
least_told = fresh_told (1 ∷ 1 ∷ 1 ∷ 1 ∷ 1 ∷ 2 ∷ [])

-- normalised, with islands 3 and 4 of track 0 so, and nothing else
abbrev pub normal_told : List ℕ → List ℕ → List ℕ
normal_told third fourth =
    (2 ∷ 300 ∷ 300 ∷ 300 ∷ 0 ∷ 600 ∷ []) ++ (zeros 4 ++ (zeros 12 ++ (third ++ (fourth ++ zeros 60))))

-- occupied and approaching, with an age
abbrev pub approaching_told : ℕ → List ℕ
approaching_told age = 1 ∷ 0 ∷ 0 ∷ age ∷ []

-- ---- registers

-- settings and their header: no two fields alike, nor two bytes of a field
abbrev pub many_settings : Settings
many_settings = chosen 3 258 772 2057 1286 1000

abbrev pub many_header : List ℕ
many_header = 67 ∷ 69 ∷ 65 ∷ 1 ∷ 0 ∷ 3 ∷ 2 ∷ 1 ∷ 4 ∷ 3 ∷ 9 ∷ 8 ∷ 6 ∷ 5 ∷ 232 ∷ 3 ∷ []

-- Settings 2 tracks, 300, 300, 300, 0, 600 and these reports: 7 0 0 0; 1 0 4 0; 3 0 0 300; 1 0 3 0; 1 0 3 0
abbrev pub worked_reports : List Report
worked_reports = normalised ∷ occupied 0 4 ∷ clock 300 ∷ occupied 0 3 ∷ occupied 0 3 ∷ []

abbrev pub worked_header : List ℕ
worked_header = 67 ∷ 69 ∷ 65 ∷ 1 ∷ 0 ∷ 2 ∷ 44 ∷ 1 ∷ 44 ∷ 1 ∷ 44 ∷ 1 ∷ 0 ∷ 0 ∷ 88 ∷ 2 ∷ []

abbrev pub worked : List ℕ
worked =
    worked_header
    ++ (7 ∷ 0 ∷ 0 ∷ 0 ∷ 0 ∷ 0 ∷ 0 ∷ 0 ∷ [])
    ++ (1 ∷ 0 ∷ 4 ∷ 0 ∷ 0 ∷ 0 ∷ 0 ∷ 1 ∷ [])
    ++ (3 ∷ 0 ∷ 0 ∷ 0 ∷ 44 ∷ 1 ∷ 0 ∷ 4 ∷ [])
    ++ (1 ∷ 0 ∷ 3 ∷ 0 ∷ 0 ∷ 0 ∷ 0 ∷ 2 ∷ [])
    ++ (1 ∷ 0 ∷ 3 ∷ 0 ∷ 0 ∷ 0 ∷ 6 ∷ 2 ∷ [])

-- reports appended at k and on, each with the station the last one returned
abbrev pub filled_from : List ℕ → ℕ → Station → List Report → List ℕ
filled_from b k s [] = b
filled_from b k s (r ∷ rs) = filled_from (appended_bytes b k s r) (suc k) (appended b k s r).station rs

-- a register that is lent: a header, an entry of no sense, and room for two
abbrev pub lent : List ℕ
lent = worked_header ++ nines 24

-- islands 4 and 3 of track 0 occupied: aspect 2
abbrev pub busy : Station
busy = run ours (c2 ours) (occupied 0 4 ∷ occupied 0 3 ∷ [])

-- refused by 1 to 7 on that station
abbrev pub bad_reports : List Report
bad_reports =
    report 8 1 2 3 1541 ∷ clock 0 ∷ occupied 2 0 ∷ occupied 1 5 ∷ condition 2 258 ∷ occupied 0 4 ∷ normalised ∷ []

-- a register, a place in it and a station with which appending is refused
pub record Refused : Type 0 where
  pub bytes : List ℕ
  pub k : ℕ
  pub station : Station

abbrev pub refused_with : List ℕ → ℕ → Station → Refused
refused_with bytes k station = record { bytes = bytes; k = k; station = station }

-- refused with 9, 10, 8 (header outside, both outside, settings not the station's), 12 and 12
abbrev pub unwritten : List Refused
unwritten =
    refused_with (set lent 0 68) 0 busy
    ∷ refused_with (set lent 3 2) 0 busy
    ∷ refused_with (set lent 5 5) 0 busy
    ∷ refused_with (set lent 5 5) 0 five_tracks
    ∷ refused_with (set lent 6 45) 0 busy
    ∷ refused_with lent 3 busy
    ∷ refused_with lent 8190 busy
    ∷ []

abbrev pub register_rows : List Row
register_rows =
    -- G1: Header of 16 bytes: the mark `CEA`, version 1 in 16 bits, number of tracks in one byte, T1 to T5 in 16
    -- bits each. All are low byte first.
    rows 1 (header many_settings) many_header
    -- G2: the same bytes, read; the greatest; and bytes that are missing count as 0 (house)
    ++ rows 2 (settings_told (settings_in many_header)) (3 ∷ 258 ∷ 772 ∷ 2057 ∷ 1286 ∷ 1000 ∷ [])
    ++ rows 2 (settings_told (settings_in (replicate 16 255))) (255 ∷ 65535 ∷ 65535 ∷ 65535 ∷ 65535 ∷ 65535 ∷ [])
    ++ rows 2 (settings_told (settings_in (take 15 many_header))) (3 ∷ 258 ∷ 772 ∷ 2057 ∷ 1286 ∷ 232 ∷ [])
    ++ rows 2 (settings_told (settings_in [])) (zeros 6)
    -- G3: Each entry is 8 bytes: the report, the answer, the aspect after it. A report is six bytes: kind, a, b, spare,
    -- and a 16-bit value, low byte first.
    ++ rows 3 (entry_of (report 1 2 3 4 1541) 7 8) (1 ∷ 2 ∷ 3 ∷ 4 ∷ 5 ∷ 6 ∷ 7 ∷ 8 ∷ [])
    -- G4: the same bytes, read; the greatest value; and bytes that are missing count as 0 (house)
    ++ rows 4 (report_told (report_in (1 ∷ 2 ∷ 3 ∷ 4 ∷ 5 ∷ 6 ∷ 7 ∷ 8 ∷ []))) (1 ∷ 2 ∷ 3 ∷ 4 ∷ 1541 ∷ [])
    ++ rows 4 (report_told (report_in (replicate 8 255))) (255 ∷ 255 ∷ 255 ∷ 255 ∷ 65535 ∷ [])
    ++ rows 4 (report_told (report_in (1 ∷ 2 ∷ 3 ∷ 4 ∷ 5 ∷ []))) (1 ∷ 2 ∷ 3 ∷ 4 ∷ 5 ∷ [])
    ++ rows 4 (report_told (report_in [])) (zeros 5)
    -- G5: Starting writes the header and touches no other byte; with no byte more than the header's too.
    ++ rows 5 (start_answer many_settings (nines 18) ∷ started many_settings (nines 18)) (0 ∷ many_header ++ (9 ∷ 9 ∷ []))
    ++ rows 5 (start_answer many_settings (nines 16) ∷ started many_settings (nines 16)) (0 ∷ many_header)
    -- G6: Appending applies a report and enters it; a report refused by 1 to 7 is entered too, with its number. The
    -- worked register, in a lent 60 bytes.
    ++ rows 6 (filled_from (started (settings 0) (nines 60)) 0 (c1 ours) worked_reports) (worked ++ nines 4)
    -- G7: Reading replays from a fresh station and returns the station and the number of entries read.
    ++ rows 7 (said (read_of worked)) (0 ∷ 0 ∷ 5 ∷ [])
    ++ rows 7 (station_told (read_of worked).station) (normal_told (approaching_told 0) (approaching_told 300))
    -- G8: A step's count is its row; the entry named is 0 unless 13 is answered.
    ++ rows 8 (together (map (λ k. said (step_of worked k)) (0 ∷ 1 ∷ 2 ∷ []))) (0 ∷ 0 ∷ 0 ∷ 0 ∷ 0 ∷ 1 ∷ 0 ∷ 0 ∷ 2 ∷ [])
    ++ rows 8 (together (map (λ k. said (step_of worked k)) (3 ∷ 4 ∷ 5 ∷ []))) (0 ∷ 0 ∷ 3 ∷ 0 ∷ 0 ∷ 4 ∷ 0 ∷ 0 ∷ 5 ∷ [])
    -- G9: the aspects of rows 0 to 5. Row 0 is the fresh station; the others are the stations
    -- as they were after so many entries.
    ++ rows 9 (map (λ k. aspect_of (step_of worked k).station) (0 ∷ 1 ∷ 2 ∷ 3 ∷ 4 ∷ 5 ∷ [])) (5 ∷ 0 ∷ 1 ∷ 4 ∷ 2 ∷ 2 ∷ [])
    ++ rows 9 (station_told (step_of worked 0).station) (fresh_told (2 ∷ 300 ∷ 300 ∷ 300 ∷ 0 ∷ 600 ∷ []))
    ++ rows 9 (station_told (step_of worked 1).station) (normal_told (zeros 4) (zeros 4))
    ++ rows 9 (station_told (step_of worked 2).station) (normal_told (zeros 4) (approaching_told 0))
    ++ rows 9 (station_told (step_of worked 3).station) (normal_told (zeros 4) (approaching_told 300))
    ++ rows 9 (station_told (step_of many_header 0).station) (fresh_told (3 ∷ 258 ∷ 772 ∷ 2057 ∷ 1286 ∷ 1000 ∷ []))
    -- G10: An entry handed back is those eight bytes of the lent register itself: where they start, and
    -- what they are, of rows 1, 3 and 5.
    ++ rows 10 (map (handed_back_at worked) (1 ∷ 3 ∷ 5 ∷ [])) (16 ∷ 32 ∷ 48 ∷ [])
    ++ rows 10 (handed_back worked 1) (7 ∷ 0 ∷ 0 ∷ 0 ∷ 0 ∷ 0 ∷ 0 ∷ 0 ∷ [])
    ++ rows 10 (handed_back worked 3) (3 ∷ 0 ∷ 0 ∷ 0 ∷ 44 ∷ 1 ∷ 0 ∷ 4 ∷ [])
    ++ rows 10 (handed_back worked 5) (1 ∷ 0 ∷ 3 ∷ 0 ∷ 0 ∷ 0 ∷ 6 ∷ 2 ∷ [])
    -- G11: not replayed
    ++ rows 11 (entry_answer lent 2 ∷ handed_back (set lent 24 1) 2) (0 ∷ 1 ∷ 9 ∷ 9 ∷ 9 ∷ 9 ∷ 9 ∷ 9 ∷ 9 ∷ [])
    -- G12: refused, it is an empty part (house: at the start of the register).
    ++ rows 12 (together (map (handed_back worked) (0 ∷ 6 ∷ [])) ++ handed_back (set worked 0 68) 1) []
    ++ rows 12 (handed_back_at worked 0 ∷ handed_back_at worked 6 ∷ handed_back_at (set worked 0 68) 1 ∷ []) (0 ∷ 0 ∷ 0 ∷ [])
    -- G13: Appending at entry k writes those 8 bytes only, and does not read earlier entries. It
    -- returns what the report leads to.
    ++ rows 13 (appended_bytes lent 1 (c2 ours) (occupied 0 4))
    (worked_header ++ (nines 8 ++ (1 ∷ 0 ∷ 4 ∷ 0 ∷ 0 ∷ 0 ∷ 0 ∷ 1 ∷ nines 8)))
    ++ rows 13 (appended_bytes lent 2 (c2 ours) (clock 258))
    (worked_header ++ (nines 16 ++ (3 ∷ 0 ∷ 0 ∷ 0 ∷ 2 ∷ 1 ∷ 0 ∷ 0 ∷ [])))
    ++ rows 13 (appended_bytes worked 1 (c2 ours) (clock 1))
    (take 24 worked ++ ((3 ∷ 0 ∷ 0 ∷ 0 ∷ 1 ∷ 0 ∷ 0 ∷ 0 ∷ []) ++ drop 32 worked))
    ++ rows 13 ((appended lent 1 (c2 ours) (occupied 0 4)).answer
    ∷ station_told (appended lent 1 (c2 ours) (occupied 0 4)).station)
    (0 ∷ normal_told (zeros 4) (approaching_told 0))
    -- G14: a report refused by 1 to 7 is entered too, with its number,
    ++ rows 14 (map (λ r. (appended lent 0 busy r).answer) bad_reports) (1 ∷ 2 ∷ 3 ∷ 4 ∷ 5 ∷ 6 ∷ 7 ∷ [])
    ++ rows 14 (together (map (λ r. appended_bytes lent 0 busy r) bad_reports))
    (together
    (map (λ e. worked_header ++ (e ++ nines 16))
    ((8 ∷ 1 ∷ 2 ∷ 3 ∷ 5 ∷ 6 ∷ 1 ∷ 2 ∷ [])
    ∷ (3 ∷ 0 ∷ 0 ∷ 0 ∷ 0 ∷ 0 ∷ 2 ∷ 2 ∷ [])
    ∷ (1 ∷ 2 ∷ 0 ∷ 0 ∷ 0 ∷ 0 ∷ 3 ∷ 2 ∷ [])
    ∷ (1 ∷ 1 ∷ 5 ∷ 0 ∷ 0 ∷ 0 ∷ 4 ∷ 2 ∷ [])
    ∷ (6 ∷ 2 ∷ 0 ∷ 0 ∷ 2 ∷ 1 ∷ 5 ∷ 2 ∷ [])
    ∷ (1 ∷ 0 ∷ 4 ∷ 0 ∷ 0 ∷ 0 ∷ 6 ∷ 2 ∷ [])
    ∷ (7 ∷ 0 ∷ 0 ∷ 0 ∷ 0 ∷ 0 ∷ 7 ∷ 2 ∷ [])
    ∷ [])))
    -- and the station stays.
    ++ all_rows (map (λ r. rows 14 (station_told (appended lent 0 busy r).station)
    (normal_told (approaching_told 0) (approaching_told 0))) bad_reports)
    -- G15: With 9, 10, 8 or 12 the report is not applied. Apart from the entry of a report refused by 1
    -- to 7, refusals write to no buffer.
    ++ rows 15 (map (λ u. (appended u.bytes u.k u.station (clock 1)).answer) unwritten)
    (9 ∷ 10 ∷ 8 ∷ 8 ∷ 8 ∷ 12 ∷ 12 ∷ [])
    ++ rows 15 (together (map (λ u. appended_bytes u.bytes u.k u.station (clock 1)) unwritten))
    (together (map (λ u. u.bytes) unwritten))
    ++ all_rows (map (λ u. rows 15 (station_told (appended u.bytes u.k u.station (clock 1)).station)
    (station_told u.station)) unwritten)
    -- G16: the same in starting: 8, and 12
    ++ rows 16 (started (chosen 5 300 300 300 0 600) (nines 18) ++ started many_settings (nines 15)) (nines 33)
