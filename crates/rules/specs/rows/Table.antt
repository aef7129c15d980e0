-- Document 01, "Rows to hold against the rules": C1 to C14, as rows of a single table. C13 and C14 are those of request
-- 5 of document 02, in decimetres.
use Rattle.std.specs.Prelude.{ℕ, List, [], ◌∷◌}
use Rattle.rules.specs.Heads.{head_outputs}
use Rattle.rules.specs.OfEachKind.{clock, freed, normalised, occupied}
use Rattle.rules.specs.Outputs.{outputs_of}
use Rattle.rules.specs.Siting.{advance_sited, warning_sited}
use Rattle.rules.specs.declared.Report.{Report}
use Rattle.rules.specs.declared.Seconds.{Seconds}
use Rattle.rules.specs.declared.Settings.{Settings}
use Rattle.rules.specs.rows.Machine.{Machine}
use Rattle.rules.specs.rows.Row.{Row, row}

-- Same settings unless said: 2 tracks, 300, 300, 300, 0, 600. Only T4 is said, at C9.
abbrev pub settings : ℕ → Settings
settings t4 = record { tracks = 2; t1 = 300; t2 = 300; t3 = 300; t4 = t4; t5 = 600 }

abbrev pub seconds : ℕ → Seconds
seconds number = record { 0 = number }

module _ (m : Machine) where
  -- the reports one after the other
  abbrev pub run : m.State → List Report → m.State
  run s [] = s
  run s (r ∷ rs) = run (m.after s r) rs

  -- what a state's aspect puts out
  abbrev pub outputs : m.State → ℕ
  outputs s = outputs_of (m.aspect s)

  -- Where the station stands at each row. "C3 to C10 after a normalise", that is after C2 where nothing else is said;
  -- "then" is after the row before. C11 is on a fresh station.
  abbrev pub c1 : m.State
  c1 = m.make (settings 0)

  abbrev pub c2 : m.State
  c2 = run c1 (normalised ∷ [])

  abbrev pub c3 : m.State
  c3 = run c2 (occupied 0 4 ∷ [])

  abbrev pub c4 : m.State
  c4 = run c3 (occupied 0 3 ∷ [])

  abbrev pub c5 : m.State
  c5 = run c4 (freed 0 4 ∷ occupied 0 2 ∷ occupied 0 1 ∷ freed 0 3 ∷ freed 0 2 ∷ [])

  abbrev pub c6 : m.State
  c6 = run c5 (occupied 0 0 ∷ freed 0 1 ∷ clock 299 ∷ [])

  abbrev pub c7 : m.State
  c7 = run c5 (occupied 1 4 ∷ [])

  abbrev pub c8 : m.State
  c8 = run c7 (occupied 0 0 ∷ freed 0 1 ∷ occupied 1 3 ∷ freed 1 4 ∷ [])

  abbrev pub c9 : m.State
  c9 = run (m.make (settings 50)) (normalised ∷ occupied 0 4 ∷ occupied 1 0 ∷ freed 1 0 ∷ [])

  abbrev pub c10 : m.State
  c10 = run c2 (occupied 0 3 ∷ [])

  abbrev pub c11 : m.State
  c11 = run c1 (occupied 0 4 ∷ [])

  abbrev pub table : List Row
  table =
      -- C1 fresh: aspect 5.
      row 1 (m.aspect c1) 5
      -- C2 normalised: aspect 0.
      ∷ row 2 (m.aspect c2) 0
      -- C3 island 4 occupied: 34.
      ∷ row 3 (outputs c3) 34
      -- C4 then island 3: 72.
      ∷ row 4 (outputs c4) 72
      -- C5 then 4 free, 2 occupied, 1 occupied, 3 free, 2 free: 1.
      ∷ row 5 (outputs c5) 1
      -- C6 then 0 occupied, 1 free, 299 ticks: 1;
      ∷ row 6 (outputs c6) 1
      -- one tick more: 260.
      ∷ row 6 (outputs (run c6 (clock 1 ∷ []))) 260
      -- C7 after C5, island 4 of track 1 occupied: 152.
      ∷ row 7 (outputs c7) 152
      -- C8 then track 0: 0 occupied, 1 free; track 1: 3 occupied, 4 free: 72.
      ∷ row 8 (outputs c8) 72
      -- C9 T4 = 50: island 4 of track 0 and island 0 of track 1 occupied, the latter freed: 152;
      ∷ row 9 (outputs c9) 152
      -- after 49 ticks 152;
      ∷ row 9 (outputs (run c9 (clock 49 ∷ []))) 152
      -- after 50, 34.
      ∷ row 9 (outputs (run c9 (clock 50 ∷ []))) 34
      -- C10 only island 3 occupied, 599 ticks: 260;
      ∷ row 10 (outputs (run c10 (clock 599 ∷ []))) 260
      -- 600: 0,
      ∷ row 10 (outputs (run c10 (clock 600 ∷ []))) 0
      -- and freeing it leaves 0.
      ∷ row 10 (outputs (run c10 (clock 600 ∷ freed 0 3 ∷ []))) 0
      -- C11 normalise with an island occupied: 7.
      ∷ row 11 (m.answer c11 normalised) 7
      -- C12 outputs 152 with condition 8: 128;
      ∷ row 12 (head_outputs 152 8) 128
      -- 48: 0;
      ∷ row 12 (head_outputs 152 48) 0
      -- 64: 24.
      ∷ row 12 (head_outputs 152 64) 24
      -- C13 155 km/h: two tracks 6,028;
      ∷ row 13 (warning_sited 155 2).distance.0 6028
      -- m = 0 12,917, and not ten times the rounded metres, 12,920;
      ∷ row 13 (advance_sited 155 (seconds 0)).distance.0 12917
      -- m = 6 15,500, and not in two parts, 12,917 + 2,584 = 15,501.
      ∷ row 13 (advance_sited 155 (seconds 6)).distance.0 15500
      -- C14 126 km/h, one track: 2,450.
      ∷ row 14 (warning_sited 126 1).distance.0 2450
      ∷ []
