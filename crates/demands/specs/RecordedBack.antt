-- Demand 2: "A register that we start and fill reads back to the same rows, and stepping back to any row gives
-- the station as it was after that row."
-- Here of the register that is recorded of a planner's text: it reads back to the reports that
-- the text says, in their order.
use Rattle.std.specs.Prelude.{ℕ, ◌-◌, ◌≤◌, ◌<◌, ◌≡◌, true, cond, List, [], ◌∷◌, eqb, drop, get_or, length, take}
use Rattle.demands.specs.ReadBack.{Filling, ReadsBack, ours, register}
use Rattle.demands.specs.Texts.{lines_of}
use Rattle.rules.specs.Layout.{entry_start}
use Rattle.rules.specs.OfEachKind.{report}
use Rattle.rules.specs.Station.{within_limits}
use Rattle.rules.specs.declared.Report.{Report}
use Rattle.rules.specs.declared.Settings.{Settings}
use Rattle.rules_plan.specs.Faults.{checked}
use Rattle.rules_plan.specs.Lines.{is_report, is_setting, line_of}
use Rattle.rules_plan.specs.Recording.{lines_said, recorded_bytes, recorded_lines, recorded_of, reports_said}
use Rattle.rules_plan.specs.declared.Line.{Line}

-- ---- a text's lines

-- what the line at a place says, counted from 0
abbrev pub line_at : List (List ℕ) → ℕ → Line
line_at ls k = line_of (get_or ls k [])

-- and the line with a number, counted from 1
abbrev pub line_numbered : List (List ℕ) → ℕ → Line
line_numbered ls number = line_at ls (number - 1)

-- ---- its settings

-- the number of a line that names a setting: tracks are a byte, a timer has sixteen bits
abbrev pub number_said : Line → ℕ
number_said l = cond (eqb l.name 0) l.numbers.a l.numbers.value

-- a setting by its place among the words that a line may begin with
abbrev pub setting_named : Settings → ℕ → ℕ
setting_named c name = get_or (c.tracks ∷ c.t1 ∷ c.t2 ∷ c.t3 ∷ c.t4 ∷ c.t5 ∷ []) name 0

-- A line begins with the word.
pub record Named (ls : List (List ℕ)) (name : ℕ) : Type 0 where
  pub place : ℕ
  pub within : place < length ls
  pub named : (line_at ls place).name ≡ name

-- ---- its reports

-- how many were entered
abbrev pub count_of : List ℕ → ℕ
count_of text = (recorded_of text).count

-- past the last report, where it matters to nobody
abbrev pub no_report : Report
no_report = report 0 0 0 0 0

abbrev pub report_at : List ℕ → ℕ → Report
report_at text k = get_or (reports_said text) k no_report

-- A register is started with the text's settings in the bytes lent, and filled with its reports.
abbrev pub filling_of : List ℕ → List ℕ → Filling
filling_of text lent = record { settings = (checked text).said.settings; lent = lent; report = report_at text }

-- ---- what is recorded of a text with nothing wrong

pub record RecordedBack (text lent : List ℕ) : Type 0 where
  -- No fault is told, and no line.
  pub fault : (recorded_of text).fault ≡ 0
  pub line : (recorded_of text).line ≡ 0
  -- All of the text's reports were entered, which a register has room for,
  pub count : count_of text ≡ length (reports_said text)
  pub few : count_of text ≤ 8190
  -- with settings that are taken: each is given on a line, and is the number on whatever line names it.
  pub settings : within_limits (checked text).said.settings ≡ true
  pub settings_given : (name : ℕ) → name < 6 → Named (lines_of text) name
  pub settings_said : (k : ℕ) → k < length (lines_of text) → is_setting (line_at (lines_of text) k) ≡ true
      → setting_named (checked text).said.settings (line_at (lines_of text) k).name
      ≡ number_said (line_at (lines_of text) k)
  -- The bytes lent hold the register of the text's settings and reports, and behind it what they held before.
  pub bytes : take (entry_start (count_of text)) (recorded_bytes text lent) ≡ register (filling_of text lent) (count_of text)
  pub beyond : drop (entry_start (count_of text)) (recorded_bytes text lent) ≡ drop (entry_start (count_of text)) lent
  -- It reads back: each row's entry is the report that the text says there, with the answer and the aspect of the
  -- rules, and stepping to any row gives the station after so many of the text's reports.
  pub back : ReadsBack ours (filling_of text lent) (count_of text)

-- A line is a report, and this one.
pub record Says (l : Line) (said : Report) : Type 0 where
  pub report : is_report l ≡ true
  pub numbers : l.numbers ≡ said

pub record LinesRecorded (text rows : List ℕ) : Type 0 where
  -- The list lent holds the number of each report's line in the reports' order, and behind them what it held before.
  pub numbers : take (count_of text) (recorded_lines text rows) ≡ lines_said text
  pub beyond : drop (count_of text) (recorded_lines text rows) ≡ drop (count_of text) rows
  pub size : length (recorded_lines text rows) ≡ length rows
  -- The line whose number stands at a row's place says the row's report.
  pub says : (k : ℕ) → k < count_of text
      → Says (line_numbered (lines_of text) (get_or (recorded_lines text rows) k 0)) (report_at text k)

-- ---- and of a text with something wrong: nothing

pub record MisreadLeaves (text : List ℕ) : Type 0 where
  pub count : count_of text ≡ 0
  pub bytes : (lent : List ℕ) → recorded_bytes text lent ≡ lent
  pub rows : (rows : List ℕ) → recorded_lines text rows ≡ rows

-- ---- of any text, and whatever is lent for it

pub record TextsRecorded : Type 0 where
  pub understood : (text lent : List ℕ) → (checked text).fault ≡ 0 → 65536 ≤ length lent → RecordedBack text lent
  pub lines : (text rows : List ℕ) → (checked text).fault ≡ 0 → 8190 ≤ length rows → LinesRecorded text rows
  pub misread : (text : List ℕ) → ((checked text).fault ≡ 0 → ⊥) → MisreadLeaves text
