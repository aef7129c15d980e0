-- What is wrong with a line where it stands, and what has been said with it: of a setting, of a report, of neither.
-- Assumes nothing.
use Prim.Native.Nat.{ℕ, suc}
use mathlib.Core.Bool.{Bool, cond, false, not, true, ◌&&◌}
use mathlib.Core.List.{List, [], ◌∷◌}
use mathlib.Core.Path.{◌≡◌, refl}
use lib.Dec.{leb}
use lib.ListN.{set}
use Rattle.recorder.specs.Saying.{setting_line}
use Rattle.rules.specs.Station.{within_limits}
use Rattle.rules.specs.Words.{any, ◌if◌then◌, ◌▷◌}
use Rattle.rules.specs.declared.Report.{Report}
use Rattle.rules_plan.specs.Answered.{fault_number, report_number, setting_number}
use Rattle.rules_plan.specs.Faults.{all_given, given_already, line_fault, with_line, with_setting}
use Rattle.rules_plan.specs.declared.Fault.{Fault}
use Rattle.rules_plan.specs.declared.Line.{Line}
use Rattle.rules_plan.specs.declared.ReportWord.{ReportWord}
use Rattle.rules_plan.specs.declared.Said.{Said}
use Rattle.rules_plan.specs.declared.Setting.{Setting}
use Rattle.std.specs.List.{list_all}

pub all_is : (given : List Bool) → list_all (λ b. b) given ≡ not (any not given)
all_is [] = refl
all_is (true ∷ given) = all_is given
all_is (false ∷ given) = refl

-- ---- its words by themselves

pub words_first : (s : Said) (name : ℕ) (fault : Fault) (numbers : Report)
    → fault_number fault ≡ line_fault s (record { name = name; fault = fault_number fault; numbers = numbers })
unfolding line_fault ◌▷◌
words_first s name Fault.NotAName numbers = refl
words_first s name Fault.NumberMissing numbers = refl
words_first s name Fault.WordTooMany numbers = refl
words_first s name Fault.NotAByte numbers = refl
words_first s name Fault.NotSixteenBits numbers = refl
words_first s name Fault.LateSetting numbers = refl
words_first s name Fault.SetAlready numbers = refl
words_first s name Fault.SettingsMissing numbers = refl
words_first s name Fault.SettingsOutside numbers = refl
words_first s name Fault.TooManyReports numbers = refl

-- ---- a setting

module _ (s : Said) (numbers : Report) where
  abbrev set_fault : Setting → ℕ
  set_fault setting =
      let l = setting_line setting numbers in
      cond (leb 1 s.reports) 6
      (cond (given_already s l) 7
      (cond (all_given (with_line s l) && not (within_limits (with_line s l).settings)) 9 0))

  pub setting_fault : (setting : Setting) → line_fault s (setting_line setting numbers) ≡ set_fault setting
  unfolding line_fault ◌if◌then◌ ◌▷◌
  setting_fault Setting.Tracks = refl
  setting_fault Setting.T1 = refl
  setting_fault Setting.T2 = refl
  setting_fault Setting.T3 = refl
  setting_fault Setting.T4 = refl
  setting_fault Setting.T5 = refl

  abbrev setting_said : Setting → Said
  setting_said setting =
      record {
        given = set s.given (setting_number setting) true;
        settings = with_setting s.settings (setting_line setting numbers);
        reports = s.reports;
      }

  pub with_a_setting : (setting : Setting) → with_line s (setting_line setting numbers) ≡ setting_said setting
  unfolding with_line
  with_a_setting Setting.Tracks = refl
  with_a_setting Setting.T1 = refl
  with_a_setting Setting.T2 = refl
  with_a_setting Setting.T3 = refl
  with_a_setting Setting.T4 = refl
  with_a_setting Setting.T5 = refl

  -- ---- a report

  abbrev report_line : ReportWord → Line
  report_line word = record { name = report_number word; fault = 0; numbers = numbers }

  pub report_fault : (word : ReportWord)
      → line_fault s (report_line word) ≡ cond (not (all_given s)) 8 (cond (leb 8190 s.reports) 10 0)
  unfolding line_fault ◌if◌then◌ ◌▷◌
  report_fault ReportWord.Occupied = refl
  report_fault ReportWord.Free = refl
  report_fault ReportWord.Clock = refl
  report_fault ReportWord.Failed = refl
  report_fault ReportWord.Restored = refl
  report_fault ReportWord.Head = refl
  report_fault ReportWord.Normalise = refl
  report_fault ReportWord.Report = refl

  pub with_a_report : (word : ReportWord)
      → with_line s (report_line word)
      ≡ record { given = s.given; settings = s.settings; reports = suc s.reports }
  unfolding with_line
  with_a_report ReportWord.Occupied = refl
  with_a_report ReportWord.Free = refl
  with_a_report ReportWord.Clock = refl
  with_a_report ReportWord.Failed = refl
  with_a_report ReportWord.Restored = refl
  with_a_report ReportWord.Head = refl
  with_a_report ReportWord.Normalise = refl
  with_a_report ReportWord.Report = refl

  -- ---- neither

  abbrev other_line : Line
  other_line = record { name = 14; fault = 0; numbers = numbers }

  abbrev empty_line : Line
  empty_line = record { name = 15; fault = 0; numbers = numbers }

  pub other_fault : line_fault s other_line ≡ 0
  unfolding line_fault ◌if◌then◌ ◌▷◌
  other_fault = refl

  pub empty_fault : line_fault s empty_line ≡ 0
  unfolding line_fault ◌if◌then◌ ◌▷◌
  empty_fault = refl

  pub with_other : with_line s other_line ≡ s
  unfolding with_line
  with_other = refl

  pub with_empty : with_line s empty_line ≡ s
  unfolding with_line
  with_empty = refl

-- what `with_line` rests on
pub ruleset lines_said =
    (words_first, report_fault, with_a_report, other_fault, empty_fault, with_other, with_empty)

-- what `with_setting` rests on
pub ruleset settings_said = (setting_fault, with_a_setting)
