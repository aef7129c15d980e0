-- What is wrong with a planner's text: the first line that is not understood where it stands.
use Rattle.std.specs.Prelude.{ℕ, suc, Bool, true, false, cond, not, ◌&&◌, List, [], ◌∷◌, eqb, leb, get_or, replicate, set}
use Rattle.rules.specs.Station.{within_limits}
use Rattle.rules.specs.Words.{any, ◌if◌then◌, ◌▷◌}
use Rattle.rules.specs.declared.Settings.{Settings}
use Rattle.rules_plan.specs.Lines.{is_report, is_setting, line_of, understood}
use Rattle.rules_plan.specs.Words.{lines, unmarked}
use Rattle.rules_plan.specs.declared.Checked.{Checked}
use Rattle.rules_plan.specs.declared.Line.{Line}
use Rattle.rules_plan.specs.declared.Said.{Said}

-- ---- what may be wrong with a line where it stands

-- a setting after the first report
abbrev pub late_setting : ℕ
late_setting = 6

-- a setting that was given already
abbrev pub set_already : ℕ
set_already = 7

-- a report before all six settings
abbrev pub settings_missing : ℕ
settings_missing = 8

-- the setting with which all six are given, where the six are outside their limits
abbrev pub settings_outside : ℕ
settings_outside = 9

-- more than 8,190 reports
abbrev pub too_many_reports : ℕ
too_many_reports = 10

-- the text ends before all six settings
abbrev pub text_ends : ℕ
text_ends = 11

-- ---- what the lines so far have said

unfoldable pub nothing_said : Said
nothing_said =
    record {
      given = replicate 6 false;
      settings = record { tracks = 0; t1 = 0; t2 = 0; t3 = 0; t4 = 0; t5 = 0 };
      reports = 0;
    }

unfoldable pub all_given : Said → Bool
all_given s = not (any not s.given)

abbrev pub given_already : Said → Line → Bool
given_already s l = get_or s.given l.name false

-- the settings with one of them as a line has it
unfoldable pub with_setting : Settings → Line → Settings
with_setting c l =
    record {
      tracks = cond (eqb l.name 0) l.numbers.a c.tracks;
      t1 = cond (eqb l.name 1) l.numbers.value c.t1;
      t2 = cond (eqb l.name 2) l.numbers.value c.t2;
      t3 = cond (eqb l.name 3) l.numbers.value c.t3;
      t4 = cond (eqb l.name 4) l.numbers.value c.t4;
      t5 = cond (eqb l.name 5) l.numbers.value c.t5;
    }

unfoldable pub with_line : Said → Line → Said
with_line s l =
    cond
    (is_setting l)
    (record { given = set s.given l.name true; settings = with_setting s.settings l; reports = s.reports })
    (record { given = s.given; settings = s.settings; reports = cond (is_report l) (suc s.reports) s.reports })

-- ---- the first line that is not understood

-- A line's words by themselves come first.
unfoldable pub line_fault : Said → Line → ℕ
line_fault s l =
    l.fault
    ▷ late_setting if is_setting l && leb 1 s.reports then
    set_already if is_setting l && given_already s l then
    settings_outside if is_setting l && all_given (with_line s l) && not (within_limits (with_line s l).settings) then
    settings_missing if is_report l && not (all_given s) then
    too_many_reports if is_report l && leb 8190 s.reports then
    understood

-- from a line on, which is counted from 1, after what was said before it
unfoldable pub checked_from : ℕ → Said → List (List ℕ) → Checked
checked_from line s [] = record { fault = text_ends if not (all_given s) then understood; line = 0; said = s }
checked_from line s (l ∷ ls) =
    cond
    (eqb (line_fault s (line_of l)) understood)
    (checked_from (suc line) (with_line s (line_of l)) ls)
    (record { fault = line_fault s (line_of l); line = line; said = s })

unfoldable pub checked : List ℕ → Checked
checked text = checked_from 1 nothing_said (lines (unmarked text))
