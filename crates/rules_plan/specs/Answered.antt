-- Where what a line or a text says is an enum: the number, and the values that C reads, for each of its cases.
use Rattle.std.specs.Prelude.{ℕ, ⊤, Option, None, Some, Result, Ok, Err}
use Rattle.rules_plan.specs.Faults.{late_setting, set_already, settings_missing, settings_outside, text_ends}
use Rattle.rules_plan.specs.Faults.{too_many_reports}
use Rattle.rules_plan.specs.Lines.{not_abyte, not_aname, not_sixteen_bits, number_missing, understood, word_too_many}
use Rattle.rules_plan.specs.Words.{no_word, other_word}
use Rattle.rules_plan.specs.declared.Fault.{Fault}
use Rattle.rules_plan.specs.declared.Line.{Line}
use Rattle.rules_plan.specs.declared.Misread.{Misread}
use Rattle.rules_plan.specs.declared.Recorded.{Recorded}
use Rattle.rules_plan.specs.declared.ReportWord.{ReportWord}
use Rattle.rules_plan.specs.declared.Setting.{Setting}
use Rattle.rules_plan.specs.declared.Spoken.{Spoken}
use Rattle.rules_plan.specs.declared.Word.{Word}

-- ---- a line

-- the places of the words among the names
abbrev pub setting_number : Setting → ℕ
setting_number Setting.Tracks = 0
setting_number Setting.T1 = 1
setting_number Setting.T2 = 2
setting_number Setting.T3 = 3
setting_number Setting.T4 = 4
setting_number Setting.T5 = 5

abbrev pub report_number : ReportWord → ℕ
report_number ReportWord.Occupied = 6
report_number ReportWord.Free = 7
report_number ReportWord.Clock = 8
report_number ReportWord.Failed = 9
report_number ReportWord.Restored = 10
report_number ReportWord.Head = 11
report_number ReportWord.Normalise = 12
report_number ReportWord.Report = 13

abbrev pub word_number : Word → ℕ
word_number (Word.Setting setting) = setting_number setting
word_number (Word.Report report) = report_number report
word_number Word.Other = other_word

abbrev pub first_word : Option Word → ℕ
first_word (Some word) = word_number word
first_word None = no_word

abbrev pub fault_number : Fault → ℕ
fault_number Fault.NotAName = not_aname
fault_number Fault.NumberMissing = number_missing
fault_number Fault.WordTooMany = word_too_many
fault_number Fault.NotAByte = not_abyte
fault_number Fault.NotSixteenBits = not_sixteen_bits
fault_number Fault.LateSetting = late_setting
fault_number Fault.SetAlready = set_already
fault_number Fault.SettingsMissing = settings_missing
fault_number Fault.SettingsOutside = settings_outside
fault_number Fault.TooManyReports = too_many_reports

abbrev pub fault_of : Result ⊤ Fault → ℕ
fault_of (Ok _) = understood
fault_of (Err fault) = fault_number fault

abbrev pub said_line : Spoken → Line
said_line s = record { name = first_word s.word; fault = fault_of s.understood; numbers = s.numbers }

-- ---- a text

-- Where the text ends too early no line is at fault, and its number is 0.
abbrev pub recorded_in : Result ℕ Misread → Recorded
recorded_in (Ok count) = record { fault = understood; line = 0; count = count }
recorded_in (Err (Misread.AtLine line fault)) = record { fault = fault_number fault; line = line; count = 0 }
recorded_in (Err Misread.TextEnds) = record { fault = text_ends; line = 0; count = 0 }
