-- Document 01, "Reports": a report of each kind. What the table shows as 0, and spare, is 0; the rest
-- is as given, within its limits or not.
use Rattle.std.specs.Prelude.{ℕ}
use Rattle.rules.specs.declared.Report.{Report}

-- A report is kind, a, b, spare and a value.
abbrev pub report : ℕ → ℕ → ℕ → ℕ → ℕ → Report
report kind a b spare value = record { kind = kind; a = a; b = b; spare = spare; value = value }

abbrev pub occupied : ℕ → ℕ → Report
occupied track island = report 1 track island 0 0

abbrev pub freed : ℕ → ℕ → Report
freed track island = report 2 track island 0 0

abbrev pub clock : ℕ → Report
clock ticks = report 3 0 0 0 ticks

abbrev pub failed : ℕ → ℕ → Report
failed track island = report 4 track island 0 0

abbrev pub restored : ℕ → ℕ → Report
restored track island = report 5 track island 0 0

abbrev pub condition : ℕ → ℕ → Report
condition head parts = report 6 head 0 0 parts

abbrev pub normalised : Report
normalised = report 7 0 0 0 0
