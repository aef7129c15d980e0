-- The definitions that the rows compute with. Whoever says `unfolding computed` opens them all, those of rules too.
use Rattle.rules_plan.specs.Faults.{all_given, checked, checked_from, line_fault, nothing_said, with_line, with_setting}
use Rattle.rules_plan.specs.Lines.{line_of, line_said, mosts, numbers_of, words_fault}
use Rattle.rules_plan.specs.Recording.{entered, filled_with, lines_in, reports_in, started_with}
use Rattle.rules_plan.specs.Recording.{recorded_bytes, recorded_lines, recorded_of}
use Rattle.rules_plan.specs.Words.{mark_size, name_of, pieces, uncommented, unmarked, words}

of_words : Unit {0}
unfolding mark_size name_of pieces uncommented unmarked words
of_words = tt

of_lines : Unit {0}
unfolding line_of line_said mosts numbers_of words_fault
of_lines = tt

of_faults : Unit {0}
unfolding all_given checked checked_from line_fault nothing_said with_line with_setting
of_faults = tt

of_recording : Unit {0}
unfolding entered filled_with lines_in recorded_bytes recorded_lines recorded_of reports_in started_with
of_recording = tt

unfoldable pub computed : Unit {0}
unfolding Rattle.rules.proofs.Computed.computed of_words of_lines of_faults of_recording
computed = tt
