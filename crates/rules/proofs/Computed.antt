-- The definitions that the rows compute with. Whoever says `unfolding computed` opens them all.
use Rattle.rules_json.specs.Reader.{blanks, bracketed_said, bracketed_size, is_text, name_size}
use Rattle.rules_json.specs.Reader.{text_said, text_size, value_said, value_size}
use Rattle.rules_json.specs.Reader.{char_size, char_units, decoded, escape_size, string_size, string_units, utf8_size}
use Rattle.rules_json.specs.Reader.{digits, exp_size, frac_size, int_size, number_size, scalar_said, scalar_size}
use Rattle.rules_json.specs.Utf8.{utf16}
use Rattle.rules.specs.Answers.{answer_of, form_answer, place_answer, state_answer, station_after, taken}
use Rattle.rules.specs.Aspect.{aspect_of, fresh_advance, fresh_near, greatest_risk}
use Rattle.rules.specs.Aspect.{presence_of, present, some_fresh, some_held}
use Rattle.rules.specs.Heads.{head_outputs, heads_of}
use Rattle.rules.specs.Kinds.{kind_of}
use Rattle.rules.specs.Layout.{entry_at, entry_of, header, report_in, settings_in}
use Rattle.rules.specs.Outputs.{outputs_of}
use Rattle.rules.specs.Printer.{decimal, length_written, printed, refusal_line, row_line}
use Rattle.rules.specs.Printer.{row_lines, sheet_of, title, written, zones_of}
use Rattle.rules.specs.Register.{after, append_answer, appended, appended_bytes, entry_answer, first_wrong}
use Rattle.rules.specs.Register.{handed_back, handed_back_at, head_answer, length_answer, read_answer, read_of}
use Rattle.rules.specs.Register.{reading_of, register_answer, start_answer, started, step_answer, step_of}
use Rattle.rules.specs.Reports.{acted, all_older, detector_now, fault_latched, free_now, hold_lowered, hold_set, late}
use Rattle.rules.specs.Reports.{leaving_mark, occupied_now, older, older_track, tick, ticks, with_island}
use Rattle.rules.specs.Screen.{after_writing, is_taken, message_fits, message_of, our_number, reading_answer}
use Rattle.rules.specs.Screen.{received, tracks_of, writing_answer, written_of}
use Rattle.rules.specs.Siting.{advance_sited, warning_sited}
use Rattle.rules.specs.Station.{fresh_station, made, obstructed, settings_answer, some_failed, some_occupied}
use Rattle.rules.specs.Station.{track_at, with_condition, with_track, within_limits}
use Rattle.rules.specs.Words.{◌if◌then◌, ◌▷◌}

of_words : Unit {0}
unfolding ◌if◌then◌ ◌▷◌
of_words = tt

of_signals : Unit {0}
unfolding head_outputs outputs_of
of_signals = tt

of_siting : Unit {0}
unfolding advance_sited warning_sited
of_siting = tt

of_marks : Unit {0}
unfolding detector_now free_now leaving_mark occupied_now with_island
of_marks = tt

of_tracks : Unit {0}
unfolding late older older_track fresh_advance fresh_near present some_fresh some_held some_failed some_occupied
    within_limits
of_tracks = tt

of_stations : Unit {0}
unfolding aspect_of greatest_risk heads_of presence_of zones_of fresh_station made obstructed settings_answer track_at
    with_condition with_track
of_stations = tt

of_the_clock : Unit {0}
unfolding all_older fault_latched hold_lowered hold_set tick ticks
of_the_clock = tt

of_reports : Unit {0}
unfolding answer_of form_answer place_answer state_answer acted kind_of station_after taken
of_reports = tt

of_the_layout : Unit {0}
unfolding entry_at entry_of header report_in settings_in
of_the_layout = tt

of_registers : Unit {0}
unfolding append_answer head_answer length_answer register_answer start_answer appended appended_bytes started
    after first_wrong
of_registers = tt

of_readings : Unit {0}
unfolding entry_answer handed_back handed_back_at read_answer read_of reading_of step_answer step_of
of_readings = tt

of_sheets : Unit {0}
unfolding refusal_line row_line title printed row_lines sheet_of decimal length_written written
of_sheets = tt

of_strings : Unit {0}
unfolding utf16 utf8_size decoded escape_size char_size char_units string_size string_units
of_strings = tt

of_scalars : Unit {0}
unfolding digits int_size frac_size exp_size number_size scalar_size scalar_said
of_scalars = tt

of_texts : Unit {0}
unfolding blanks bracketed_size bracketed_said name_size value_size value_said text_size is_text text_said
of_texts = tt

of_messages : Unit {0}
unfolding Rattle.rules.specs.Screen.written message_of message_fits writing_answer written_of after_writing
of_messages = tt

of_received : Unit {0}
unfolding is_taken our_number tracks_of reading_answer received
of_received = tt

of_screens : Unit {0}
unfolding of_strings of_scalars of_texts of_messages of_received
of_screens = tt

unfoldable pub computed : Unit {0}
unfolding of_words of_signals of_siting of_marks of_tracks of_stations of_the_clock of_reports of_the_layout
    of_registers of_readings
    of_sheets of_screens
computed = tt
