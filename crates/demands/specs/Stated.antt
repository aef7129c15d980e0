-- Document 01, "The numbers it answers", and demand 1: "Any report, setting or register is taken or refused by a
-- number, .. Each number is given in its stated case only." For each thing that is answered: the numbers that it can be
-- answered with, each with its case in the table's words, in the order of "Order"; and so for the texts and messages of
-- document 02, request 1. At the end, that each answer is given so.
use Rattle.std.specs.Prelude.{ℕ, ◌+◌, ◌*◌, ◌-◌, ◌%◌, ◌≤◌, ◌<◌, ◌⊎◌, ◌≡◌, Bool, true, false, ◌&&◌, List, length}
use Rattle.demands.specs.Exactly.{Cases, GivenExactly, otherwise, ◌when◌then◌}
use Rattle.demands.specs.Screens.{Lacking, Readable, Says}
use Rattle.rules.specs.Answers.{already, answer_of, names_head, names_island, taken, wrong_fields}
use Rattle.rules.specs.Kinds.{kind_of}
use Rattle.rules.specs.Layout.{entries, entry_at, has_mark, settings_in, version_in}
use Rattle.rules.specs.Register.{after, appended, as_replayed, entry_answer, read_of, same_settings, start_answer, step_of}
use Rattle.rules.specs.Reports.{named_island}
use Rattle.rules.specs.Screen.{members_of, message_fits, received, written, written_of}
use Rattle.rules.specs.Siting.{advance_sited, message_good, speed_good, tracks_good, warning_sited}
use Rattle.rules.specs.Station.{made, obstructed, settings_answer, within_limits}
use Rattle.rules.specs.Words.{within}
use Rattle.rules.specs.declared.Message.{Message}
use Rattle.rules.specs.declared.Report.{Report}
use Rattle.rules.specs.declared.Seconds.{Seconds}
use Rattle.rules.specs.declared.Settings.{Settings}
use Rattle.rules.specs.declared.Station.{Station}
use Rattle.rules_json.specs.Tree.{Tree}

-- ---- a report

-- 1, 2, then 3 or 5, 4, and 6 or 7, where the station's settings have been tested
abbrev pub of_report : Station → Report → Cases
of_report s r =
    let kind = kind_of r.kind in
    -- kind is not 1 to 7
    1 when within 1 7 r.kind ≡ false then
    -- spare not 0, a field shown as 0 is not, clock value 0, condition above 1023
    2 when (r.spare ≡ 0 → ⊥) ⊎ (wrong_fields kind r ≡ true) then
    -- no such track
    3 when (names_island kind ≡ true) × (s.settings.tracks ≤ r.a) then
    -- head above 1
    5 when (names_head kind ≡ true) × (1 < r.a) then
    -- island above 4
    4 when (names_island kind ≡ true) × (4 < r.b) then
    -- occupied, free, failed or not failed already
    6 when already kind (named_island s r) ≡ true then
    -- normalise with an island occupied or a detector failed
    7 when (r.kind ≡ 7) × (obstructed s ≡ true) then
    otherwise 0

-- A report is tested for 8 (the station's settings), 1, 2, then 3 or 5, 4, and 6 or 7.
abbrev pub of_taking : Station → Report → Cases
of_taking s r =
    -- setting of a station handed in outside its limits
    8 when within_limits s.settings ≡ false then
    of_report s r

-- ---- settings, and the numbers of siting: nothing but their limits is tested

abbrev pub of_limits : Bool → Cases
of_limits good =
    -- setting or siting number outside its limits
    8 when good ≡ false then
    otherwise 0

-- ---- starting and appending

-- Starting: 8, 12.
abbrev pub of_starting : Settings → List ℕ → Cases
of_starting c b =
    -- setting outside its limits
    8 when within_limits c ≡ false then
    -- no room
    12 when length b < 16 then
    otherwise 0

-- 9, 10 come first wherever a register is read or appended to
abbrev pub of_header : List ℕ → Cases → Cases
of_header b rest =
    -- register shorter than 16 bytes or wrong mark
    9 when (length b < 16) ⊎ (has_mark b ≡ false) then
    -- version not 1
    10 when (version_in b ≡ 1 → ⊥) then
    rest

-- Appending: 9, 10, 8, 12 (k at 8,190 or more, or fewer than 16+8(k+1) bytes), and then the report.
abbrev pub of_appending : List ℕ → ℕ → Station → Report → Cases
of_appending b k s r =
    of_header b (
    -- setting (also of a station handed in) outside its limits; in appending, header settings not the station's
    8 when ((within_limits (settings_in b) ≡ false) ⊎ (within_limits s.settings ≡ false))
    ⊎ (same_settings (settings_in b) s.settings ≡ false) then
    -- no room
    12 when (8190 ≤ k) ⊎ (length b < 16 + 8 * (k + 1)) then
    of_report s r)

-- ---- reading, stepping and handing back

-- 9, 10, 11, 12, 8
abbrev pub of_register : List ℕ → Cases → Cases
of_register b rest =
    of_header b (
    -- length less 16 is no multiple of 8
    11 when ((length b - 16) % 8 ≡ 0 → ⊥) then
    -- more than 8,190 entries
    12 when 8190 < entries b then
    -- setting outside its limits
    8 when within_limits (settings_in b) ≡ false then
    rest)

-- an entry's answer or aspect isn't what the replay gives, among the first n
abbrev pub SomeWrong : List ℕ → ℕ → Type 0
SomeWrong b n = (j : ℕ) × (j < n) × (as_replayed (entry_at b j) (after b j) ≡ false)

-- Reading: 9, 10, 11, 12, 8, 13.
abbrev pub of_reading : List ℕ → Cases
of_reading b = of_register b (13 when SomeWrong b (entries b) then otherwise 0)

-- Handing back row k: 9, 10, 11, 12, 8, 14.
abbrev pub of_handing_back : List ℕ → ℕ → Cases
of_handing_back b k =
    of_register b (
    -- handing back a row above the count; handing back row 0
    14 when (k ≡ 0) ⊎ (entries b < k) then
    otherwise 0)

-- Stepping to row k: the same, then 13 among the first k entries only.
abbrev pub of_stepping : List ℕ → ℕ → Cases
of_stepping b k =
    of_register b (
    -- stepping back to a row above the count
    14 when entries b < k then
    13 when SomeWrong b k then
    otherwise 0)

-- ---- document 02, request 1: a text that is read, and a message that is written into a buffer of so many bytes

-- "15 not RFC 8259 text, too long or too deep; 16 one of our members missing, of another form
-- or outside its range; in that order"
abbrev pub of_receiving : List ℕ → Cases
of_receiving s =
    15 when (Readable s → ⊥) then
    16 when ((x : Tree 8) × Says x s × Lacking (members_of x)) then
    otherwise 0

-- "it answers 16, then 12 a buffer too short"
abbrev pub of_writing : Message → ℕ → Cases
of_writing m room =
    16 when message_fits m ≡ false then
    12 when room < length (written m) then
    otherwise 0

-- ---- "The numbers it answers": each is "given exactly when" its case holds, and none that "Order" tests before it

pub record AsStated : Type 0 where
  -- A report that is taken, and one of which the answer alone is asked.
  pub report : (s : Station) (r : Report) → GivenExactly (of_taking s r) (taken s r).answer
  pub report_asked : (s : Station) (r : Report) → GivenExactly (of_taking s r) (answer_of s r)
  -- Settings that a station is made of, and such of which the answer alone is asked.
  pub settings : (c : Settings) → GivenExactly (of_limits (within_limits c)) (made c).answer
  pub settings_asked : (c : Settings) → GivenExactly (of_limits (within_limits c)) (settings_answer c)
  -- The advance distance, of a speed and the seconds of the message.
  pub advance : (v : ℕ) (m : Seconds)
      → GivenExactly (of_limits (speed_good v && message_good m.0)) (advance_sited v m).answer
  -- The warning distance, of a speed and a number of tracks.
  pub warning : (v n : ℕ) → GivenExactly (of_limits (speed_good v && tracks_good n)) (warning_sited v n).answer
  -- A register that is started in the bytes lent.
  pub starting : (c : Settings) (b : List ℕ) → GivenExactly (of_starting c b) (start_answer c b)
  -- A report that is appended as entry k.
  pub appending : (b : List ℕ) (k : ℕ) (s : Station) (r : Report)
      → GivenExactly (of_appending b k s r) (appended b k s r).answer
  -- A register that is read.
  pub reading : (b : List ℕ) → GivenExactly (of_reading b) (read_of b).answer
  -- Row k of a register, handed back.
  pub handing_back : (b : List ℕ) (k : ℕ) → GivenExactly (of_handing_back b k) (entry_answer b k)
  -- Row k of a register, stepped to; a move of the browser answers as stepping does.
  pub stepping : (b : List ℕ) (k : ℕ) → GivenExactly (of_stepping b k) (step_of b k).answer
  -- A text that the desk sends.
  pub receiving : (s : List ℕ) → GivenExactly (of_receiving s) (received s).answer
  -- A message that is written into the bytes lent.
  pub writing : (m : Message) (b : List ℕ) → GivenExactly (of_writing m (length b)) (written_of m (length b)).answer
