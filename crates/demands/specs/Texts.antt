-- What is wrong with a planner's text, as a number from 1 to 11, and on which line. Of a line's words by themselves, of
-- a line where it stands, and of the end of a text: the numbers with their cases, in the words of rules_plan and in the
-- order in which they are tested. Then what is claimed:
-- each number is given exactly when its case holds and none before it does, and the first line
-- that is at fault decides.
use Rattle.std.specs.Prelude.{ℕ, suc, ◌≤◌, ◌<◌, ◌↔◌, ◌≡◌, Bool, true, false, List, [], ◌∷◌, get_or, length, take}
use Rattle.demands.specs.Exactly.{Cases, GivenExactly, otherwise, ◌when◌then◌}
use Rattle.rules.specs.Screen.{is_there, our_number}
use Rattle.rules.specs.Station.{within_limits}
use Rattle.rules_plan.specs.Faults.{all_given, checked, given_already, line_fault, nothing_said, with_line}
use Rattle.rules_plan.specs.Lines.{byte, is_report, is_setting, line_of, line_said, mosts, said, sixteen_bits}
use Rattle.rules_plan.specs.Words.{lines, other_word, unmarked}
use Rattle.rules_plan.specs.declared.Line.{Line}
use Rattle.rules_plan.specs.declared.Said.{Said}

-- ---- the words of a line by themselves

-- The word at a place behind the name is a number from 0 to the most that it may be there.
abbrev pub is_number_at : List ℕ → List (List ℕ) → ℕ → Bool
is_number_at each words place = is_there (our_number (get_or each place 0) (get_or words place []))

-- From left to right, the first word that is no such number stands where so much is the most.
pub record FirstWrong (most : ℕ) (each : List ℕ) (words : List (List ℕ)) : Type 0 where
  pub place : ℕ
  -- A number is meant there, and a word is there.
  pub meant : place < length each
  pub there : place < length words
  pub up_to : get_or each place 0 ≡ most
  pub wrong : is_number_at each words place ≡ false
  pub numbers_before : (k : ℕ) → k < place → is_number_at each words k ≡ true

-- a line that begins with a name, and the words behind it
abbrev pub of_words : ℕ → List (List ℕ) → Cases
of_words name behind =
    -- its first word is neither a setting nor a kind of report
    1 when name ≡ other_word then
    -- not a number from 0 to 255, where a byte is meant
    4 when FirstWrong byte (mosts name) behind then
    -- not a number from 0 to 65535, where sixteen bits are meant
    5 when FirstWrong sixteen_bits (mosts name) behind then
    -- a number is missing
    2 when length behind < length (mosts name) then
    -- a word is too many
    3 when length (mosts name) < length behind then
    otherwise 0

-- ---- a line where it stands

-- a setting with which all six are given
abbrev pub Completes : Said → Line → Type 0
Completes s l = (is_setting l ≡ true) × (all_given (with_line s l) ≡ true)

-- a line whose words are understood, after what was said before it
abbrev pub of_standing : Said → Line → Cases
of_standing s l =
    -- a setting after the first report
    6 when (is_setting l ≡ true) × (0 < s.reports) then
    -- a setting that was given already
    7 when (is_setting l ≡ true) × (given_already s l ≡ true) then
    -- the setting with which all six are given, where the six are outside their limits
    9 when Completes s l × (within_limits (with_line s l).settings ≡ false) then
    -- a report before all six settings
    8 when (is_report l ≡ true) × (all_given s ≡ false) then
    -- more than 8,190 reports
    10 when (is_report l ≡ true) × (8190 ≤ s.reports) then
    otherwise 0

-- ---- a text

abbrev pub lines_of : List ℕ → List (List ℕ)
lines_of text = lines (unmarked text)

-- what lines have said in the end, one after another, after what was said before them
unfoldable pub said_by : Said → List (List ℕ) → Said
said_by s [] = s
said_by s (l ∷ ls) = said_by (with_line s (line_of l)) ls

-- what the first k lines have said
abbrev pub said_before : List ℕ → ℕ → Said
said_before text k = said_by nothing_said (take k (lines_of text))

-- what is wrong with line k, counted from 0, where it stands
abbrev pub fault_on : List ℕ → ℕ → ℕ
fault_on text k = line_fault (said_before text k) (line_of (get_or (lines_of text) k []))

-- Line k is at fault, and none before it is.
abbrev pub FirstAtFault : List ℕ → ℕ → Type 0
FirstAtFault text k = (fault_on text k ≡ 0 → ⊥) × ((j : ℕ) → j < k → fault_on text j ≡ 0)

abbrev pub NoneAtFault : List ℕ → Type 0
NoneAtFault text = (j : ℕ) → j < length (lines_of text) → fault_on text j ≡ 0

-- the end of a text with no line at fault, whose lines have said so much
abbrev pub of_end : Said → Cases
of_end s =
    -- the text ends before all six settings
    11 when all_given s ≡ false then
    otherwise 0

-- What is told of a text: a line of it, counted from 1, or 0 for none.
pub record FirstDecides (text : List ℕ) : Type 0 where
  pub inside : (checked text).line ≤ length (lines_of text)
  -- A line is told exactly when it is the first at fault, with its fault and what was said before it;
  pub line : (k : ℕ) → k < length (lines_of text) → (checked text).line ≡ suc k ↔ FirstAtFault text k
  pub fault : (k : ℕ) → (checked text).line ≡ suc k → (checked text).fault ≡ fault_on text k
  pub before : (k : ℕ) → (checked text).line ≡ suc k → (checked text).said ≡ said_before text k
  -- and no line is told exactly when none is at fault, with what is wrong at the end, and what all lines have said.
  pub no_line : (checked text).line ≡ 0 ↔ NoneAtFault text
  pub end : (checked text).line ≡ 0 → GivenExactly (of_end (checked text).said) (checked text).fault
  pub all : (checked text).line ≡ 0 → (checked text).said ≡ said_by nothing_said (lines_of text)

-- ---- each number exactly in its case, and the first line that is at fault

pub record TextsAsStated : Type 0 where
  -- A line that begins with a name, by its words; one with no words is never wrong by them.
  pub words : (name : ℕ) (behind : List (List ℕ)) → GivenExactly (of_words name behind) (line_said name behind).fault
  pub no_words : (said []).fault ≡ 0
  -- A line where it stands: what is wrong with its words comes first.
  pub wrong_words : (s : Said) (l : Line) → (l.fault ≡ 0 → ⊥) → line_fault s l ≡ l.fault
  pub standing : (s : Said) (l : Line) → l.fault ≡ 0 → GivenExactly (of_standing s l) (line_fault s l)
  -- A text.
  pub text : (text : List ℕ) → FirstDecides text
