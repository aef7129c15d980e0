-- What a line of a planner's text says: a setting, a report, or nothing; and what is wrong with
-- its words by themselves.
use Rattle.std.specs.Prelude.{ℕ, Bool, cond, not, ◌&&◌, List, [], ◌∷◌, eqb, leb, ltb, get_or}
use Rattle.rules.specs.OfEachKind.{clock, condition, failed, freed, normalised, occupied, report, restored}
use Rattle.rules.specs.Screen.{is_there, or_else, our_number}
use Rattle.rules.specs.Words.{◌if◌then◌, ◌▷◌}
use Rattle.rules.specs.declared.Report.{Report}
use Rattle.rules_plan.specs.Words.{name_of, no_word, other_word, uncommented, words}
use Rattle.rules_plan.specs.declared.Line.{Line}

-- ---- what may be wrong with the words of a line

abbrev pub understood : ℕ
understood = 0

-- its first word is neither a setting nor a kind of report
abbrev pub not_aname : ℕ
not_aname = 1

abbrev pub number_missing : ℕ
number_missing = 2

abbrev pub word_too_many : ℕ
word_too_many = 3

-- not a number from 0 to 255, where a byte is meant
abbrev pub not_abyte : ℕ
not_abyte = 4

-- not a number from 0 to 65535, where sixteen bits are meant
abbrev pub not_sixteen_bits : ℕ
not_sixteen_bits = 5

-- ---- the numbers behind a name

abbrev pub byte : ℕ
byte = 255

abbrev pub sixteen_bits : ℕ
sixteen_bits = 65535

-- the most that each of them may be
abbrev pub all_mosts : List (List ℕ)
all_mosts =
    -- tracks
    (byte ∷ [])
    -- t1, t2, t3, t4, t5
    ∷ (sixteen_bits ∷ [])
    ∷ (sixteen_bits ∷ [])
    ∷ (sixteen_bits ∷ [])
    ∷ (sixteen_bits ∷ [])
    ∷ (sixteen_bits ∷ [])
    -- occupied, free: track, island
    ∷ (byte ∷ byte ∷ [])
    ∷ (byte ∷ byte ∷ [])
    -- clock: ticks
    ∷ (sixteen_bits ∷ [])
    -- failed, restored: track, island
    ∷ (byte ∷ byte ∷ [])
    ∷ (byte ∷ byte ∷ [])
    -- head: head, condition
    ∷ (byte ∷ sixteen_bits ∷ [])
    -- normalise
    ∷ []
    -- report: kind, a, b, spare, value
    ∷ (byte ∷ byte ∷ byte ∷ byte ∷ sixteen_bits ∷ [])
    ∷ []

unfoldable pub mosts : ℕ → List ℕ
mosts name = get_or all_mosts name []

-- What is wrong with a word where a number up to a most is meant. A number is a word of decimal digits alone.
abbrev pub number_fault : ℕ → List ℕ → ℕ
number_fault most word =
    cond (eqb most byte) not_abyte not_sixteen_bits if not (is_there (our_number most word)) then understood

-- The words behind a name, from left to right.
unfoldable pub words_fault : List ℕ → List (List ℕ) → ℕ
words_fault [] [] = understood
words_fault [] (word ∷ words) = word_too_many
words_fault (most ∷ mosts) [] = number_missing
words_fault (most ∷ mosts) (word ∷ words) = number_fault most word ▷ words_fault mosts words

-- the number at a place behind the name (where it is none, the line is at fault, and 0 is read)
abbrev pub byte_at : List (List ℕ) → ℕ → ℕ
byte_at words place = or_else 0 (our_number byte (get_or words place []))

abbrev pub number_at : List (List ℕ) → ℕ → ℕ
number_at words place = or_else 0 (our_number sixteen_bits (get_or words place []))

-- They fill a report of their kind. A setting's one number fills the field of its size: tracks, which are a
-- byte, a; a timer, of sixteen bits, value.
unfoldable pub numbers_of : ℕ → List (List ℕ) → Report
numbers_of name words =
    get_or
    (
    -- tracks
    report 0 (byte_at words 0) 0 0 0
    -- t1, t2, t3, t4, t5
    ∷ report 0 0 0 0 (number_at words 0)
    ∷ report 0 0 0 0 (number_at words 0)
    ∷ report 0 0 0 0 (number_at words 0)
    ∷ report 0 0 0 0 (number_at words 0)
    ∷ report 0 0 0 0 (number_at words 0)
    ∷ occupied (byte_at words 0) (byte_at words 1)
    ∷ freed (byte_at words 0) (byte_at words 1)
    ∷ clock (number_at words 0)
    ∷ failed (byte_at words 0) (byte_at words 1)
    ∷ restored (byte_at words 0) (byte_at words 1)
    ∷ condition (byte_at words 0) (number_at words 1)
    ∷ normalised
    ∷ report (byte_at words 0) (byte_at words 1) (byte_at words 2) (byte_at words 3) (number_at words 4)
    ∷ [])
    name
    (report 0 0 0 0 0)

-- ---- a line

unfoldable pub line_said : ℕ → List (List ℕ) → Line
line_said name words =
    record {
      name = name;
      fault = not_aname if eqb name other_word then words_fault (mosts name) words;
      numbers = numbers_of name words;
    }

-- A line with no words says nothing.
abbrev pub said : List (List ℕ) → Line
said [] = record { name = no_word; fault = understood; numbers = report 0 0 0 0 0 }
said (word ∷ words) = line_said (name_of word) words

unfoldable pub line_of : List ℕ → Line
line_of line = said (words (uncommented line))

abbrev pub is_setting : Line → Bool
is_setting l = ltb l.name 6

abbrev pub is_report : Line → Bool
is_report l = leb 6 l.name && ltb l.name other_word
