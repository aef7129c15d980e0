-- A planner's text: rows P1 to P15 for its lines, their words, and the words that a line may begin with. What is due is
-- read off the sentence that stands above each. \n is a line feed, \r a carriage return, \t a tab.
use Rattle.std.specs.Prelude.{ℕ, List, [], ◌∷◌, ◌++◌, map, eqb}
use Prim.Native.String.{String}
use Rattle.rules.specs.rows.Row.{Row, each, rows, together}
use Rattle.rules.specs.rows.Texts.{misspelt}
use Rattle.rules_json.specs.Abnf.{octets}
use Rattle.rules_plan.specs.Words.{lines, lower, name_of, pieces, uncommented, unmarked, words}
use Rattle.rules_plan.specs.rows.Told.{each_told, mark_typed, these}

-- between commas
abbrev pub parted : String → List ℕ
parted s = each_told (pieces (λ b. eqb b 0x2C) (octets s))

abbrev pub lines_in : String → List ℕ
lines_in s = each_told (lines (octets s))

abbrev pub words_in : String → List ℕ
words_in s = each_told (words (octets s))

-- octets that are no blanks: those beside the three, the line feed, the vertical tab 0B, the
-- form feed 0C, the space A0 of Latin-1
abbrev pub no_blanks : List ℕ
no_blanks = 0x00 ∷ 0x08 ∷ 0x0A ∷ 0x0B ∷ 0x0C ∷ 0x0E ∷ 0x1F ∷ 0x21 ∷ 0x2C ∷ 0x3B ∷ 0x85 ∷ 0xA0 ∷ []

-- the words that a line may begin with, in the order of the format: the settings, then the reports
abbrev pub all_names : List String
all_names =
    "tracks" ∷ "t1" ∷ "t2" ∷ "t3" ∷ "t4" ∷ "t5" ∷ "occupied" ∷ "free" ∷ "clock" ∷ "failed" ∷ "restored" ∷ "head"
    ∷ "normalise" ∷ "report" ∷ []

abbrev pub names_of : List String → List ℕ
names_of l = map (λ s. name_of (octets s)) l

abbrev pub word_rows : List Row
word_rows =
    -- P1: what is typed below is in ASCII
    rows 1 (octets "\t\n\r #09AZaz") (9 ∷ 10 ∷ 13 ∷ 32 ∷ 35 ∷ 48 ∷ 57 ∷ 65 ∷ 90 ∷ 97 ∷ 122 ∷ [])
    -- P2: pieces between the bytes that part a text: what stands between two of them, or before the first, may be empty
    ++ rows 2 (parted "ab,c") (these ("ab" ∷ "c" ∷ []))
    ++ rows 2 (parted ",a,,b") (these ("" ∷ "a" ∷ "" ∷ "b" ∷ []))
    ++ rows 2 (parted "") []
    -- and behind one at the very end there is none
    ++ rows 2 (parted "a,") (these ("a" ∷ []))
    ++ rows 2 (parted ",") (these ("" ∷ []))
    ++ rows 2 (parted ",,") (these ("" ∷ "" ∷ []))
    -- P3: Lines end in a line feed: the last one with it or without
    ++ rows 3 (lines_in "t1 1\nt2 2\n") (these ("t1 1" ∷ "t2 2" ∷ []))
    ++ rows 3 (lines_in "t1 1\nt2 2") (these ("t1 1" ∷ "t2 2" ∷ []))
    ++ rows 3 (lines_in "\n\na\n \n") (these ("" ∷ "" ∷ "a" ∷ " " ∷ []))
    -- P4: and in no other byte: a carriage return, a vertical tab, a form feed
    ++ rows 4 (lines_in "a\r\nb\rc\n") (these ("a\r" ∷ "b\rc" ∷ []))
    ++ rows 4 (each_told (lines (0x09 ∷ 0x0B ∷ 0x0C ∷ 0x85 ∷ []))) (4 ∷ 0x09 ∷ 0x0B ∷ 0x0C ∷ 0x85 ∷ [])
    -- P5: a byte order mark at the very start is passed over
    ++ rows 5 (unmarked (mark_typed ++ octets "t1 1")) (octets "t1 1")
    ++ rows 5 (unmarked mark_typed) []
    -- one of them
    ++ rows 5 (unmarked (mark_typed ++ mark_typed)) mark_typed
    -- P6: what is no byte order mark stays: none, its first two bytes, another one at each place, and one further on
    ++ rows 6 (unmarked []) []
    ++ rows 6 (unmarked (octets "t1 1")) (octets "t1 1")
    ++ rows 6 (unmarked (0xEF ∷ 0xBB ∷ [])) (0xEF ∷ 0xBB ∷ [])
    ++ rows 6 (unmarked (0xEE ∷ 0xBB ∷ 0xBF ∷ [])) (0xEE ∷ 0xBB ∷ 0xBF ∷ [])
    ++ rows 6 (unmarked (0xEF ∷ 0xBC ∷ 0xBF ∷ [])) (0xEF ∷ 0xBC ∷ 0xBF ∷ [])
    ++ rows 6 (unmarked (0xEF ∷ 0xBB ∷ 0xBE ∷ 0xBF ∷ [])) (0xEF ∷ 0xBB ∷ 0xBE ∷ 0xBF ∷ [])
    ++ rows 6 (unmarked (0x20 ∷ mark_typed)) (0x20 ∷ mark_typed)
    -- P7: `#` starts a comment to the end of its line: the first of them does
    ++ rows 7 (uncommented (octets "t1 1 # one")) (octets "t1 1 ")
    ++ rows 7 (uncommented (octets "t1 1#a#b")) (octets "t1 1")
    ++ rows 7 (uncommented (octets "#t1 1")) []
    ++ rows 7 (uncommented (octets "##")) []
    -- P8: a line without one stays as it is, and neither " nor $, which stand beside it, starts one
    ++ rows 8 (uncommented (octets "t1 1 \" $ // ;")) (octets "t1 1 \" $ // ;")
    ++ rows 8 (uncommented []) []
    -- P9: space, tab and carriage return are blanks, one or several, before the words, between them and behind
    ++ rows 9 (words_in "t1 1") (these ("t1" ∷ "1" ∷ []))
    ++ rows 9 (words_in "t1\t1\r") (these ("t1" ∷ "1" ∷ []))
    ++ rows 9 (words_in "a\rb") (these ("a" ∷ "b" ∷ []))
    ++ rows 9 (words_in " \t head  \r\t 1 \t\t 8\t") (these ("head" ∷ "1" ∷ "8" ∷ []))
    -- P10: a line of blanks alone has no words
    ++ rows 10 (words_in "" ++ (words_in " " ++ (words_in "\r" ++ words_in " \t \r "))) []
    -- P11: no other byte is a blank
    ++ rows 11 (each_told (words no_blanks)) (12 ∷ no_blanks)
    -- P12: words in either case: A to Z, and no other byte
    ++ rows 12 (map lower (octets "AMZ")) (octets "amz")
    ++ rows 12 (map lower (octets "amz0159@[`{")) (octets "amz0159@[`{")
    ++ rows 12 (map lower (0x00 ∷ 0x7F ∷ 0xC1 ∷ 0xDA ∷ 0xFF ∷ [])) (0x00 ∷ 0x7F ∷ 0xC1 ∷ 0xDA ∷ 0xFF ∷ [])
    -- P13: the settings are tracks and t1 to t5; the reports occupied, free, clock, failed,
    -- restored, head, normalise, report
    ++ rows 13 (names_of all_names) (0 ∷ 1 ∷ 2 ∷ 3 ∷ 4 ∷ 5 ∷ 6 ∷ 7 ∷ 8 ∷ 9 ∷ 10 ∷ 11 ∷ 12 ∷ 13 ∷ [])
    -- P14: in either case
    ++ rows 14 (names_of ("TRACKS" ∷ "T1" ∷ "T2" ∷ "T3" ∷ "T4" ∷ "T5" ∷ [])) (0 ∷ 1 ∷ 2 ∷ 3 ∷ 4 ∷ 5 ∷ [])
    ++ rows 14 (names_of ("OCCUPIED" ∷ "FREE" ∷ "CLOCK" ∷ "FAILED" ∷ "RESTORED" ∷ "HEAD" ∷ "NORMALISE" ∷ "REPORT" ∷ []))
    (6 ∷ 7 ∷ 8 ∷ 9 ∷ 10 ∷ 11 ∷ 12 ∷ 13 ∷ [])
    ++ rows 14 (names_of ("Tracks" ∷ "fREE" ∷ "nOrMaLiSe" ∷ [])) (0 ∷ 7 ∷ 12 ∷ [])
    -- P15: and no other word is one: each letter in turn another, left out, or doubled
    ++ each 15 14 (together (map (λ s. map name_of (misspelt (octets s))) all_names))
    ++ each 15 14 (names_of ("" ∷ "t" ∷ "t0" ∷ "t6" ∷ "t11" ∷ "1" ∷ "track" ∷ "trackst1" ∷ "freed" ∷ "normalize"
    ∷ "normal" ∷ "ticks" ∷ "[rom" ∷ []))
    ++ each 15 14 (map name_of ((mark_typed ++ octets "t1") ∷ (0x54 ∷ 0x11 ∷ []) ∷ []))
