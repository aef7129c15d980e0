-- A planner's text in bytes: its lines, their words, and the words that a line may begin with.
use Rattle.std.specs.Prelude.{ℕ, suc, ◌+◌, Bool, cond, not, ◌||◌, List, [], ◌∷◌, map, eqb, drop, get_or, take}
use Rattle.rules.specs.Screen.{is_empty, same}
use Rattle.rules.specs.Words.{within}
use Rattle.rules_json.specs.Abnf.{octets}

-- ---- pieces

-- a byte in front of the first piece
abbrev pub onto : ℕ → List (List ℕ) → List (List ℕ)
onto b [] = (b ∷ []) ∷ []
onto b (piece ∷ pieces) = (b ∷ piece) ∷ pieces

-- The pieces of a text between the bytes that part it. Behind a parting byte at the very end there is none.
unfoldable pub pieces : (ℕ → Bool) → List ℕ → List (List ℕ)
pieces parts [] = []
pieces parts (b ∷ text) = cond (parts b) ([] ∷ pieces parts text) (onto b (pieces parts text))

module _ {A : Type 0} where
  -- those that pass the test, in their order
  abbrev pub filtered : (A → Bool) → List A → List A
  filtered p [] = []
  filtered p (x ∷ xs) = cond (p x) (x ∷ filtered p xs) (filtered p xs)

-- ---- lines

-- a byte order mark
abbrev pub mark : List ℕ
mark = 0xEF ∷ 0xBB ∷ 0xBF ∷ []

-- how many bytes of a text are one
unfoldable pub mark_size : List ℕ → ℕ
mark_size text = cond (same (take 3 text) mark) 3 0

-- A byte order mark at the very start is passed over.
unfoldable pub unmarked : List ℕ → List ℕ
unmarked text = drop (mark_size text) text

-- Lines end in a line feed.
abbrev pub line_feed : ℕ → Bool
line_feed b = eqb b 10

abbrev pub lines : List ℕ → List (List ℕ)
lines text = pieces line_feed text

-- A # starts a comment, to the end of its line.
abbrev pub hash : ℕ → Bool
hash b = eqb b 35

unfoldable pub uncommented : List ℕ → List ℕ
uncommented line = get_or (pieces hash line) 0 []

-- ---- words

-- a space, a tab or a carriage return
abbrev pub blank : ℕ → Bool
blank b = eqb b 32 || eqb b 9 || eqb b 13

-- Words stand between blanks.
unfoldable pub words : List ℕ → List (List ℕ)
words line = filtered (λ word. not (is_empty word)) (pieces blank line)

-- Words are taken in either case.
abbrev pub lower : ℕ → ℕ
lower b = cond (within 65 90 b) (b + 32) b

-- ---- the words that a line may begin with

abbrev pub names : List (List ℕ)
names =
    octets "tracks"
    ∷ octets "t1"
    ∷ octets "t2"
    ∷ octets "t3"
    ∷ octets "t4"
    ∷ octets "t5"
    ∷ octets "occupied"
    ∷ octets "free"
    ∷ octets "clock"
    ∷ octets "failed"
    ∷ octets "restored"
    ∷ octets "head"
    ∷ octets "normalise"
    ∷ octets "report"
    ∷ []

-- the place of a word among others, counted from 0; past the last where it is none of them
abbrev pub place_among : List (List ℕ) → List ℕ → ℕ
place_among [] word = 0
place_among (name ∷ others) word = cond (same word name) 0 (suc (place_among others word))

-- 0 to 13, and 14 for any other word
unfoldable pub name_of : List ℕ → ℕ
name_of word = place_among names (map lower word)

abbrev pub other_word : ℕ
other_word = 14

-- for a line with no word
abbrev pub no_word : ℕ
no_word = 15
