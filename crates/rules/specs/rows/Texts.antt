-- Words for the rows of texts: octets put together, and whether they are a text and what it says, told as numbers.
use Rattle.std.specs.Prelude.{ℕ, zero, suc, List, [], ◌∷◌, ◌++◌, map, length, replicate}
use Prim.Native.String.{String}
use Rattle.rules_json.specs.Abnf.{octets}
use Rattle.rules_json.specs.Reader.{is_text, text_said, value_size}
use Rattle.rules_json.specs.Tree.{Scalar, Tree, Value, array, false_literal, null_literal}
use Rattle.rules_json.specs.Tree.{number, object, scalar, string, true_literal}
use Rattle.rules.specs.Words.{count}
use Rattle.rules.specs.rows.Row.{digits, together}

-- ---- octets

-- between two quotation marks
abbrev pub quoted : List ℕ → List ℕ
quoted s = 0x22 ∷ s ++ (0x22 ∷ [])

-- with n lists around it, with n objects, and with n lists of an object each
abbrev pub in_lists : ℕ → List ℕ → List ℕ
in_lists n s = replicate n 0x5B ++ (s ++ replicate n 0x5D)

abbrev pub in_objects : ℕ → List ℕ → List ℕ
in_objects n s = together (replicate n (octets "{\"a\":")) ++ (s ++ replicate n 0x7D)

abbrev pub in_both : ℕ → List ℕ → List ℕ
in_both n s = together (replicate n (octets "[{\"a\":")) ++ (s ++ together (replicate n (octets "}]")))

-- with one more octet before each of its octets in turn, and behind the last
abbrev pub insertions : ℕ → List ℕ → List (List ℕ)
insertions b [] = (b ∷ []) ∷ []
insertions b (x ∷ s) = (b ∷ x ∷ s) ∷ map (λ t. x ∷ t) (insertions b s)

-- with each of its octets in turn another, left out, and doubled
abbrev pub replacements : ℕ → List ℕ → List (List ℕ)
replacements b [] = []
replacements b (x ∷ s) = (b ∷ s) ∷ map (λ t. x ∷ t) (replacements b s)

abbrev pub omissions : List ℕ → List (List ℕ)
omissions [] = []
omissions (x ∷ s) = s ∷ map (λ t. x ∷ t) (omissions s)

abbrev pub doublings : List ℕ → List (List ℕ)
doublings [] = []
doublings (x ∷ s) = (x ∷ x ∷ s) ∷ map (λ t. x ∷ t) (doublings s)

-- a word with each of its letters in turn another, left out, and doubled
abbrev pub misspelt : List ℕ → List (List ℕ)
misspelt word = replacements 0x78 word ++ (omissions word ++ doublings word)

-- ---- whether it is a text

-- 1 where it is a text with lists and objects at most 8 deep, and 0 where it is not
abbrev pub texts : List (List ℕ) → List ℕ
texts l = digits (map (is_text 8) l)

-- the same of what is typed in ASCII
abbrev pub typed : List String → List ℕ
typed l = texts (map octets l)

-- of how many of the 256 octets a text is made
abbrev pub below : ℕ → List ℕ
below zero = []
below (suc n) = n ∷ below n

abbrev pub how_many : (ℕ → List ℕ) → ℕ
how_many made = count (λ b. is_text 8 (made b)) (below 256)

-- how many octets of a value stand at the head of what is typed
abbrev pub heads : List String → List ℕ
heads l = map (λ s. value_size 8 (octets s)) l

-- ---- what it says

abbrev pub counted : List ℕ → List ℕ
counted l = length l ∷ l

-- a number and a string: which of them it is, how long it is, and itself
abbrev pub number_told : List ℕ → List ℕ
number_told text = 4 ∷ counted text

abbrev pub string_told : List ℕ → List ℕ
string_told units = 5 ∷ counted units

abbrev pub scalar_told : Scalar → List ℕ
scalar_told false_literal = 1 ∷ []
scalar_told null_literal = 2 ∷ []
scalar_told true_literal = 3 ∷ []
scalar_told (number text) = number_told text
scalar_told (string units) = string_told units

-- an object and a list: which of them it is, how many are inside, and each of them; a member's name before its value
module _ {A : Type 0} where
  abbrev pub value_told : (A → List ℕ) → Value A → List ℕ
  value_told inner (scalar x) = scalar_told x
  value_told inner (object members) =
      6 ∷ length members ∷ together (map (λ m. counted m.name ++ inner m.value) members)
  value_told inner (array values) = 7 ∷ length values ∷ together (map inner values)

abbrev pub tree_told : (deep : ℕ) → Tree deep → List ℕ
tree_told zero x = scalar_told x
tree_told (suc deep) x = value_told (tree_told deep) x

abbrev pub says : List ℕ → List ℕ
says s = tree_told 8 (text_said 8 s)

-- the same of several, one after the other
abbrev pub all_say : List (List ℕ) → List ℕ
all_say l = together (map says l)
