-- A reader on lists. Each function tells how many octets of its rule stand at the head of a text, as many as can, and 0 where none do; beside it stands what
-- they say. That it takes exactly the texts of the rules is shown, and not believed.
use Rattle.std.specs.Prelude.{ℕ, zero, suc, ◌+◌, ◌-◌, ◌*◌, Bool, cond, true, not, ◌&&◌, ◌||◌, List, [], ◌∷◌, ◌++◌, Option, None, Some, eqb, ltb, drop, get_or, length, take}
use Rattle.rules_json.specs.Abnf.{octets, within}
use Rattle.rules_json.specs.Grammar.{blank, digit, e, escaped, four_hex, hexdig, sign}
use Rattle.rules_json.specs.Tree.{Member, Scalar, Tree, array, false_literal, null_literal, number, object, scalar, string, true_literal}
use Rattle.rules_json.specs.Utf8.{utf16}

-- ---- octets

-- the octet at a place: past the end it is 0, which no rule takes
abbrev pub at : List ℕ → ℕ → ℕ
at s place = get_or s place 0

-- how many at the head are of a class
abbrev pub leading : (ℕ → Bool) → List ℕ → ℕ
leading class [] = 0
leading class (b ∷ s) = cond (class b) (suc (leading class s)) 0

unfoldable pub blanks : List ℕ → ℕ
blanks s = leading blank s

unfoldable pub digits : List ℕ → ℕ
digits s = leading digit s

-- the place past so many octets that were read at a place: none where there are none
unfoldable pub past : ℕ → ℕ → Option ℕ
past at zero = None
past at (suc n) = Some (at + suc n)

-- n octets and m more, where there are more
abbrev pub further : ℕ → ℕ → ℕ
further n m = cond (eqb m 0) 0 (n + m)

-- whether a word stands from a place on
abbrev pub spells : List ℕ → ℕ → List ℕ → Bool
spells [] place s = true
spells (b ∷ word) place s = eqb (at s place) b && spells word (suc place) s

-- ---- numbers

abbrev pub minus_size : List ℕ → ℕ
minus_size s = cond (eqb (at s 0) 0x2D) 1 0

unfoldable pub int_size : List ℕ → ℕ
int_size s = cond (eqb (at s 0) 0x30) 1 (digits s)

unfoldable pub frac_size : List ℕ → ℕ
frac_size s = cond (eqb (at s 0) 0x2E) (further 1 (digits (drop 1 s))) 0

abbrev pub sign_size : List ℕ → ℕ
sign_size s = cond (sign (at s 0)) 1 0

unfoldable pub exp_size : List ℕ → ℕ
exp_size s = cond (e (at s 0)) (further (1 + sign_size (drop 1 s)) (digits (drop (1 + sign_size (drop 1 s)) s))) 0

-- what may follow the whole part
abbrev pub rest_size : List ℕ → ℕ
rest_size s = frac_size s + exp_size (drop (frac_size s) s)

-- what may follow the sign
abbrev pub unsigned_size : List ℕ → ℕ
unsigned_size s = cond (eqb (int_size s) 0) 0 (int_size s + rest_size (drop (int_size s) s))

unfoldable pub number_size : List ℕ → ℕ
number_size s = further (minus_size s) (unsigned_size (drop (minus_size s) s))

-- ---- characters of a string

-- UTF8-tail
abbrev pub tail : ℕ → Bool
tail b = within 0x80 0xBF b

-- the second octet behind the first of three or four: RFC 3629, section 4
abbrev pub second : ℕ → ℕ → Bool
second first b =
    within (cond (eqb first 0xE0) 0xA0 (cond (eqb first 0xF0) 0x90 0x80)) (cond (eqb first 0xED) 0x9F (cond (eqb first 0xF4) 0x8F 0xBF)) b

unfoldable pub utf8_size : List ℕ → ℕ
utf8_size s =
    cond (ltb (at s 0) 0x80) 1
    (cond (within 0xC2 0xDF (at s 0)) (cond (tail (at s 1)) 2 0)
    (cond (within 0xE0 0xEF (at s 0)) (cond (second (at s 0) (at s 1) && tail (at s 2)) 3 0)
    (cond (within 0xF0 0xF4 (at s 0)) (cond (second (at s 0) (at s 1) && tail (at s 2) && tail (at s 3)) 4 0) 0)))

-- the six bits of a following octet, below those in front of it
abbrev pub below : ℕ → ℕ → ℕ
below bits b = bits * 64 + (b - 0x80)

unfoldable pub decoded : List ℕ → ℕ
decoded s =
    cond (ltb (at s 0) 0x80) (at s 0)
    (cond (ltb (at s 0) 0xE0) (below (at s 0 - 0xC0) (at s 1))
    (cond (ltb (at s 0) 0xF0) (below (below (at s 0 - 0xE0) (at s 1)) (at s 2)) (below (below (below (at s 0 - 0xF0) (at s 1)) (at s 2)) (at s 3))))

unfoldable pub escape_size : List ℕ → ℕ
escape_size s =
    cond (eqb (at s 1) 0x75) (cond (hexdig (at s 2) && hexdig (at s 3) && hexdig (at s 4) && hexdig (at s 5)) 6 0)
    (cond (eqb (escaped (at s 1)) 0) 0 2)

unfoldable pub char_size : List ℕ → ℕ
char_size s = cond (ltb (at s 0) 0x20 || eqb (at s 0) 0x22) 0 (cond (eqb (at s 0) 0x5C) (escape_size s) (utf8_size s))

-- the code units of the character at the head, and none where there is no character
unfoldable pub char_units : List ℕ → List ℕ
char_units s =
    cond (eqb (char_size s) 0) []
    (cond (eqb (at s 0) 0x5C)
    (cond (eqb (at s 1) 0x75) (four_hex (at s 2) (at s 3) (at s 4) (at s 5) ∷ []) (escaped (at s 1) ∷ []))
    (utf16 (decoded s)))

-- ---- step by step

-- A step fails, is the last one, or goes on: with so many octets.
pub data Step : Type 0 where
  fails : Step
  last : ℕ → Step
  goes_on : ℕ → Step

abbrev pub size_after : Step → (ℕ → ℕ) → ℕ
size_after fails f = 0
size_after (last n) f = n
size_after (goes_on n) f = further n (f n)

-- as many octets as the steps take, at most so many steps
abbrev pub runs : (List ℕ → Step) → ℕ → List ℕ → ℕ
runs step zero s = 0
runs step (suc most) s = size_after (step s) (λ n. runs step most (drop n s))

module _ {A : Type 0} where
  abbrev pub said_after : Step → (ℕ → List A) → List A
  said_after fails f = []
  said_after (last n) f = []
  said_after (goes_on n) f = f n

  -- what the steps say, one after the other
  abbrev pub collects : (List ℕ → Step) → (List ℕ → List A) → ℕ → List ℕ → List A
  collects step says zero s = []
  collects step says (suc most) s = says s ++ said_after (step s) (λ n. collects step says most (drop n s))

-- ---- strings

abbrev pub string_step : List ℕ → Step
string_step s = cond (eqb (at s 0) 0x22) (last 1) (cond (eqb (char_size s) 0) fails (goes_on (char_size s)))

unfoldable pub string_size : List ℕ → ℕ
string_size s = cond (eqb (at s 0) 0x22) (further 1 (runs string_step (length s) (drop 1 s))) 0

unfoldable pub string_units : List ℕ → List ℕ
string_units s = collects string_step char_units (length s) (drop 1 s)

-- ---- scalars

abbrev pub word_size : List ℕ → List ℕ → ℕ
word_size word s = cond (spells word 0 s) (length word) 0

unfoldable pub scalar_size : List ℕ → ℕ
scalar_size s =
    cond (eqb (at s 0) 0x22) (string_size s)
    (cond (eqb (at s 0) 0x66) (word_size (octets "false") s)
    (cond (eqb (at s 0) 0x6E) (word_size (octets "null") s)
    (cond (eqb (at s 0) 0x74) (word_size (octets "true") s) (number_size s))))

unfoldable pub scalar_said : List ℕ → Scalar
scalar_said s =
    cond (eqb (at s 0) 0x22) (string (string_units s))
    (cond (eqb (at s 0) 0x66) false_literal
    (cond (eqb (at s 0) 0x6E) null_literal
    (cond (eqb (at s 0) 0x74) true_literal (number (take (number_size s) s)))))

-- ---- objects and arrays

-- behind an item of n octets with blanks: the last one, another one or neither
abbrev pub behind : ℕ → List ℕ → ℕ → Step
behind close s n =
    cond (eqb (at s n) close) (last (n + 1)) (cond (eqb (at s n) 0x2C) (goes_on (n + 1 + blanks (drop (n + 1) s))) fails)

-- an item, with what stands behind it
abbrev pub item_step : ℕ → (List ℕ → ℕ) → List ℕ → Step
item_step close item s = cond (eqb (item s) 0) fails (behind close s (item s + blanks (drop (item s) s)))

-- the opening character at the head, with blanks
abbrev pub opening : List ℕ → ℕ
opening s = 1 + blanks (drop 1 s)

unfoldable pub bracketed_size : ℕ → (List ℕ → ℕ) → List ℕ → ℕ
bracketed_size close item s =
    cond (eqb (at s (opening s)) close) (opening s + 1) (further (opening s) (runs (item_step close item) (length s) (drop (opening s) s)))

abbrev pub separator_size : List ℕ → ℕ
separator_size s = cond (eqb (at s (blanks s)) 0x3A) (blanks s + 1 + blanks (drop (blanks s + 1) s)) 0

-- a member's name with the separator and blanks: the value begins behind it
unfoldable pub name_size : List ℕ → ℕ
name_size s = cond (eqb (string_size s) 0) 0 (further (string_size s) (separator_size (drop (string_size s) s)))

abbrev pub member_size : (List ℕ → ℕ) → List ℕ → ℕ
member_size inner s = cond (eqb (name_size s) 0) 0 (further (name_size s) (inner (drop (name_size s) s)))

module _ {A : Type 0} where
  unfoldable pub bracketed_said : ℕ → (List ℕ → ℕ) → (List ℕ → A) → List ℕ → List A
  bracketed_said close item says s =
      cond (eqb (at s (opening s)) close) [] (collects (item_step close item) (λ t. says t ∷ []) (length s) (drop (opening s) s))

  abbrev pub member_said : (List ℕ → A) → List ℕ → Member A
  member_said inner s = record { name = string_units s; value = inner (drop (name_size s) s) }

unfoldable pub value_size : ℕ → List ℕ → ℕ
value_size zero s = scalar_size s
value_size (suc deep) s =
    cond (eqb (at s 0) 0x7B) (bracketed_size 0x7D (member_size (value_size deep)) s)
    (cond (eqb (at s 0) 0x5B) (bracketed_size 0x5D (value_size deep) s) (scalar_size s))

unfoldable pub value_said : (deep : ℕ) → List ℕ → Tree deep
value_said zero s = scalar_said s
value_said (suc deep) s =
    cond (eqb (at s 0) 0x7B) (object (bracketed_said 0x7D (member_size (value_size deep)) (member_said (value_said deep)) s))
    (cond (eqb (at s 0) 0x5B) (array (bracketed_said 0x5D (value_size deep) (value_said deep) s)) (scalar (scalar_said s)))

-- ---- a text

-- a value with blanks before and behind it
abbrev pub end_of_text : ℕ → List ℕ → ℕ
end_of_text n s = n + blanks (drop n s)

unfoldable pub text_size : ℕ → List ℕ → ℕ
text_size deep s =
    cond (eqb (value_size deep (drop (blanks s) s)) 0) 0 (end_of_text (blanks s + value_size deep (drop (blanks s) s)) s)

-- whether it is a text in which objects and arrays stand at most so deep, and nothing else
unfoldable pub is_text : ℕ → List ℕ → Bool
is_text deep s = not (eqb (text_size deep s) 0) && eqb (text_size deep s) (length s)

-- what it says
unfoldable pub text_said : (deep : ℕ) → List ℕ → Tree deep
text_said deep s = value_said deep (drop (blanks s) s)
