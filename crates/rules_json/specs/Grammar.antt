-- RFC 8259, section by section. A rule that says something has the texts that say it. A rule stands below those that it is made of, so sections 6 and 7 come
-- before 3 to 5.
use Rattle.std.specs.Prelude.{ℕ, zero, suc, ◌+◌, ◌-◌, ◌*◌, Bool, cond, false, true, ◌||◌, List, [], ◌∷◌, ◌++◌, ◌≡◌, eqb}
use Rattle.rules_json.specs.Abnf.{Rule, at_least_one, many, octets, one, optional, row, these, within, ◌or◌, ◌then◌}
use Rattle.rules_json.specs.Tree.{Member, Scalar, Tree, Value, array, false_literal, null_literal, number, object, scalar, string, true_literal}
use Rattle.rules_json.specs.Utf8.{character, utf16, utf8}

-- ---- 2. JSON Grammar

-- space, horizontal tab, line feed, carriage return
abbrev pub blank : ℕ → Bool
blank b = eqb b 0x20 || eqb b 0x09 || eqb b 0x0A || eqb b 0x0D

-- ws
abbrev pub Blanks : Rule
Blanks = many (one blank)

-- "Insignificant whitespace is allowed before or after any of the six structural characters."
abbrev pub Structural : ℕ → Rule
Structural b = Blanks then these (b ∷ []) then Blanks

-- begin-array, begin-object, end-array, end-object, name-separator, value-separator
abbrev pub BeginArray : Rule
BeginArray = Structural 0x5B

abbrev pub BeginObject : Rule
BeginObject = Structural 0x7B

abbrev pub EndArray : Rule
EndArray = Structural 0x5D

abbrev pub EndObject : Rule
EndObject = Structural 0x7D

abbrev pub NameSeparator : Rule
NameSeparator = Structural 0x3A

abbrev pub ValueSeparator : Rule
ValueSeparator = Structural 0x2C

-- ---- 6. Numbers

abbrev pub digit : ℕ → Bool
digit b = within 0x30 0x39 b

abbrev pub digit1_9 : ℕ → Bool
digit1_9 b = within 0x31 0x39 b

abbrev pub sign : ℕ → Bool
sign b = eqb b 0x2D || eqb b 0x2B

abbrev pub e : ℕ → Bool
e b = eqb b 0x65 || eqb b 0x45

abbrev pub Minus : Rule
Minus = these (0x2D ∷ [])

-- int = zero / ( digit1-9 *DIGIT )
abbrev pub Int : Rule
Int = these (0x30 ∷ []) or (one digit1_9 then many (one digit))

-- frac = decimal-point 1*DIGIT
abbrev pub Frac : Rule
Frac = these (0x2E ∷ []) then at_least_one (one digit)

-- exp = e [ minus / plus ] 1*DIGIT
abbrev pub Exp : Rule
Exp = one e then optional (one sign) then at_least_one (one digit)

-- number = [ minus ] int [ frac ] [ exp ]
abbrev pub Number : Rule
Number = optional Minus then Int then optional Frac then optional Exp

-- ---- 7. Strings

-- unescaped = %x20-21 / %x23-5B / %x5D-10FFFF
abbrev pub unescaped : ℕ → Bool
unescaped c = within 0x20 0x21 c || within 0x23 0x5B c || within 0x5D 0x10FFFF c

-- the character that a letter stands for behind an escape, and 0 where it stands for none: " \ / b f n r t
abbrev pub escaped : ℕ → ℕ
escaped b =
    cond (eqb b 0x22) 0x22
    (cond (eqb b 0x5C) 0x5C
    (cond (eqb b 0x2F) 0x2F
    (cond (eqb b 0x62) 0x08
    (cond (eqb b 0x66) 0x0C
    (cond (eqb b 0x6E) 0x0A
    (cond (eqb b 0x72) 0x0D
    (cond (eqb b 0x74) 0x09 0)))))))

-- HEXDIG, of either case
abbrev pub hexdig : ℕ → Bool
hexdig b = within 0x30 0x39 b || within 0x41 0x46 b || within 0x61 0x66 b

abbrev pub hex_value : ℕ → ℕ
hex_value b = cond (within 0x30 0x39 b) (b - 0x30) (cond (within 0x41 0x46 b) (b - 0x37) (b - 0x57))

abbrev pub four_hex : ℕ → ℕ → ℕ → ℕ → ℕ
four_hex a b c d = ((hex_value a * 16 + hex_value b) * 16 + hex_value c) * 16 + hex_value d

-- a character of the text, as the code units that it says
abbrev pub Unescaped : List ℕ → Rule
Unescaped units s = (c : ℕ) × (unescaped c ≡ true) × (character c ≡ true) × (units ≡ utf16 c) × (s ≡ utf8 c)

-- \" \\ \/ \b \f \n \r \t
abbrev pub ShortEscape : List ℕ → Rule
ShortEscape units s = (b : ℕ) × (eqb (escaped b) 0 ≡ false) × (units ≡ escaped b ∷ []) × (s ≡ 0x5C ∷ b ∷ [])

-- \uXXXX
abbrev pub LongEscape : List ℕ → Rule
LongEscape units s =
    (a : ℕ) × (b : ℕ) × (c : ℕ) × (d : ℕ) × (hexdig a ≡ true) × (hexdig b ≡ true) × (hexdig c ≡ true) × (hexdig d ≡ true)
    × (units ≡ four_hex a b c d ∷ []) × (s ≡ 0x5C ∷ 0x75 ∷ a ∷ b ∷ c ∷ d ∷ [])

abbrev pub Char : List ℕ → Rule
Char units = Unescaped units or ShortEscape units or LongEscape units

abbrev pub joined : List (List ℕ) → List ℕ
joined [] = []
joined (x ∷ xs) = x ++ joined xs

-- string = quotation-mark *char quotation-mark
abbrev pub Quotation : Rule
Quotation = these (0x22 ∷ [])

abbrev pub String : List ℕ → Rule
String units s = (chars : List (List ℕ)) × (units ≡ joined chars) × (Quotation then row Char chars then Quotation) s

-- ---- 3. Values, where they are neither objects nor arrays

abbrev pub ScalarRule : Scalar → Rule
ScalarRule false_literal = these (octets "false")
ScalarRule null_literal = these (octets "null")
ScalarRule true_literal = these (octets "true")
ScalarRule (number text) = λ s. (s ≡ text) × Number s
ScalarRule (string units) = String units

-- ---- 4. Objects, 5. Arrays, where the values inside are of a rule

module _ {A : Type 0} where
  -- [ item *( value-separator item ) ]
  abbrev pub Items : (A → Rule) → List A → Rule
  Items Item [] = these []
  Items Item (x ∷ xs) = Item x then row (λ y. ValueSeparator then Item y) xs

module _ {A : Type 0} where
  -- member = string name-separator value
  abbrev pub MemberRule : (A → Rule) → Member A → Rule
  MemberRule Inner m = String m.name then NameSeparator then Inner m.value

  -- object = begin-object [ member *( value-separator member ) ] end-object
  abbrev pub Object : (A → Rule) → List (Member A) → Rule
  Object Inner members = BeginObject then Items (MemberRule Inner) members then EndObject

  -- array = begin-array [ value *( value-separator value ) ] end-array
  abbrev pub Array : (A → Rule) → List A → Rule
  Array Inner values = BeginArray then Items Inner values then EndArray

  -- value = false / null / true / object / array / number / string
  abbrev pub ValueRule : (A → Rule) → Value A → Rule
  ValueRule Inner (scalar x) = ScalarRule x
  ValueRule Inner (object members) = Object Inner members
  ValueRule Inner (array values) = Array Inner values

-- ---- a text

-- a value in which objects and arrays stand at most so deep, each inside the other: the outermost counts as 1
abbrev pub DeepValue : (deep : ℕ) → Tree deep → Rule
DeepValue zero x = ScalarRule x
DeepValue (suc deep) x = ValueRule (DeepValue deep) x

-- JSON-text = ws value ws
abbrev pub Text : (deep : ℕ) → Tree deep → Rule
Text deep tree = Blanks then DeepValue deep tree then Blanks
