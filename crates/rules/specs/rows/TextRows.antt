-- RFC 8259: rows J1 to J24 for what is a text, with lists and objects at most 8 deep as document 02, request 1, has it.
-- What is due is read off the sentence that stands above each.
use Rattle.std.specs.Prelude.{ℕ, List, [], ◌∷◌, ◌++◌, map, replicate}
use Rattle.rules_json.specs.Abnf.{octets}
use Rattle.rules_json.specs.Reader.{is_text}
use Rattle.rules.specs.rows.Row.{Row, digits, each, rows, together}
use Rattle.rules.specs.rows.Texts.{doublings, heads, how_many, in_both, in_lists, in_objects}
use Rattle.rules.specs.rows.Texts.{insertions, misspelt, omissions, texts, typed}

-- the blanks of section 2: space, horizontal tab, line feed, carriage return; and octets that are none: those beside
-- them, the vertical tab 0B, the form feed 0C, the space A0 of Latin-1
abbrev pub some_blanks : List ℕ
some_blanks = 0x20 ∷ 0x09 ∷ 0x0A ∷ 0x0D ∷ []

abbrev pub no_blanks : List ℕ
no_blanks = 0x00 ∷ 0x08 ∷ 0x0B ∷ 0x0C ∷ 0x0E ∷ 0x1F ∷ 0x21 ∷ 0x7F ∷ 0x85 ∷ 0xA0 ∷ []

-- an object with each of the six structural characters
abbrev pub sample : List ℕ
sample = octets "{\"a\":1,\"b\":[2,3]}"

abbrev pub text_rows : List Row
text_rows =
    -- J1: what is typed below is in ASCII
    rows 1 (octets "Az09 ~\"\\/\t") (0x41 ∷ 0x7A ∷ 0x30 ∷ 0x39 ∷ 0x20 ∷ 0x7E ∷ 0x22 ∷ 0x5C ∷ 0x2F ∷ 0x09 ∷ [])
    ++ rows 1 (octets "") []
    -- J2: JSON-text = ws value ws: each of the four blanks, before and behind; all of them, several times
    ++ each 2 1 (typed ("1" ∷ "null" ∷ "\"a\"" ∷ "[]" ∷ "{}" ∷ []))
    ++ each 2 1 (texts (map (λ b. b ∷ 0x31 ∷ []) some_blanks ++ map (λ b. 0x31 ∷ b ∷ []) some_blanks))
    ++ each 2 1 (texts ((some_blanks ++ (some_blanks ++ (0x31 ∷ some_blanks ++ some_blanks))) ∷ []))
    -- J3: no other octet is a blank, nor is U+00A0 in UTF-8
    ++ each 3 0 (texts (map (λ b. b ∷ 0x31 ∷ []) no_blanks ++ map (λ b. 0x31 ∷ b ∷ []) no_blanks))
    ++ each 3 0 (texts ((0xC2 ∷ 0xA0 ∷ 0x31 ∷ []) ∷ (0x31 ∷ 0xC2 ∷ 0xA0 ∷ []) ∷ []))
    ++ each 3 4 (how_many (λ b. b ∷ octets "[]") ∷ [])
    -- J4: a text has a value: nothing is none, nor are blanks alone; and a byte order mark is no part of one
    ++ each 4 0 (typed ("" ∷ " " ∷ " \t\n\r" ∷ []))
    ++ each 4 0
    (texts ((0xEF ∷ 0xBB ∷ 0xBF ∷ []) ∷ (0xEF ∷ 0xBB ∷ 0xBF ∷ 0x31 ∷ []) ∷ (0x31 ∷ 0xEF ∷ 0xBB ∷ 0xBF ∷ []) ∷ []))
    -- J5: and it has one value: nothing stands behind it but blanks
    ++ each 5 0 (typed ("1 1" ∷ "null," ∷ "true false" ∷ "{}{}" ∷ "[][]" ∷ "[]]" ∷ "{}}" ∷ "1]" ∷ "1}" ∷ []))
    ++ each 5 0 (typed ("\"a\"\"b\"" ∷ "\"a\" b" ∷ "1 x" ∷ "nullnull" ∷ "[1]2" ∷ "1//" ∷ ",1" ∷ ":1" ∷ []))
    ++ each 5 0 (texts ((0x31 ∷ 0x00 ∷ []) ∷ (0x31 ∷ 0x20 ∷ 0x00 ∷ []) ∷ (0x00 ∷ []) ∷ []))
    -- J6: "Insignificant whitespace is allowed before or after any of the six structural characters." Inside a string a
    -- space is a character, and the other three are no text.
    ++ each 6 1 (texts (insertions 0x20 sample))
    ++ rows 6 (together (map (λ b. texts (insertions b sample)) (0x09 ∷ 0x0A ∷ 0x0D ∷ [])))
    (together (replicate 3 (1 ∷ 1 ∷ 0 ∷ 0 ∷ 1 ∷ 1 ∷ 1 ∷ 1 ∷ 0 ∷ 0 ∷ 1 ∷ 1 ∷ 1 ∷ 1 ∷ 1 ∷ 1 ∷ 1 ∷ 1 ∷ [])))
    ++ each 6 0 (together (map (λ b. texts (insertions b sample)) (0x00 ∷ 0x0B ∷ 0x0C ∷ 0xA0 ∷ [])))
    ++ each 6 1
    (typed ("[ ]" ∷ "{ }" ∷ "[\n]" ∷ "{\t\r}" ∷ "[ \t1\n\r,  2 ]" ∷ " { \"a\"  :\t\t1 ,\n\n\"b\": [ ] } " ∷ []))
    -- J7: none is allowed inside a number or a literal name
    ++ each 7 0 (typed
    ("1 2" ∷ "- 1" ∷ "1 .5" ∷ "1. 5" ∷ "1 e5" ∷ "1e 5" ∷ "1e+ 5" ∷ "1e +5" ∷ "tr ue" ∷ "nu\nll" ∷ "f alse" ∷ []))
    -- J8: section 3: the three literal names
    ++ each 8 1 (typed ("false" ∷ "null" ∷ "true" ∷ []))
    -- J9: "The literal names MUST be lowercase. No other literal names are allowed.": each letter in
    -- turn another, left out, or doubled
    ++ each 9 0 (together (map (λ word. texts (misspelt word)) (octets "false" ∷ octets "null" ∷ octets "true" ∷ [])))
    ++ each 9 0 (typed
    ("False" ∷ "FALSE" ∷ "Null" ∷ "NULL" ∷ "True" ∷ "TRUE" ∷ "fal" ∷ "fa" ∷ "f" ∷ "nu" ∷ "n" ∷ "tr" ∷ "t" ∷ []))
    ++ each 9 0 (typed ("nil" ∷ "undefined" ∷ "NaN" ∷ "Infinity" ∷ "-Infinity" ∷ "[tru]" ∷ "[nul]" ∷ "[fals]" ∷ []))
    -- J10: section 6: int = zero / ( digit1-9 *DIGIT )
    ++ each 10 1 (typed
    ("0" ∷ "1" ∷ "2" ∷ "3" ∷ "4" ∷ "5" ∷ "6" ∷ "7" ∷ "8" ∷ "9" ∷ "10" ∷ "19" ∷ "90" ∷ "100" ∷ "1234567890" ∷ []))
    ++ each 10 1 (texts (replicate 1000 0x39 ∷ []))
    -- "Leading zeros are not allowed."
    ++ each 10 0 (typed ("00" ∷ "01" ∷ "09" ∷ "-00" ∷ "-01" ∷ "00.5" ∷ "01e1" ∷ "[01]" ∷ []))
    -- J11: number = [ minus ] int [ frac ] [ exp ]: a minus, and no plus
    ++ each 11 1 (typed ("-0" ∷ "-1" ∷ "-9" ∷ "-10" ∷ "-0.5" ∷ "-1e1" ∷ "-0e-0" ∷ []))
    ++ each 11 0 (typed ("-" ∷ "--1" ∷ "+1" ∷ "+" ∷ "-+1" ∷ "+-1" ∷ "-a" ∷ "-." ∷ "-e1" ∷ "1-" ∷ "1-1" ∷ "[-]" ∷ []))
    -- J12: frac = decimal-point 1*DIGIT
    ++ each 12 1 (typed ("1.5" ∷ "0.5" ∷ "0.0" ∷ "0.9" ∷ "10.00" ∷ "1.000000000000000000001" ∷ []))
    ++ each 12 0
    (typed ("1." ∷ ".5" ∷ "-.5" ∷ "." ∷ "1.2.3" ∷ "1..2" ∷ "1,5" ∷ "0.-1" ∷ "0.+1" ∷ "[1.]" ∷ "1./" ∷ "1.:" ∷ []))
    -- J13: exp = e [ minus / plus ] 1*DIGIT: an e of either case; leading zeros are allowed in it
    ++ each 13 1 (typed ("1e0" ∷ "1E0" ∷ "1e+2" ∷ "1E+2" ∷ "1e-2" ∷ "1E-2" ∷ "0e0" ∷ "10e10" ∷ "1.5e1" ∷ "0.5E-07"
    ∷ "1e00" ∷ "1e999" ∷ []))
    ++ each 13 0 (typed ("1e" ∷ "1E" ∷ "1e+" ∷ "1e-" ∷ "1.e1" ∷ ".e1" ∷ "e1" ∷ "1e++1" ∷ "1e--1" ∷ "1e+-1" ∷ "1e1e1"
    ∷ "1e1.5" ∷ "1ee1" ∷ "[1e]" ∷ []))
    ++ each 13 0 (typed ("1d5" ∷ "1f5" ∷ "1D5" ∷ "1F5" ∷ "1e,5" ∷ "1e.5" ∷ "1e*5" ∷ []))
    -- J14: digits are 30 to 39 alone: ten in the fraction; before 0 nine, a minus or a blank
    ++ rows 14 (how_many (λ b. octets "1." ++ (b ∷ [])) ∷ how_many (λ b. 0x5B ∷ b ∷ octets "0]") ∷ []) (10 ∷ 14 ∷ [])
    ++ each 14 0 (typed ("1/" ∷ "1:" ∷ "1e/" ∷ "1e:" ∷ "1e-/" ∷ "1e+:" ∷ "/" ∷ ":" ∷ "0x1" ∷ "1a" ∷ "1_0" ∷ []))
    -- J15: section 5: array = begin-array [ value *( value-separator value ) ] end-array; "There is no requirement that
    -- the values in an array be of the same type."
    ++ each 15 1 (typed ("[]" ∷ "[1]" ∷ "[1,2]" ∷ "[1,2,3,4,5,6,7,8,9,10,11,12]"
    ∷ "[false,null,true,-1.5e1,\"a\",[],{}]" ∷ "[[1,[2]],[[3],4]]" ∷ []))
    -- J16: and not with a bracket missing, doubled or another; a separator missing, doubled, at either end or another
    ++ each 16 0 (typed ("[" ∷ "]" ∷ "[1" ∷ "1]" ∷ "[1,2" ∷ "[1," ∷ "[[]" ∷ "[]]" ∷ "[[1]" ∷ "[1}" ∷ "{1]" ∷ "(1)"
    ∷ "[1)" ∷ "<1>" ∷ []))
    ++ each 16 0 (typed ("[1 2]" ∷ "[,]" ∷ "[1,]" ∷ "[1 , ]" ∷ "[,1]" ∷ "[1,,2]" ∷ "[1;2]" ∷ "[1:2]" ∷ "[\"a\":1]"
    ∷ "[[][]]" ∷ "[1-2]" ∷ "[1+2]" ∷ "[x]" ∷ []))
    -- no other octet begins a list or an object, or ends one
    ++ each 16 1 (how_many (λ b. b ∷ 0x5D ∷ []) ∷ how_many (λ b. b ∷ 0x7D ∷ []) ∷ [])
    ++ each 16 0 (typed ("[\\" ∷ "[^" ∷ "[1\\" ∷ "[1^" ∷ "{|" ∷ "{~" ∷ "{\"a\":1|" ∷ "{\"a\":1~" ∷ []))
    -- J17: section 4: object = begin-object [ member *( value-separator member ) ] end-object,
    -- member = string name-separator value
    ++ each 17 1 (typed ("{}" ∷ "{\"a\":1}" ∷ "{\"a\":1,\"b\":2}" ∷ "{\"\":0}"
    ∷ "{\"a\":{},\"b\":[],\"c\":null,\"d\":true,\"e\":\"\",\"f\":-1e5}" ∷ []))
    -- "The names within an object SHOULD be unique.", and need not be
    ++ each 17 1 (typed ("{\"a\":1,\"a\":2}" ∷ "{\"a\":1,\"\\u0061\":2,\"a\":3}" ∷ []))
    -- J18: and not with a brace missing, doubled or another; a separator missing, doubled, at either end or another
    ++ each 18 0 (typed ("{" ∷ "}" ∷ "{\"a\":1" ∷ "{\"a\":" ∷ "{\"a\"" ∷ "{\"a" ∷ "\"a\":1}" ∷ "\"a\":1" ∷ "{{}}"
    ∷ "{{}" ∷ "{}}" ∷ "{\"a\":1]" ∷ "[\"a\":1}" ∷ []))
    ++ each 18 0 (typed ("{\"a\":1 \"b\":2}" ∷ "{,}" ∷ "{\"a\":1,}" ∷ "{\"a\":1 , }" ∷ "{,\"a\":1}"
    ∷ "{\"a\":1,,\"b\":2}" ∷ "{\"a\":1;\"b\":2}" ∷ []))
    ++ each 18 0 (typed ("{\"a\" 1}" ∷ "{\"a\"::1}" ∷ "{\"a\"=1}" ∷ "{\"a\",1}" ∷ "{\"a\":1:\"b\":2}"
    ∷ "{\"a\":,\"b\":2}" ∷ "{\"a\":1,\"b\":}" ∷ []))
    -- several blanks are no separator, and no other octet is one
    ++ each 18 0 (typed ("{\"a\"  1}" ∷ "{\"a\"   1}" ∷ "{\"a\"    1}" ∷ "{\"a\"     1}" ∷ "{\"a\":1    \"b\":2}" ∷ []))
    ++ each 18 0
    (typed ("{\"a\"91}" ∷ "{\"a\";1}" ∷ "{\"a\":1+\"b\":2}" ∷ "{\"a\":1-\"b\":2}" ∷ "{\"a!:1}" ∷ "{\"a#:1}" ∷ []))
    -- nor with a name missing or no string, or with no value
    ++ each 18 0 (typed ("{\"a\"}" ∷ "{\"a\":}" ∷ "{:1}" ∷ "{:}" ∷ "{1}" ∷ "{1:1}" ∷ "{a:1}" ∷ "{'a':1}" ∷ "{null:1}"
    ∷ "{[]:1}" ∷ "{\"a\":1,2}" ∷ "{\"a\":1,\"b\"}" ∷ []))
    ++ each 18 1 (how_many (λ b. 0x7B ∷ b ∷ octets "a\":1}") ∷ [])
    -- J19: {"a":1,"b":[2,3]} with each octet left out, which leaves an empty name twice and [23] once; and with each
    -- doubled: longer names and numbers alone
    ++ rows 19 (texts (omissions sample)) (0 ∷ 0 ∷ 1 ∷ 0 ∷ 0 ∷ 0 ∷ 0 ∷ 0 ∷ 1 ∷ 0 ∷ 0 ∷ 0 ∷ 0 ∷ 1 ∷ 0 ∷ 0 ∷ 0 ∷ [])
    ++ rows 19 (texts (doublings sample)) (0 ∷ 0 ∷ 1 ∷ 0 ∷ 0 ∷ 1 ∷ 0 ∷ 0 ∷ 1 ∷ 0 ∷ 0 ∷ 0 ∷ 1 ∷ 0 ∷ 1 ∷ 0 ∷ 0 ∷ [])
    -- J20: "lists and objects stand at most 8 deep, each inside the other": lists, objects and both, 8 and 9 deep; an
    -- empty one counts, and a scalar does not
    ++ each 20 1 (texts (in_lists 8 [] ∷ in_lists 8 (octets "1") ∷ in_objects 7 (octets "{}")
    ∷ in_objects 8 (octets "\"a\"") ∷ in_both 4 (octets "null") ∷ []))
    ++ each 20 1 (texts (in_both 3 (octets "[[]]") ∷ in_both 3 (octets "[{}]") ∷ in_lists 4 (in_objects 4 (octets "1"))
    ∷ in_objects 4 (in_lists 4 []) ∷ []))
    ++ each 20 0 (texts (in_lists 9 [] ∷ in_lists 9 (octets "1") ∷ in_objects 8 (octets "{}")
    ∷ in_objects 9 (octets "\"a\"") ∷ in_both 4 (octets "[]") ∷ []))
    ++ each 20 0 (texts (in_both 4 (octets "{}") ∷ in_lists 5 (in_objects 4 (octets "1")) ∷ in_objects 5 (in_lists 4 [])
    ∷ in_lists 20 [] ∷ []))
    -- J21: each inside the other: those beside each other do not count, and one that is too
    -- deep is found wherever it stands
    ++ each 21 1 (typed ("[[],[],[],[],[],[],[],[],[],[]]" ∷ "[{},[[]],{\"a\":[]},[[[]]],{}]" ∷ [])
    ++ texts (in_lists 7 (octets "[],[],{},{}") ∷ []))
    ++ each 21 0 (texts ((octets "[1," ++ (in_lists 8 [] ++ octets "]"))
    ∷ (octets "{\"a\":1,\"b\":" ++ (in_lists 8 [] ++ octets "}")) ∷ in_lists 7 (octets "[],[1,[]]") ∷ []))
    -- J22: at most so deep, whatever the depth is: 0, 1, 2
    ++ rows 22 (digits (map (λ n. is_text n (octets "1")) (0 ∷ 1 ∷ 2 ∷ []))) (1 ∷ 1 ∷ 1 ∷ [])
    ++ rows 22 (digits (map (λ n. is_text n (octets "[]")) (0 ∷ 1 ∷ 2 ∷ [])
    ++ map (λ n. is_text n (octets "{\"a\":1}")) (0 ∷ 1 ∷ 2 ∷ []))) (0 ∷ 1 ∷ 1 ∷ 0 ∷ 1 ∷ 1 ∷ [])
    ++ rows 22 (digits (map (λ n. is_text n (octets "[{}]")) (0 ∷ 1 ∷ 2 ∷ [])
    ++ map (λ n. is_text n (octets "{\"a\":[]}")) (0 ∷ 1 ∷ 2 ∷ []))) (0 ∷ 0 ∷ 1 ∷ 0 ∷ 0 ∷ 1 ∷ [])
    -- J23: the octets of a value at the head of a text, as many as can: literal names, numbers, strings
    ++ rows 23 (heads ("null" ∷ "nullx" ∷ "truefalse" ∷ "false," ∷ "nul" ∷ "" ∷ " 1" ∷ "x" ∷ "]" ∷ "," ∷ []))
    (4 ∷ 4 ∷ 4 ∷ 5 ∷ 0 ∷ 0 ∷ 0 ∷ 0 ∷ 0 ∷ 0 ∷ [])
    ++ rows 23 (heads ("12" ∷ "12 3" ∷ "012" ∷ "-012" ∷ "1.5.5" ∷ "1." ∷ "1.x" ∷ "1e5e" ∷ "1e" ∷ "1e+" ∷ "1.5e" ∷ "-"
    ∷ "-x" ∷ "1.25e-10]" ∷ []))
    (2 ∷ 2 ∷ 1 ∷ 2 ∷ 3 ∷ 1 ∷ 1 ∷ 3 ∷ 1 ∷ 1 ∷ 3 ∷ 0 ∷ 0 ∷ 8 ∷ [])
    ++ rows 23 (heads ("\"\"" ∷ "\"a\"b" ∷ "\"\\\"\"" ∷ "\"\\u0041\"" ∷ "\"a" ∷ "\"\\\"" ∷ []))
    (2 ∷ 3 ∷ 4 ∷ 8 ∷ 0 ∷ 0 ∷ [])
    -- J24: lists and objects, with the blanks inside them and none behind
    ++ rows 24 (heads ("[]" ∷ "[] " ∷ "[]]" ∷ "[ 1 , 2 ] ," ∷ "[1,]" ∷ "[1" ∷ "[" ∷ "[[]" ∷ "[}" ∷ []))
    (2 ∷ 2 ∷ 2 ∷ 9 ∷ 0 ∷ 0 ∷ 0 ∷ 0 ∷ 0 ∷ [])
    ++ rows 24
    (heads ("{}" ∷ "{ }}" ∷ "{\"a\":1}" ∷ "{ \"a\" : 1 , \"b\" : [ ] } {" ∷ "{\"a\":1,}" ∷ "{\"a\":1" ∷ "{]" ∷ []))
    (2 ∷ 3 ∷ 7 ∷ 23 ∷ 0 ∷ 0 ∷ 0 ∷ [])
