-- RFC 8259, section 7, and RFC 3629: rows J25 to J43 for strings, and for what a text says. What is due is read
-- off the sentence that stands above each.
use Rattle.std.specs.Prelude.{ℕ, ◌-◌, List, [], ◌∷◌, ◌++◌, map, replicate}
use Rattle.rules_json.specs.Abnf.{octets}
use Rattle.rules_json.specs.Reader.{text_said}
use Rattle.rules.specs.rows.Row.{Row, each, rows, together}
use Rattle.rules.specs.rows.Texts.{all_say, counted, how_many, in_both, in_lists, number_told}
use Rattle.rules.specs.rows.Texts.{quoted, says, string_told, texts, tree_told, typed}

-- HEXDIG, of either case
abbrev pub hex_digits : List ℕ
hex_digits = octets "0123456789ABCDEFabcdef"

-- both sides of the edges of 0 to 9, A to F and a to f
abbrev pub hex_edges : List ℕ
hex_edges = 0x2F ∷ 0x30 ∷ 0x39 ∷ 0x3A ∷ 0x40 ∷ 0x41 ∷ 0x46 ∷ 0x47 ∷ 0x60 ∷ 0x61 ∷ 0x66 ∷ 0x67 ∷ []

-- characters at the edges of RFC 3629's table: U+007F, U+0080, U+07FF, U+0800, U+D7FF, U+E000,
-- U+FFFF, U+10000, U+10FFFF
abbrev pub edges : List (List ℕ)
edges =
    (0x7F ∷ [])
    ∷ (0xC2 ∷ 0x80 ∷ [])
    ∷ (0xDF ∷ 0xBF ∷ [])
    ∷ (0xE0 ∷ 0xA0 ∷ 0x80 ∷ [])
    ∷ (0xED ∷ 0x9F ∷ 0xBF ∷ [])
    ∷ (0xEE ∷ 0x80 ∷ 0x80 ∷ [])
    ∷ (0xEF ∷ 0xBF ∷ 0xBF ∷ [])
    ∷ (0xF0 ∷ 0x90 ∷ 0x80 ∷ 0x80 ∷ [])
    ∷ (0xF4 ∷ 0x8F ∷ 0xBF ∷ 0xBF ∷ [])
    ∷ []

-- and what no character is: a following octet alone, U+007F in two octets, U+07FF in three, U+D800 and U+DFFF, U+FFFF
-- in four, U+110000, and the first octets F5 and FF that no character has
abbrev pub beyond_edges : List (List ℕ)
beyond_edges =
    (0x80 ∷ [])
    ∷ (0xBF ∷ [])
    ∷ (0xC0 ∷ 0x80 ∷ [])
    ∷ (0xC1 ∷ 0xBF ∷ [])
    ∷ (0xE0 ∷ 0x80 ∷ 0x80 ∷ [])
    ∷ (0xE0 ∷ 0x9F ∷ 0xBF ∷ [])
    ∷ (0xED ∷ 0xA0 ∷ 0x80 ∷ [])
    ∷ (0xED ∷ 0xBF ∷ 0xBF ∷ [])
    ∷ (0xF0 ∷ 0x80 ∷ 0x80 ∷ 0x80 ∷ [])
    ∷ (0xF0 ∷ 0x8F ∷ 0xBF ∷ 0xBF ∷ [])
    ∷ (0xF4 ∷ 0x90 ∷ 0x80 ∷ 0x80 ∷ [])
    ∷ (0xF5 ∷ 0x80 ∷ 0x80 ∷ 0x80 ∷ [])
    ∷ (0xF8 ∷ 0x88 ∷ 0x80 ∷ 0x80 ∷ 0x80 ∷ [])
    ∷ (0xFF ∷ [])
    ∷ []

-- characters of two, three and four octets, cut by one octet, by two and by three
abbrev pub cut : List (List ℕ)
cut =
    (0xC2 ∷ [])
    ∷ (0xDF ∷ [])
    ∷ (0xE2 ∷ 0x82 ∷ [])
    ∷ (0xE2 ∷ [])
    ∷ (0xF0 ∷ 0x9D ∷ 0x84 ∷ [])
    ∷ (0xF0 ∷ 0x9D ∷ [])
    ∷ (0xF0 ∷ [])
    ∷ []

-- octets of a character with both sides of the edges of a following octet between them
abbrev pub followed : List ℕ → List ℕ → List ℕ
followed first rest = texts (map (λ b. quoted (first ++ (b ∷ rest))) (0x7F ∷ 0x80 ∷ 0xBF ∷ 0xC0 ∷ []))

abbrev pub string_rows : List Row
string_rows =
    -- J25: string = quotation-mark *char quotation-mark: none, one and many; not with a mark
    -- missing, one more, or another
    each 25 1 (typed ("\"\"" ∷ "\"a\"" ∷ "\"abc, [1] {x} : true\"" ∷ "\"'\"" ∷ [])
    ++ texts (quoted (replicate 1000 0x61) ∷ []))
    ++ each 25 0
    (typed ("\"" ∷ "\"a" ∷ "a\"" ∷ "a" ∷ "\"\"\"" ∷ "\"a\"\"" ∷ "\"a\"b\"" ∷ "'a'" ∷ "\"a'" ∷ "[\"a]" ∷ []))
    -- J26: the eight short escapes, each with what it says: " \ / b f n r t
    ++ each 26 1
    (typed ("\"\\\"\"" ∷ "\"\\\\\"" ∷ "\"\\/\"" ∷ "\"\\b\"" ∷ "\"\\f\"" ∷ "\"\\n\"" ∷ "\"\\r\"" ∷ "\"\\t\"" ∷ []))
    ++ rows 26 (says (octets "\"\\\"\\\\\\/\\b\\f\\n\\r\\t\""))
    (string_told (0x22 ∷ 0x5C ∷ 0x2F ∷ 0x08 ∷ 0x0C ∷ 0x0A ∷ 0x0D ∷ 0x09 ∷ []))
    ++ rows 26 (says (octets "\"a\\nb\\\\n\"")) (string_told (0x61 ∷ 0x0A ∷ 0x62 ∷ 0x5C ∷ 0x6E ∷ []))
    -- J27: behind an escape stands no other octet
    ++ each 27 8 (how_many (λ b. quoted (0x5C ∷ b ∷ [])) ∷ [])
    ++ each 27 0 (typed ("\"\\a\"" ∷ "\"\\v\"" ∷ "\"\\0\"" ∷ "\"\\x41\"" ∷ "\"\\'\"" ∷ "\"\\B\"" ∷ "\"\\N\""
    ∷ "\"\\ n\"" ∷ "\"\\\"" ∷ "\"\\\\\\\"" ∷ []))
    -- J28: \uXXXX, with four hexadecimal digits: fewer, or another octet at any of the four places, is none
    ++ each 28 1
    (typed ("\"\\u0000\"" ∷ "\"\\u0041\"" ∷ "\"\\uABCD\"" ∷ "\"\\uabcd\"" ∷ "\"\\uFFFF\"" ∷ "\"\\u00411\"" ∷ []))
    ++ each 28 0 (typed ("\"\\u\"" ∷ "\"\\u1\"" ∷ "\"\\u12\"" ∷ "\"\\u123\"" ∷ []))
    ++ each 28 0
    (typed ("\"\\u12G4\"" ∷ "\"\\u12g4\"" ∷ "\"\\U0041\"" ∷ "\"\\u 041\"" ∷ "\"\\u-041\"" ∷ "\"\\u123" ∷ []))
    ++ rows 28
    (together
    (map (λ k. texts (map (λ b. quoted (0x5C ∷ 0x75 ∷ replicate k 0x30 ++ (b ∷ replicate (3 - k) 0x30))) hex_edges))
    (0 ∷ 1 ∷ 2 ∷ 3 ∷ [])))
    (together (replicate 4 (0 ∷ 1 ∷ 1 ∷ 0 ∷ 0 ∷ 1 ∷ 1 ∷ 0 ∷ 0 ∷ 1 ∷ 1 ∷ 0 ∷ [])))
    -- and before four of them stands u, or one of the eight
    ++ each 28 9 (how_many (λ b. quoted (0x5C ∷ b ∷ octets "0041")) ∷ [])
    -- J29: what it says: "HEXDIG .. upper or lowercase", the first digit highest
    ++ rows 29 (together (map (λ b. says (octets "\"\\u000" ++ (b ∷ octets "\""))) hex_digits))
    (together (map (λ n. string_told (n ∷ []))
    (0 ∷ 1 ∷ 2 ∷ 3 ∷ 4 ∷ 5 ∷ 6 ∷ 7 ∷ 8 ∷ 9 ∷ 10 ∷ 11 ∷ 12 ∷ 13 ∷ 14 ∷ 15 ∷ 10 ∷ 11 ∷ 12 ∷ 13 ∷ 14 ∷ 15 ∷ [])))
    ++ rows 29 (says (octets "\"\\u1234\\uFEDC\\u005C\\u005c\\u00e9\""))
    (string_told (0x1234 ∷ 0xFEDC ∷ 0x5C ∷ 0x5C ∷ 0xE9 ∷ []))
    ++ rows 29 (says (octets "\"\\u00411\\n\\u0022\"")) (string_told (0x41 ∷ 0x31 ∷ 0x0A ∷ 0x22 ∷ []))
    -- J30: "To escape an extended character that is not in the Basic Multilingual Plane, the character is represented
    -- as a 12-character sequence, encoding the UTF-16 surrogate pair": \uD834\uDD1E is the G clef, as F0 9D 84 9E is
    ++ rows 30 (says (octets "\"\\uD834\\uDD1E\"") ++ says (quoted (0xF0 ∷ 0x9D ∷ 0x84 ∷ 0x9E ∷ [])))
    (together (replicate 2 (string_told (0xD834 ∷ 0xDD1E ∷ []))))
    -- section 8.2: "the ABNF in this specification allows member names and string values to contain bit sequences that
    -- cannot encode Unicode characters; for example, "\uDEAD" (a single unpaired UTF-16 surrogate)"
    ++ each 30 1 (typed ("\"\\uDEAD\"" ∷ "\"\\uD800\"" ∷ "\"\\uDBFF\"" ∷ "\"\\uDC00\"" ∷ "\"\\uDFFF\""
    ∷ "\"\\uDC00\\uD800\"" ∷ "\"\\uD800x\"" ∷ []))
    ++ rows 30 (says (octets "\"\\uDEAD\\uDC00\\uD800\"")) (string_told (0xDEAD ∷ 0xDC00 ∷ 0xD800 ∷ []))
    -- J31: unescaped = %x20-21 / %x23-5B / %x5D-10FFFF: of ASCII 94 octets, both sides of each
    -- edge; a control character is none
    ++ each 31 94 (how_many (λ b. quoted (b ∷ [])) ∷ [])
    ++ each 31 1 (texts (map (λ b. quoted (b ∷ [])) (0x20 ∷ 0x21 ∷ 0x23 ∷ 0x5B ∷ 0x5D ∷ 0x7E ∷ 0x7F ∷ [])))
    ++ each 31 0 (texts (map (λ b. quoted (b ∷ [])) (0x00 ∷ 0x01 ∷ 0x09 ∷ 0x0A ∷ 0x0D ∷ 0x1F ∷ 0x22 ∷ 0x5C ∷ [])))
    ++ rows 31 (says (quoted (0x20 ∷ 0x21 ∷ 0x23 ∷ 0x5B ∷ 0x5D ∷ 0x7E ∷ 0x7F ∷ [])))
    (string_told (0x20 ∷ 0x21 ∷ 0x23 ∷ 0x5B ∷ 0x5D ∷ 0x7E ∷ 0x7F ∷ []))
    -- J32: RFC 3629, section 4, both sides of each edge
    ++ each 32 1 (texts (map quoted edges)) ++ each 32 0 (texts (map quoted beyond_edges))
    -- J33: each length cut: by the quotation mark, by the end of the text, by a character of ASCII
    ++ each 33 0 (texts (map quoted cut
    ++ (map (λ s. 0x22 ∷ s) (cut ++ edges) ++ map (λ s. quoted (s ++ (0x41 ∷ 0x41 ∷ 0x41 ∷ []))) cut)))
    ++ each 33 0 (texts (map quoted ((0xE2 ∷ 0x41 ∷ 0xAC ∷ []) ∷ (0xF0 ∷ 0x41 ∷ 0x84 ∷ 0x9E ∷ [])
    ∷ (0xF0 ∷ 0x9D ∷ 0x41 ∷ 0x9E ∷ []) ∷ (0xF0 ∷ 0x9D ∷ 0x84 ∷ 0x41 ∷ []) ∷ [])))
    -- and one octet more is none: a following octet behind a whole character
    ++ each 33 0 (texts (map (λ s. quoted (s ++ (0x80 ∷ []))) edges))
    -- J34: the first octet of two, C2 to DF
    ++ rows 34 (texts (map (λ b. quoted (b ∷ 0xBF ∷ [])) (0xC1 ∷ 0xC2 ∷ 0xDF ∷ 0xE0 ∷ []))) (0 ∷ 1 ∷ 1 ∷ 0 ∷ [])
    -- of three, E0 to EF: before 80 and 9F not E0, before A0 and BF not ED
    ++ rows 34
    (together (map (λ c. texts (map (λ b. quoted (b ∷ c ∷ 0x80 ∷ [])) (0xE0 ∷ 0xE1 ∷ 0xED ∷ 0xEF ∷ 0xF0 ∷ [])))
    (0x80 ∷ 0x9F ∷ [])))
    (together (replicate 2 (0 ∷ 1 ∷ 1 ∷ 1 ∷ 0 ∷ [])))
    ++ rows 34 (together (map (λ c. texts (map (λ b. quoted (b ∷ c ∷ 0x80 ∷ []))
    (0xDF ∷ 0xE0 ∷ 0xEC ∷ 0xED ∷ 0xEE ∷ 0xEF ∷ 0xF0 ∷ []))) (0xA0 ∷ 0xBF ∷ [])))
    (together (replicate 2 (0 ∷ 1 ∷ 1 ∷ 0 ∷ 1 ∷ 1 ∷ 0 ∷ [])))
    -- of four, F0 to F4: before 80 and 8F not F0, before 90 and BF not F4
    ++ rows 34
    (together (map (λ c. texts (map (λ b. quoted (b ∷ c ∷ 0xBF ∷ 0x80 ∷ [])) (0xF0 ∷ 0xF1 ∷ 0xF4 ∷ 0xF5 ∷ [])))
    (0x80 ∷ 0x8F ∷ [])))
    (together (replicate 2 (0 ∷ 1 ∷ 1 ∷ 0 ∷ [])))
    ++ rows 34
    (together (map (λ c. texts (map (λ b. quoted (b ∷ c ∷ 0xBF ∷ 0x80 ∷ [])) (0xEF ∷ 0xF0 ∷ 0xF3 ∷ 0xF4 ∷ [])))
    (0x90 ∷ 0xBF ∷ [])))
    (together (replicate 2 (0 ∷ 1 ∷ 1 ∷ 0 ∷ [])))
    -- J35: a following octet is 80 to BF: the second of two, of three and of four, the third and the fourth
    ++ rows 35
    (followed (0xC2 ∷ []) [] ++ (followed (0xDF ∷ []) [] ++ (followed (0xE1 ∷ []) (0x80 ∷ [])
    ++ (followed (0xEE ∷ []) (0x80 ∷ []) ++ followed (0xF3 ∷ []) (0x80 ∷ 0x80 ∷ [])))))
    (together (replicate 5 (0 ∷ 1 ∷ 1 ∷ 0 ∷ [])))
    ++ rows 35 (followed (0xE2 ∷ 0x82 ∷ []) []
    ++ (followed (0xF0 ∷ 0x9D ∷ []) (0x9E ∷ []) ++ followed (0xF0 ∷ 0x9D ∷ 0x84 ∷ []) []))
    (together (replicate 3 (0 ∷ 1 ∷ 1 ∷ 0 ∷ [])))
    -- but for the second of E0, A0 to BF; of ED, 80 to 9F; of F0, 90 to BF; of F4, 80 to 8F
    ++ rows 35 (texts (map (λ b. quoted (0xE0 ∷ b ∷ 0x80 ∷ [])) (0x9F ∷ 0xA0 ∷ 0xBF ∷ 0xC0 ∷ []))) (0 ∷ 1 ∷ 1 ∷ 0 ∷ [])
    ++ rows 35 (texts (map (λ b. quoted (0xED ∷ b ∷ 0x80 ∷ [])) (0x7F ∷ 0x80 ∷ 0x9F ∷ 0xA0 ∷ []))) (0 ∷ 1 ∷ 1 ∷ 0 ∷ [])
    ++ rows 35 (texts (map (λ b. quoted (0xF0 ∷ b ∷ 0x80 ∷ 0x80 ∷ [])) (0x8F ∷ 0x90 ∷ 0xBF ∷ 0xC0 ∷ [])))
    (0 ∷ 1 ∷ 1 ∷ 0 ∷ [])
    ++ rows 35 (texts (map (λ b. quoted (0xF4 ∷ b ∷ 0x80 ∷ 0x80 ∷ [])) (0x7F ∷ 0x80 ∷ 0x8F ∷ 0x90 ∷ [])))
    (0 ∷ 1 ∷ 1 ∷ 0 ∷ [])
    -- J36: RFC 3629, section 3: the character that the octets say, as code units (RFC 2781:
    -- from U+10000 on a pair of surrogates)
    ++ rows 36 (all_say (map quoted edges))
    (together (map (λ c. string_told (c ∷ [])) (0x7F ∷ 0x80 ∷ 0x7FF ∷ 0x800 ∷ 0xD7FF ∷ 0xE000 ∷ 0xFFFF ∷ []))
    ++ (string_told (0xD800 ∷ 0xDC00 ∷ []) ++ string_told (0xDBFF ∷ 0xDFFF ∷ [])))
    -- A≢Α. and 日本語 of section 7 there; U+103FF and U+10400, where the first of the pair grows by one
    ++ rows 36 (says (quoted (0x41 ∷ 0xE2 ∷ 0x89 ∷ 0xA2 ∷ 0xCE ∷ 0x91 ∷ 0x2E ∷ [])))
    (string_told (0x41 ∷ 0x2262 ∷ 0x391 ∷ 0x2E ∷ []))
    ++ rows 36 (says (quoted (0xE6 ∷ 0x97 ∷ 0xA5 ∷ 0xE6 ∷ 0x9C ∷ 0xAC ∷ 0xE8 ∷ 0xAA ∷ 0x9E ∷ [])))
    (string_told (0x65E5 ∷ 0x672C ∷ 0x8A9E ∷ []))
    ++ rows 36 (says (quoted (0xF0 ∷ 0x90 ∷ 0x8F ∷ 0xBF ∷ 0xF0 ∷ 0x90 ∷ 0x90 ∷ 0x80 ∷ [])))
    (string_told (0xD800 ∷ 0xDFFF ∷ 0xD801 ∷ 0xDC00 ∷ []))
    -- J37: outside a string no character beyond ASCII stands
    ++ each 37 0 (texts (edges ++ map (λ s. in_lists 1 s) edges))
    -- J38: what the literal names, numbers and empty ones say; a number is its text
    ++ rows 38
    (all_say (octets "false" ∷ octets "null" ∷ octets "true" ∷ octets "\"\"" ∷ octets "[]" ∷ octets "{}" ∷ []))
    (1 ∷ 2 ∷ 3 ∷ 5 ∷ 0 ∷ 7 ∷ 0 ∷ 6 ∷ 0 ∷ [])
    ++ rows 38 (all_say (octets "0" ∷ octets "-0" ∷ octets "1.50" ∷ octets "-12.5e+07" ∷ []))
    (together (map number_told (octets "0" ∷ octets "-0" ∷ octets "1.50" ∷ octets "-12.5e+07" ∷ [])))
    -- J39: blanks say nothing
    ++ rows 39 (all_say (octets " null\n" ∷ octets "\t1 " ∷ octets " \" \" " ∷ octets "[ ]" ∷ octets "{\r}" ∷ []))
    (2 ∷ number_told (octets "1") ++ (string_told (octets " ") ++ (7 ∷ 0 ∷ 6 ∷ 0 ∷ [])))
    -- J40: section 5: "An array structure is .. zero or more values": in their order
    ++ rows 40 (says (octets "[1,\"b\", null ,[true],[],{}]"))
    (7 ∷ 6 ∷ number_told (octets "1") ++ (string_told (octets "b") ++ (2 ∷ 7 ∷ 1 ∷ 3 ∷ 7 ∷ 0 ∷ 6 ∷ 0 ∷ [])))
    -- J41: section 4: zero or more members, in their order, each its name after escapes and its
    -- value; a name that comes again is kept
    ++ rows 41 (says (octets "{\"a\":1, \"\\u0062\\n\" : [false] ,\"\":{\"a\":null},\"a\":2}"))
    (6 ∷ 4 ∷ counted (octets "a") ++ (number_told (octets "1")
    ++ (counted (0x62 ∷ 0x0A ∷ []) ++ (7 ∷ 1 ∷ 1 ∷ counted []
    ++ (6 ∷ 1 ∷ counted (octets "a") ++ (2 ∷ counted (octets "a") ++ number_told (octets "2")))))))
    -- J42: eight deep, lists and both; and at the depths 0 and 1
    ++ rows 42 (says (in_lists 8 (octets "1,2")))
    (together (replicate 7 (7 ∷ 1 ∷ [])) ++ (7 ∷ 2 ∷ number_told (octets "1") ++ number_told (octets "2")))
    ++ rows 42 (says (in_both 4 (octets "true")))
    (together (replicate 4 (7 ∷ 1 ∷ 6 ∷ 1 ∷ counted (octets "a"))) ++ (3 ∷ []))
    ++ rows 42 (tree_told 0 (text_said 0 (octets " true ")) ++ tree_told 1 (text_said 1 (octets " [ true , false ] ")))
    (3 ∷ 7 ∷ 2 ∷ 3 ∷ 1 ∷ [])
    -- J43: a string of escapes and of characters of each length, with names of them
    ++ rows 43 (says (octets "{\"" ++ (0xC3 ∷ 0xA9 ∷ octets "\\t\":\""
    ++ (0xF0 ∷ 0x9F ∷ 0x98 ∷ 0x80 ∷ octets "\\/x" ++ (0xE2 ∷ 0x82 ∷ 0xAC ∷ octets "\"}")))))
    (6 ∷ 1 ∷ counted (0xE9 ∷ 0x09 ∷ []) ++ string_told (0xD83D ∷ 0xDE00 ∷ 0x2F ∷ 0x78 ∷ 0x20AC ∷ []))
