-- Document 02, request 1, "Aspect to the passenger screens": rows M16 to M35 for what is read of a text that the desk
-- sends. What is due is read off the sentence that stands above each.
use Rattle.std.specs.Prelude.{ℕ, ◌-◌, List, [], ◌∷◌, ◌++◌, map, length, replicate}
use Prim.Native.String.{String}
use Rattle.rules_json.specs.Abnf.{octets}
use Rattle.rules.specs.Screen.{reading_answer, received}
use Rattle.rules.specs.rows.RegisterRows.{zeros}
use Rattle.rules.specs.rows.Row.{Row, each, rows}
use Rattle.rules.specs.rows.ScreenRows.{free, longest_text, received_told, shortest_text}
use Rattle.rules.specs.rows.Texts.{in_lists, in_objects, quoted, replacements}

-- ---- texts of the desk

-- our three members with these values, and nothing else
abbrev pub sent : List ℕ → List ℕ → List ℕ → List ℕ
sent station aspect tracks =
    octets "{\"station\":"
    ++ (station ++ (octets ",\"aspect\":" ++ (aspect ++ (octets ",\"tracks\":" ++ (tracks ++ octets "}")))))

abbrev pub one_track : List ℕ
one_track = octets "[[1,1,1,1,1]]"

-- members before ours, and behind them
abbrev pub before : String → List ℕ
before members = octets "{" ++ (octets members ++ octets ",\"station\":7,\"aspect\":0,\"tracks\":[[1,1,1,1,1]]}")

abbrev pub behind : String → List ℕ
behind members = octets "{\"station\":7,\"aspect\":0,\"tracks\":[[1,1,1,1,1]]," ++ (octets members ++ octets "}")

-- a name where one of ours should be
abbrev pub station_named : List ℕ → List ℕ
station_named name = octets "{\"" ++ (name ++ octets "\":7,\"aspect\":0,\"tracks\":[[1,1,1,1,1]]}")

abbrev pub aspect_named : List ℕ → List ℕ
aspect_named name = octets "{\"station\":7,\"" ++ (name ++ octets "\":0,\"tracks\":[[1,1,1,1,1]]}")

abbrev pub tracks_named : List ℕ → List ℕ
tracks_named name = octets "{\"station\":7,\"aspect\":0,\"" ++ (name ++ octets "\":[[1,1,1,1,1]]}")

-- an unknown member in front: any value, and a number that makes the text so many bytes long
abbrev pub in_front : List ℕ → List ℕ
in_front value = octets "{\"a\":" ++ (value ++ octets ",\"station\":7,\"aspect\":0,\"tracks\":[[1,1,1,1,1]]}")

abbrev pub long : ℕ → List ℕ
long n = in_front (replicate (n - 52) 0x31)

-- ---- what is answered

abbrev pub answers : List (List ℕ) → List ℕ
answers l = map reading_answer l

-- of a station, an aspect, tracks, a digit, and a digit at each of the five places, where the
-- others are as they should be
abbrev pub stations : List String → List ℕ
stations l = answers (map (λ s. sent (octets s) (octets "0") one_track) l)

abbrev pub aspects_read : List String → List ℕ
aspects_read l = answers (map (λ s. sent (octets "7") (octets s) one_track) l)

abbrev pub tracks_sent : List (List ℕ) → List ℕ
tracks_sent l = answers (map (λ tracks. sent (octets "7") (octets "0") tracks) l)

abbrev pub tracks_read : List String → List ℕ
tracks_read l = tracks_sent (map octets l)

abbrev pub digits_read : List String → List ℕ
digits_read l = tracks_sent (map (λ s. octets "[[1,0,1,0,1],[0,1," ++ (octets s ++ octets ",0,1]]")) l)

abbrev pub five_places : String → List ℕ
five_places s =
    tracks_sent
    ((octets "[[" ++ (octets s ++ octets ",0,1,0,1]]"))
    ∷ (octets "[[0," ++ (octets s ++ octets ",1,0,1]]"))
    ∷ (octets "[[0,1," ++ (octets s ++ octets ",0,1]]"))
    ∷ (octets "[[0,1,0," ++ (octets s ++ octets ",1]]"))
    ∷ (octets "[[0,1,0,1," ++ (octets s ++ octets "]]"))
    ∷ [])

-- the whole of what is given back: the shortest text is of station 7, aspect 0 and one track
abbrev pub gives : List ℕ → List ℕ
gives s = received_told (received s)

abbrev pub seven : List ℕ
seven = 0 ∷ 7 ∷ 0 ∷ 1 ∷ free ++ zeros 15

-- a refused reading
abbrev pub refused : ℕ → List ℕ
refused answer = answer ∷ zeros 23

abbrev pub reading_rows : List Row
reading_rows =
    -- M16: "gives back": station, aspect, the number of tracks, five digits of each, in their order, and
    -- 0 for each track that is not there
    rows 16 (gives shortest_text) (0 ∷ 7 ∷ 0 ∷ 1 ∷ 1 ∷ 1 ∷ 1 ∷ 1 ∷ 1 ∷ zeros 15)
    ++ rows 16 (gives (sent (octets "300") (octets "4") (octets "[[0,1,1,1,0],[1,0,0,1,1]]")))
    (0 ∷ 300 ∷ 4 ∷ 2 ∷ 0 ∷ 1 ∷ 1 ∷ 1 ∷ 0 ∷ 1 ∷ 0 ∷ 0 ∷ 1 ∷ 1 ∷ zeros 10)
    ++ rows 16 (gives (sent (octets "12345") (octets "3") (octets "[[0,0,0,0,1],[0,0,0,1,0],[0,0,1,0,0]]")))
    (0 ∷ 12345 ∷ 3 ∷ 3 ∷ 0 ∷ 0 ∷ 0 ∷ 0 ∷ 1 ∷ 0 ∷ 0 ∷ 0 ∷ 1 ∷ 0 ∷ 0 ∷ 0 ∷ 1 ∷ 0 ∷ 0 ∷ zeros 5)
    ++ rows 16 (gives longest_text)
    (0 ∷ 65535 ∷ 5 ∷ 4 ∷ 0 ∷ 1 ∷ 1 ∷ 1 ∷ 1 ∷ 1 ∷ 0 ∷ 0 ∷ 1 ∷ 1 ∷ 0 ∷ 0 ∷ 0 ∷ 0 ∷ 0 ∷ 1 ∷ 1 ∷ 1 ∷ 0 ∷ 0 ∷ [])
    -- M17: "A refused reading gives zeros and no tracks.": with 15 and with 16, whichever member it is
    ++ rows 17 (gives [] ++ (gives (octets "{") ++ gives (shortest_text ++ octets "x")))
    (refused 15 ++ (refused 15 ++ refused 15))
    ++ rows 17 (gives (sent (octets "65536") (octets "5") one_track) ++ gives (sent (octets "7") (octets "6") one_track))
    (refused 16 ++ refused 16)
    ++ rows 17 (gives (sent (octets "7") (octets "5") (octets "[[1,1,1,1,2]]"))) (refused 16)
    -- M18: `station` (0 to 65535): both sides of each edge
    ++ each 18 0 (stations ("0" ∷ "1" ∷ "9" ∷ "10" ∷ "65534" ∷ "65535" ∷ []))
    ++ each 18 16 (stations ("65536" ∷ "65537" ∷ "99999" ∷ "100000" ∷ "4294967296" ∷ "18446744073709551623" ∷ []))
    -- a number of thousands of digits too
    ++ each 18 16 (answers (map (λ n. sent (0x31 ∷ replicate n 0x30) (octets "0") one_track) (100 ∷ 4049 ∷ [])))
    ++ rows 18 (map (λ s. (received (sent (octets s) (octets "0") one_track)).message.station)
    ("0" ∷ "1" ∷ "90" ∷ "109" ∷ "65535" ∷ [])) (0 ∷ 1 ∷ 90 ∷ 109 ∷ 65535 ∷ [])
    -- M19: `aspect` (0 to 5)
    ++ each 19 0 (aspects_read ("0" ∷ "1" ∷ "2" ∷ "3" ∷ "4" ∷ "5" ∷ []))
    ++ each 19 16 (aspects_read ("6" ∷ "7" ∷ "10" ∷ "50" ∷ "256" ∷ []))
    -- M20: "Our numbers bear no sign, fraction or exponent.": a station, an aspect, a digit
    ++ each 20 16 (stations ("-0" ∷ "-1" ∷ "1.0" ∷ "1e0" ∷ "1E+0" ∷ "10e-1" ∷ []))
    ++ each 20 16 (aspects_read ("-0" ∷ "1.0" ∷ "0e0" ∷ []))
    ++ each 20 16 (digits_read ("-0" ∷ "1.0" ∷ "1e0" ∷ []))
    -- and what is no number of RFC 8259 is no text
    ++ each 20 15
    (stations ("+1" ∷ "01" ∷ "1." ∷ "-" ∷ "" ∷ []) ++ (aspects_read ("00" ∷ []) ++ digits_read ("01" ∷ "" ∷ [])))
    -- M21: of another form: a string, a literal name, a list, an object
    ++ each 21 16
    (stations ("\"1\"" ∷ "\"\"" ∷ "null" ∷ "true" ∷ "false" ∷ "[]" ∷ "[1]" ∷ "{}" ∷ "{\"station\":1}" ∷ []))
    ++ each 21 16 (aspects_read ("\"1\"" ∷ "null" ∷ "true" ∷ "false" ∷ "[1]" ∷ "{\"aspect\":1}" ∷ []))
    ++ each 21 16 (tracks_read ("\"1\"" ∷ "null" ∷ "true" ∷ "false" ∷ "1" ∷ "0" ∷ "{}" ∷ "{\"tracks\":[[1,1,1,1,1]]}"
    ∷ "\"[[1,1,1,1,1]]\"" ∷ []))
    -- M22: `tracks`, a list of one to four lists: none, one to four, five
    ++ each 22 16 (tracks_read ("[]" ∷ "[ ]" ∷ "[[1,1,1,1,1],[1,1,1,1,1],[1,1,1,1,1],[1,1,1,1,1],[1,1,1,1,1]]" ∷ []))
    ++ each 22 0
    (tracks_read ("[[1,1,1,1,1]]" ∷ "[[1,1,1,1,1],[1,1,1,1,1]]" ∷ "[[1,1,1,1,1],[1,1,1,1,1],[1,1,1,1,1]]" ∷ []))
    ++ each 22 0 (tracks_read ("[[1,1,1,1,1],[1,1,1,1,1],[1,1,1,1,1],[1,1,1,1,1]]"
    ∷ "[[0,0,0,0,0],[0,0,0,0,0],[0,0,0,0,0],[0,0,0,0,0]]" ∷ []))
    -- each of them a list
    ++ each 22 16 (tracks_read ("[1]" ∷ "[1,1,1,1,1]" ∷ "[null]" ∷ "[\"11111\"]" ∷ "[{}]" ∷ "[{\"a\":1}]"
    ∷ "[[1,1,1,1,1],1]" ∷ "[null,[1,1,1,1,1]]" ∷ "[[[1,1,1,1,1]]]" ∷ []))
    -- M23: of five digits: none, four, five, six, of the first and of the last
    ++ each 23 16 (tracks_read ("[[]]" ∷ "[[1,1,1,1]]" ∷ "[[1,1,1,1,1,1]]" ∷ "[[1,1,1,1,1],[1,1,1,1]]"
    ∷ "[[1,1,1,1,1,1],[1,1,1,1]]" ∷ "[[1,1,1,1],[1,1,1,1,1]]" ∷ []))
    ++ each 23 16 (tracks_read ("[[1,1,1,1,1],[1,1,1,1,1],[1,1,1,1,1],[1,1,1,1,1,1]]" ∷ "[[1,1,1,1,1,1,1,1,1,1]]" ∷ []))
    -- M24: digits (0 occupied, 1 free): at each of the five places, and of another form
    ++ each 24 0 (five_places "0" ++ five_places "1") ++ each 24 16 (five_places "2")
    ++ each 24 16 (digits_read ("9" ∷ "10" ∷ "11" ∷ "\"1\"" ∷ "null" ∷ "true" ∷ "false" ∷ "[]" ∷ "[1]" ∷ "{}" ∷ []))
    -- M25: 16 one of our members missing: each, two and all of them
    ++ each 25 16 (answers (map octets ("{\"aspect\":0,\"tracks\":[[1,1,1,1,1]]}"
    ∷ "{\"station\":7,\"tracks\":[[1,1,1,1,1]]}" ∷ "{\"station\":7,\"aspect\":0}" ∷ [])))
    ++ each 25 16 (answers (map octets
    ("{\"station\":7}" ∷ "{\"aspect\":0}" ∷ "{\"tracks\":[[1,1,1,1,1]]}" ∷ "{}" ∷ "{\"other\":1}" ∷ [])))
    -- M26: "the first of each of ours": the first decides, where it is right and where it is wrong
    ++ rows 26 (gives (behind "\"station\":8,\"aspect\":1,\"tracks\":[[0,0,0,0,0],[0,0,0,0,0]]")) seven
    ++ rows 26 (gives (behind "\"station\":null,\"aspect\":6,\"tracks\":[]")) seven
    ++ each 26 16 (answers (map before ("\"station\":65536" ∷ "\"station\":null" ∷ "\"aspect\":6" ∷ "\"aspect\":\"0\""
    ∷ "\"tracks\":[]" ∷ "\"tracks\":[[1,1,1,1,2]]" ∷ [])))
    ++ rows 26 (gives (before "\"station\":8,\"aspect\":1,\"tracks\":[[0,1,0,1,0]]"))
    (0 ∷ 8 ∷ 1 ∷ 1 ∷ 0 ∷ 1 ∷ 0 ∷ 1 ∷ 0 ∷ zeros 15)
    -- M27: "in the outermost object": a name inside another object or list does not count
    ++ rows 27 (gives (before "\"other\":{\"station\":8,\"aspect\":6,\"tracks\":[]}")) seven
    ++ rows 27 (gives (before "\"other\":[{\"station\":8},\"station\",8]")) seven
    ++ each 27 16 (answers (map octets ("{\"other\":{\"station\":7,\"aspect\":0,\"tracks\":[[1,1,1,1,1]]}}" ∷ [])))
    ++ each 27 16 (answers (map octets ("{\"station\":{\"station\":7},\"aspect\":0,\"tracks\":[[1,1,1,1,1]]}" ∷ [])))
    ++ each 27 16 (answers (map octets ("{\"aspect\":0,\"tracks\":[[1,1,1,1,1]],\"other\":{\"station\":7}}"
    ∷ "{\"other\":\"station\",\"aspect\":0,\"tracks\":[[1,1,1,1,1]]}" ∷ [])))
    -- M28: "names compared after escapes"
    ++ rows 28 (gives (station_named (octets "\\u0073tation"))
    ++ gives (station_named (octets "\\u0073\\u0074\\u0061\\u0074\\u0069\\u006F\\u006e"))) (seven ++ seven)
    ++ rows 28 (gives (aspect_named (octets "asp\\u0065ct")) ++ gives (tracks_named (octets "track\\u0073")))
    (seven ++ seven)
    ++ each 28 16
    (answers (map station_named (octets "\\u0053tation" ∷ octets "\\\\u0073tation" ∷ octets "s\\ttation" ∷ [])))
    ++ each 28 16
    (answers (map station_named (octets "station\\u0000" ∷ octets "\\/station" ∷ octets "\\u0173tation" ∷ [])))
    -- the first of them decides, escaped or not
    ++ rows 28 (gives (behind "\"\\u0073tation\":8")) seven
    ++ each 28 16
    (answers (before "\"\\u0073tation\":65536" ∷ before "\"aspec\\u0074\":6" ∷ before "\"\\u0074racks\":[]" ∷ []))
    -- M29: names that are none of ours: each letter another; another case; longer, shorter, none; another of ours
    ++ each 29 16 (answers (map station_named (replacements 0x78 (octets "station"))))
    ++ each 29 16 (answers (map aspect_named (replacements 0x78 (octets "aspect"))
    ++ map tracks_named (replacements 0x78 (octets "tracks"))))
    ++ each 29 16 (answers (map station_named (octets "Station" ∷ octets "STATION" ∷ octets "station "
    ∷ octets " station" ∷ octets "tation" ∷ octets "statio" ∷ octets "stations" ∷ [])))
    ++ each 29 16 (answers (map station_named (octets "s" ∷ [] ∷ octets "aspect" ∷ [])))
    ++ each 29 16
    (answers (map aspect_named (octets "Aspect" ∷ octets "aspects" ∷ octets "asp" ∷ [] ∷ octets "station" ∷ [])))
    ++ each 29 16 (answers (map tracks_named (octets "Tracks" ∷ octets "track" ∷ [] ∷ octets "aspect" ∷ [])))
    -- M30: "with members and blanks added", "skips members it does not know": of every form,
    -- before ours, behind and between them
    ++ rows 30
    (gives (before "\"a\":1,\"b\":\"x\",\"c\":null,\"d\":[1,[2]],\"e\":{\"f\":{}},\"\":true,\"a\":false")) seven
    ++ rows 30 (gives (behind "\"a\":-1.5e3,\"b\":\"\\\"station\\\":8\",\"c\":{},\"d\":[]")) seven
    ++ rows 30
    (gives (octets "{\"a\":1,\"station\":7,\"b\":2,\"aspect\":0,\"c\":3,\"tracks\":[[1,1,1,1,1]],\"d\":4}")) seven
    ++ rows 30
    (gives (octets " {\n\t\"station\" : 7 ,\r\n\"aspect\"\t: 0 , \"tracks\" : [ [ 1 , 1,1 ,1,\n1 ] ] } \r\n")) seven
    -- members of ours in any other order
    ++ rows 30 (gives (octets "{\"tracks\":[[1,1,1,1,1]],\"aspect\":0,\"station\":7}")
    ++ gives (octets "{\"aspect\":0,\"tracks\":[[1,1,1,1,1]],\"station\":7}")) (seven ++ seven)
    -- M31: an outermost value that is no object has none of our members
    ++ each 31 16 (answers (map octets ("1" ∷ "null" ∷ "\"station\"" ∷ "[]" ∷ "[7,0,[[1,1,1,1,1]]]"
    ∷ "[\"station\",7,\"aspect\",0,\"tracks\",[[1,1,1,1,1]]]" ∷ [])))
    ++ each 31 16 (answers ((octets "[" ++ (shortest_text ++ octets "]")) ∷ []))
    -- M32: 15 not RFC 8259 text: before 16
    ++ each 32 15 (answers (map octets ("" ∷ " " ∷ "x" ∷ "{\"station\":65536" ∷ "{\"other\":1}}" ∷ "{,}"
    ∷ "{\"station\":null,}" ∷ "[1" ∷ "{station:7}" ∷ [])))
    -- our own text with anything behind it, or the byte order mark before it
    ++ each 32 15 (answers ((shortest_text ++ octets ",") ∷ (shortest_text ++ shortest_text)
    ∷ (shortest_text ++ (0x00 ∷ [])) ∷ (0xEF ∷ 0xBB ∷ 0xBF ∷ shortest_text) ∷ []))
    -- M33: "in UTF-8": a member that is, in its name and its value, and one that is not
    ++ rows 33 (gives (in_front (quoted (0xF0 ∷ 0x9F ∷ 0x98 ∷ 0x80 ∷ [])))
    ++ gives (in_front (octets "{\"" ++ (0xC3 ∷ 0xA9 ∷ octets "\":1}")))) (seven ++ seven)
    ++ each 33 15 (answers (map (λ bad. in_front (quoted bad))
    ((0xE9 ∷ []) ∷ (0xC0 ∷ 0x80 ∷ []) ∷ (0xED ∷ 0xA0 ∷ 0x80 ∷ []) ∷ (0x0A ∷ []) ∷ [])))
    -- M34: "of at most 4,096 bytes": blanks before it, behind it, and a long member; 15 one byte
    -- above, also where a member is missing
    ++ rows 34 (gives (replicate 4049 0x20 ++ shortest_text) ++ gives (replicate 4050 0x20 ++ shortest_text))
    (seven ++ refused 15)
    ++ rows 34 (answers (map (λ n. shortest_text ++ replicate n 0x0A) (4049 ∷ 4050 ∷ []))) (0 ∷ 15 ∷ [])
    ++ rows 34 (map (λ n. length (long n)) (4096 ∷ 4097 ∷ []) ++ answers (map long (4096 ∷ 4097 ∷ 5000 ∷ [])))
    (4096 ∷ 4097 ∷ 0 ∷ 15 ∷ 15 ∷ [])
    ++ rows 34 (answers (map (λ n. octets "{}" ++ replicate n 0x20) (4094 ∷ 4095 ∷ []))) (16 ∷ 15 ∷ [])
    -- M35: "lists and objects stand at most 8 deep, each inside the other": the outermost object is the first of them
    ++ rows 35 (gives (in_front (in_lists 7 []))
    ++ (gives (in_front (in_lists 7 (octets "1"))) ++ gives (in_front (in_objects 6 (octets "{}")))))
    (seven ++ (seven ++ seven))
    ++ each 35 15 (answers (map in_front (in_lists 8 [] ∷ in_objects 7 (octets "{}") ∷ in_lists 8 (octets "1")
    ∷ in_lists 4 (in_objects 4 (octets "1")) ∷ [])))
    ++ each 35 15 (answers (in_lists 9 [] ∷ in_objects 9 (octets "1") ∷ []))
    ++ each 35 16 (answers (in_lists 8 [] ∷ in_objects 8 (octets "1") ∷ []))
