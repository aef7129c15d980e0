-- Document 01, "The matrix printer": rows of our own for what is printed, byte for byte. The texts are typed
-- as bytes from the sentence or the sheet that stands above each: 48 to 57 are the digits, 97 to 122 the
-- letters, 32 the space and 10 the line feed.
use Rattle.std.specs.Prelude.{ℕ, List, [], ◌∷◌, ◌++◌, map, take}
use Rattle.rules.specs.Printer.{length_written, printed, refusal_line, row_line, title, written}
use Rattle.rules.specs.declared.RowFields.{RowFields}
use Rattle.rules.specs.rows.RegisterRefusals.{long, most, other, too_many}
use Rattle.rules.specs.rows.RegisterRows.{nines, worked, worked_header, zeros}
use Rattle.rules.specs.rows.Row.{Row, rows, together}

-- `entry zones outputs answer`
abbrev pub title_text : List ℕ
title_text =
    (101 ∷ 110 ∷ 116 ∷ 114 ∷ 121 ∷ 32 ∷ 122 ∷ 111 ∷ 110 ∷ 101 ∷ 115 ∷ 32 ∷ [])
    ++ (111 ∷ 117 ∷ 116 ∷ 112 ∷ 117 ∷ 116 ∷ 115 ∷ 32 ∷ 97 ∷ 110 ∷ 115 ∷ 119 ∷ 101 ∷ 114 ∷ 10 ∷ [])

-- `refused ` and a number, and what follows it
abbrev pub refused_text : List ℕ → List ℕ
refused_text number = (114 ∷ 101 ∷ 102 ∷ 117 ∷ 115 ∷ 101 ∷ 100 ∷ 32 ∷ []) ++ number

abbrev pub fields : ℕ → List ℕ → ℕ → ℕ → RowFields
fields entry zones outputs answer = record { entry = entry; zones = zones; outputs = outputs; answer = answer }

-- A normalise; then track 1's island 0 occupied, head 0's board failed, head 1's power failed:
-- aspect 1 is not changed by a condition.
abbrev pub conditioned : List ℕ
conditioned =
    worked_header
    ++ (7 ∷ 0 ∷ 0 ∷ 0 ∷ 0 ∷ 0 ∷ 0 ∷ 0 ∷ [])
    ++ (1 ∷ 1 ∷ 0 ∷ 0 ∷ 0 ∷ 0 ∷ 0 ∷ 1 ∷ [])
    ++ (6 ∷ 0 ∷ 0 ∷ 0 ∷ 8 ∷ 0 ∷ 0 ∷ 1 ∷ [])
    ++ (6 ∷ 1 ∷ 0 ∷ 0 ∷ 0 ∷ 1 ∷ 0 ∷ 1 ∷ [])

abbrev pub sheet_rows : List Row
sheet_rows =
    -- G52: the title: `entry zones outputs answer`
    rows 52 title title_text
    -- G53: The worked register gives these lines.
    ++ rows 53 (printed worked)
    (title_text
    -- 1 11111 100000000 0
    ++ (49 ∷ 32 ∷ 49 ∷ 49 ∷ 49 ∷ 49 ∷ 49 ∷ 32 ∷ 49 ∷ 48 ∷ 48 ∷ 48 ∷ 48 ∷ 48 ∷ 48 ∷ 48 ∷ 48 ∷ 32 ∷ 48 ∷ 10 ∷ [])
    -- 2 11110 010001000 0
    ++ (50 ∷ 32 ∷ 49 ∷ 49 ∷ 49 ∷ 49 ∷ 48 ∷ 32 ∷ 48 ∷ 49 ∷ 48 ∷ 48 ∷ 48 ∷ 49 ∷ 48 ∷ 48 ∷ 48 ∷ 32 ∷ 48 ∷ 10 ∷ [])
    -- 3 11110 001000001 0
    ++ (51 ∷ 32 ∷ 49 ∷ 49 ∷ 49 ∷ 49 ∷ 48 ∷ 32 ∷ 48 ∷ 48 ∷ 49 ∷ 48 ∷ 48 ∷ 48 ∷ 48 ∷ 48 ∷ 49 ∷ 32 ∷ 48 ∷ 10 ∷ [])
    -- 4 11100 000100100 0
    ++ (52 ∷ 32 ∷ 49 ∷ 49 ∷ 49 ∷ 48 ∷ 48 ∷ 32 ∷ 48 ∷ 48 ∷ 48 ∷ 49 ∷ 48 ∷ 48 ∷ 49 ∷ 48 ∷ 48 ∷ 32 ∷ 48 ∷ 10 ∷ [])
    -- 5 11100 000100100 6
    ++ (53 ∷ 32 ∷ 49 ∷ 49 ∷ 49 ∷ 48 ∷ 48 ∷ 32 ∷ 48 ∷ 48 ∷ 48 ∷ 49 ∷ 48 ∷ 48 ∷ 49 ∷ 48 ∷ 48 ∷ 32 ∷ 54 ∷ 10 ∷ []))
    -- G54: A register that cannot be read prints one line, `refused 9` or `refused 13 at 2`; the same of 10, 11 and 8.
    ++ rows 54 (printed []) (refused_text (57 ∷ 10 ∷ []))
    ++ rows 54 (printed (other 30 (6 ∷ []))) (refused_text (49 ∷ 51 ∷ 32 ∷ 97 ∷ 116 ∷ 32 ∷ 50 ∷ 10 ∷ []))
    ++ rows 54 (printed (other 3 (2 ∷ []))) (refused_text (49 ∷ 48 ∷ 10 ∷ []))
    ++ rows 54 (printed (take 17 worked)) (refused_text (49 ∷ 49 ∷ 10 ∷ []))
    ++ rows 54 (printed (other 5 (5 ∷ []))) (refused_text (56 ∷ 10 ∷ []))
    -- G55: More than 65,536 bytes give `refused 12` before any other test: too many entries, a cut entry, a wrong mark.
    ++ rows 55 (together (map printed (too_many ∷ long 65521 ∷ zeros 65537 ∷ [])))
    (together
    (map (λ number. refused_text number) ((49 ∷ 50 ∷ 10 ∷ []) ∷ (49 ∷ 50 ∷ 10 ∷ []) ∷ (49 ∷ 50 ∷ 10 ∷ []) ∷ [])))
    -- G56: 65,536 bytes do not: a wrong mark, `refused 9`, and entries of no sense, `refused 13 at 1`
    ++ rows 56 (printed (zeros 65536) ++ printed most)
    (refused_text (57 ∷ 10 ∷ []) ++ refused_text (49 ∷ 51 ∷ 32 ∷ 97 ∷ 116 ∷ 32 ∷ 49 ∷ 10 ∷ []))
    -- G57: with no entries the title alone (house)
    ++ rows 57 (printed worked_header) title_text
    -- G58: zone digits (0 if any track occupies it), also of track 1; output digits of the aspect
    -- alone, whatever the heads' conditions
    ++ rows 58 (printed conditioned)
    (title_text
    -- 1 11111 100000000 0
    ++ (49 ∷ 32 ∷ 49 ∷ 49 ∷ 49 ∷ 49 ∷ 49 ∷ 32 ∷ 49 ∷ 48 ∷ 48 ∷ 48 ∷ 48 ∷ 48 ∷ 48 ∷ 48 ∷ 48 ∷ 32 ∷ 48 ∷ 10 ∷ [])
    -- 2 01111 010001000 0
    ++ (50 ∷ 32 ∷ 48 ∷ 49 ∷ 49 ∷ 49 ∷ 49 ∷ 32 ∷ 48 ∷ 49 ∷ 48 ∷ 48 ∷ 48 ∷ 49 ∷ 48 ∷ 48 ∷ 48 ∷ 32 ∷ 48 ∷ 10 ∷ [])
    -- 3 01111 010001000 0
    ++ (51 ∷ 32 ∷ 48 ∷ 49 ∷ 49 ∷ 49 ∷ 49 ∷ 32 ∷ 48 ∷ 49 ∷ 48 ∷ 48 ∷ 48 ∷ 49 ∷ 48 ∷ 48 ∷ 48 ∷ 32 ∷ 48 ∷ 10 ∷ [])
    -- 4 01111 010001000 0
    ++ (52 ∷ 32 ∷ 48 ∷ 49 ∷ 49 ∷ 49 ∷ 49 ∷ 32 ∷ 48 ∷ 49 ∷ 48 ∷ 48 ∷ 48 ∷ 49 ∷ 48 ∷ 48 ∷ 48 ∷ 32 ∷ 48 ∷ 10 ∷ []))
    -- G59: Fields: entry number; five zone digits in island order; nine output digits from VF to S4;
    -- answer. `8190 01001 110100000 14`
    ++ rows 59 (row_line (fields 8190 (0 ∷ 1 ∷ 0 ∷ 0 ∷ 1 ∷ []) 11 14))
    ((56 ∷ 49 ∷ 57 ∷ 48 ∷ 32 ∷ 48 ∷ 49 ∷ 48 ∷ 48 ∷ 49 ∷ 32 ∷ [])
    ++ (49 ∷ 49 ∷ 48 ∷ 49 ∷ 48 ∷ 48 ∷ 48 ∷ 48 ∷ 48 ∷ 32 ∷ 49 ∷ 52 ∷ 10 ∷ []))
    -- whatever is not 0 is shown as 1, and outputs have nine bits (house): `0 11100 000000000 255` of zone
    -- digits 2, 255 and 1 and outputs 512
    ++ rows 59 (row_line (fields 0 (2 ∷ 255 ∷ 1 ∷ 0 ∷ 0 ∷ []) 512 255))
    ((48 ∷ 32 ∷ 49 ∷ 49 ∷ 49 ∷ 48 ∷ 48 ∷ 32 ∷ [])
    ++ (48 ∷ 48 ∷ 48 ∷ 48 ∷ 48 ∷ 48 ∷ 48 ∷ 48 ∷ 48 ∷ 32 ∷ 50 ∷ 53 ∷ 53 ∷ 10 ∷ []))
    -- the greatest number of 64 bits: `18446744073709551615 00000 111111111 10`
    ++ rows 59 (row_line (fields 18446744073709551615 (zeros 5) 511 10))
    ((49 ∷ 56 ∷ 52 ∷ 52 ∷ 54 ∷ 55 ∷ 52 ∷ 52 ∷ 48 ∷ 55 ∷ 51 ∷ 55 ∷ 48 ∷ 57 ∷ 53 ∷ 53 ∷ 49 ∷ 54 ∷ 49 ∷ 53 ∷ 32 ∷ [])
    ++ (48 ∷ 48 ∷ 48 ∷ 48 ∷ 48 ∷ 32 ∷ 49 ∷ 49 ∷ 49 ∷ 49 ∷ 49 ∷ 49 ∷ 49 ∷ 49 ∷ 49 ∷ 32 ∷ 49 ∷ 48 ∷ 10 ∷ []))
    -- G60: the entry is named with 13 alone: `refused 13 at 8190`, `refused 12`
    ++ rows 60 (refusal_line 13 8190) (refused_text (49 ∷ 51 ∷ 32 ∷ 97 ∷ 116 ∷ 32 ∷ 56 ∷ 49 ∷ 57 ∷ 48 ∷ 10 ∷ []))
    ++ rows 60 (refusal_line 12 5 ++ refusal_line 14 5)
    (refused_text (49 ∷ 50 ∷ 10 ∷ []) ++ refused_text (49 ∷ 52 ∷ 10 ∷ []))
    -- G61: A text is written at the start of a lent buffer, and no byte past it is touched; its
    -- 27 bytes are counted. (house)
    ++ rows 61 (length_written title (nines 29) ∷ written title (nines 29)) (27 ∷ title_text ++ nines 2)
    ++ rows 61 (length_written title (nines 27) ∷ written title (nines 27)) (27 ∷ title_text)
    -- Where it does not fit, nothing is written. (house)
    ++ rows 61 (length_written title (nines 26) ∷ written title (nines 26)) (0 ∷ nines 26)
