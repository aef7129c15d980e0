-- Document 02, request 1, "Aspect to the passenger screens": rows M1 to M15 for the message of a station and how it is
-- written. What is due is read off the sentence that stands above each.
use Rattle.std.specs.Prelude.{ℕ, ◌+◌, ◌-◌, ◌*◌, List, [], ◌∷◌, ◌++◌, map, replicate}
use Rattle.rules_json.specs.Abnf.{octets}
use Rattle.rules.specs.OfEachKind.{clock, failed, freed, occupied}
use Rattle.rules.specs.Screen.{after_writing, message_of, received, written, writing_answer, written_of}
use Rattle.rules.specs.Station.{with_tracks}
use Rattle.rules.specs.declared.Message.{Message}
use Rattle.rules.specs.declared.Received.{Received}
use Rattle.rules.specs.declared.Report.{Report}
use Rattle.rules.specs.declared.Written.{Written}
use Rattle.rules.specs.rows.HouseRows.{leaving}
use Rattle.rules.specs.rows.Machine.{ours}
use Rattle.rules.specs.rows.Refusals.{chosen, five_tracks, handed_in, short_t5}
use Rattle.rules.specs.rows.RegisterRows.{nines, zeros}
use Rattle.rules.specs.rows.Row.{Row, each, rows, together}
use Rattle.rules.specs.rows.StationRows.{five_islands, overfull, short}
use Rattle.rules.specs.rows.Table.{c1, c2, c3, c4, c7, run}

-- ---- a message, made and told as numbers

abbrev pub message : ℕ → ℕ → ℕ → List ℕ → Message
message station aspect tracks digits = record { station = station; aspect = aspect; tracks = tracks; digits = digits }

-- station, aspect, tracks and twenty digits
abbrev pub message_told : Message → List ℕ
message_told m = m.station ∷ m.aspect ∷ m.tracks ∷ m.digits

abbrev pub received_told : Received → List ℕ
received_told r = r.answer ∷ message_told r.message

abbrev pub written_told : Written → List ℕ
written_told w = w.answer ∷ w.length ∷ []

-- the digits of a station of so many tracks after these reports
abbrev pub digits_after : ℕ → List Report → List ℕ
digits_after tracks reports = (message_of 7 (short tracks 0 reports)).digits

-- ---- digits: five of a track, twenty of a message

abbrev pub free : List ℕ
free = 1 ∷ 1 ∷ 1 ∷ 1 ∷ 1 ∷ []

abbrev pub all_free : ℕ → List ℕ
all_free tracks = together (replicate tracks free) ++ zeros (20 - 5 * tracks)

-- one island occupied, each in turn
abbrev pub one_occupied : List (List ℕ)
one_occupied =
    (0 ∷ 1 ∷ 1 ∷ 1 ∷ 1 ∷ [])
    ∷ (1 ∷ 0 ∷ 1 ∷ 1 ∷ 1 ∷ [])
    ∷ (1 ∷ 1 ∷ 0 ∷ 1 ∷ 1 ∷ [])
    ∷ (1 ∷ 1 ∷ 1 ∷ 0 ∷ 1 ∷ [])
    ∷ (1 ∷ 1 ∷ 1 ∷ 1 ∷ 0 ∷ [])
    ∷ []

-- four tracks, none like another
abbrev pub four_tracks : List ℕ
four_tracks =
    (0 ∷ 1 ∷ 1 ∷ 1 ∷ 1 ∷ []) ++ ((1 ∷ 0 ∷ 0 ∷ 1 ∷ 1 ∷ []) ++ ((0 ∷ 0 ∷ 0 ∷ 0 ∷ 0 ∷ []) ++ (1 ∷ 1 ∷ 1 ∷ 0 ∷ 0 ∷ [])))

-- ---- texts and buffers

-- 47 and 87 bytes: the shortest text and the longest one
abbrev pub shortest : Message
shortest = message 7 0 1 (all_free 1)

abbrev pub shortest_text : List ℕ
shortest_text = octets "{\"station\":7,\"aspect\":0,\"tracks\":[[1,1,1,1,1]]}"

abbrev pub longest : Message
longest = message 65535 5 4 four_tracks

abbrev pub longest_text : List ℕ
longest_text = octets "{\"station\":65535,\"aspect\":5,\"tracks\":[[0,1,1,1,1],[1,0,0,1,1],[0,0,0,0,0],[1,1,1,0,0]]}"

-- messages that fit: of no station, and of three
abbrev pub some_messages : List Message
some_messages =
    shortest
    ∷ longest
    ∷ message 0 4 3 (all_free 3)
    ∷ map (message_of 10) (c7 ours ∷ short 4 0 (occupied 3 2 ∷ []) ∷ five_tracks ∷ [])

-- the numbers that writing answers, where there is room
abbrev pub writing : List Message → List ℕ
writing l = map (λ m. writing_answer m 100) l

abbrev pub screen_rows : List Row
screen_rows =
    -- M1: `tracks`, a list of one to four lists of five digits: as many as the station has; 0
    -- for each track that is not there
    rows 1 (together (map (λ n. message_told (message_of 7 (short n 0 []))) (1 ∷ 2 ∷ 3 ∷ 4 ∷ [])))
    (together (map (λ n. 7 ∷ 0 ∷ n ∷ all_free n) (1 ∷ 2 ∷ 3 ∷ 4 ∷ [])))
    ++ rows 1 (all_free 1 ++ all_free 4) ((1 ∷ 1 ∷ 1 ∷ 1 ∷ 1 ∷ zeros 15) ++ replicate 20 1)
    -- M2: 0 occupied, 1 free, in island order: each island of the only track
    ++ rows 2 (together (map (λ k. digits_after 1 (occupied 0 k ∷ [])) five_islands))
    (together (map (λ five. five ++ zeros 15) one_occupied))
    -- and of each track, in their order
    ++ rows 2 (together (map (λ a. digits_after 4 (occupied a 1 ∷ [])) (0 ∷ 1 ∷ 2 ∷ 3 ∷ [])))
    (together
    ((1 ∷ 0 ∷ replicate 18 1)
    ∷ (replicate 6 1 ++ (0 ∷ replicate 13 1))
    ∷ (replicate 11 1 ++ (0 ∷ replicate 8 1))
    ∷ (replicate 16 1 ++ (0 ∷ 1 ∷ 1 ∷ 1 ∷ []))
    ∷ []))
    ++ rows 2 (digits_after 4 ((occupied 0 0 ∷ occupied 1 1 ∷ occupied 1 2 ∷ [])
    ++ (map (occupied 2) five_islands ++ (occupied 3 3 ∷ occupied 3 4 ∷ [])))) four_tracks
    ++ rows 2 (digits_after 2 (occupied 1 4 ∷ []) ++ digits_after 3 (occupied 2 0 ∷ []))
    (replicate 9 1 ++ (zeros 11 ++ (replicate 10 1 ++ (0 ∷ 1 ∷ 1 ∷ 1 ∷ 1 ∷ zeros 5))))
    -- M3: an island is occupied whatever its mark, age and detector are; a failed detector
    -- occupies none; a freed island is free
    ++ rows 3 (together (map (λ l. digits_after 1 l)
    (leaving 0 ∷ (occupied 0 0 ∷ clock 4 ∷ []) ∷ (occupied 0 2 ∷ failed 0 2 ∷ []) ∷ [])))
    ((1 ∷ 0 ∷ 1 ∷ 1 ∷ 1 ∷ zeros 15) ++ ((0 ∷ 1 ∷ 1 ∷ 1 ∷ 1 ∷ zeros 15) ++ (1 ∷ 1 ∷ 0 ∷ 1 ∷ 1 ∷ zeros 15)))
    ++ rows 3 (digits_after 1 (failed 0 2 ∷ []) ++ digits_after 1 (occupied 0 3 ∷ freed 0 3 ∷ []))
    (all_free 1 ++ all_free 1)
    -- M4: `aspect` (0 to 5): the aspect of the station, in the order 0 to 5; a fresh station is
    -- of aspect 5 and every island free
    ++ rows 4 (map (λ s. (message_of 7 s).aspect)
    (c2 ours ∷ c3 ours ∷ c4 ours ∷ c7 ours ∷ run ours (c3 ours) (clock 300 ∷ []) ∷ c1 ours ∷ []))
    (0 ∷ 1 ∷ 2 ∷ 3 ∷ 4 ∷ 5 ∷ [])
    ++ rows 4 (message_told (message_of 7 (c1 ours))) (7 ∷ 5 ∷ 2 ∷ all_free 2)
    -- M5: `station` (0 to 65535): the number that is given, and no other
    ++ rows 5 (map (λ n. (message_of n (c2 ours)).station) (0 ∷ 1 ∷ 65535 ∷ [])) (0 ∷ 1 ∷ 65535 ∷ [])
    ++ rows 5 (map (λ n. (message_of n five_tracks).station) (0 ∷ 1 ∷ 65535 ∷ [])) (0 ∷ 1 ∷ 65535 ∷ [])
    -- M6: (house) a station refused with 8 is sent as aspect 5 with four tracks of 0, whichever setting is outside
    -- its limits, and whatever is occupied
    ++ rows 6 (together (map (λ s. message_told (message_of 9 s))
    (five_tracks ∷ short_t5 ∷ handed_in (chosen 0 3 5 4 0 9) ∷ with_tracks five_tracks (c4 ours).tracks ∷ [])))
    (together (replicate 4 (9 ∷ 5 ∷ 4 ∷ zeros 20)))
    -- M7: tracks beyond the station's number are not read: 0, though they are handed in with islands free and occupied
    ++ rows 7 (message_told (message_of 7 overfull)) (7 ∷ 0 ∷ 1 ∷ all_free 1)
    -- M8: "We write one object with members `station`, `aspect` and `tracks` .. no spaces and members in that
    -- order": stations of one to five digits
    ++ rows 8 (written shortest) shortest_text
    ++ rows 8 (together (map (λ n. written (message n 0 1 (all_free 1))) (0 ∷ 10 ∷ 300 ∷ 8190 ∷ 65535 ∷ [])))
    (octets "{\"station\":0,\"aspect\":0,\"tracks\":[[1,1,1,1,1]]}"
    ++ (octets "{\"station\":10,\"aspect\":0,\"tracks\":[[1,1,1,1,1]]}"
    ++ (octets "{\"station\":300,\"aspect\":0,\"tracks\":[[1,1,1,1,1]]}"
    ++ (octets "{\"station\":8190,\"aspect\":0,\"tracks\":[[1,1,1,1,1]]}"
    ++ octets "{\"station\":65535,\"aspect\":0,\"tracks\":[[1,1,1,1,1]]}"))))
    -- M9: one to four tracks, in their order, and every aspect
    ++ rows 9
    (together (map (λ n. written (message 1 n n (replicate (5 * n) 0 ++ zeros (20 - 5 * n)))) (1 ∷ 2 ∷ 3 ∷ [])))
    (octets "{\"station\":1,\"aspect\":1,\"tracks\":[[0,0,0,0,0]]}"
    ++ (octets "{\"station\":1,\"aspect\":2,\"tracks\":[[0,0,0,0,0],[0,0,0,0,0]]}"
    ++ octets "{\"station\":1,\"aspect\":3,\"tracks\":[[0,0,0,0,0],[0,0,0,0,0],[0,0,0,0,0]]}"))
    ++ rows 9 (written longest) longest_text
    ++ rows 9 (written (message 2 4 2 four_tracks))
    (octets "{\"station\":2,\"aspect\":4,\"tracks\":[[0,1,1,1,1],[1,0,0,1,1]]}")
    -- M10: 16: one of our members outside its range: both sides of each
    ++ each 10 0 (writing (map (λ n. message n 0 1 (all_free 1)) (0 ∷ 1 ∷ 65535 ∷ [])
    ++ map (λ n. message 0 n 1 (all_free 1)) (0 ∷ 1 ∷ 2 ∷ 3 ∷ 4 ∷ 5 ∷ [])))
    ++ each 10 16 (writing (map (λ n. message n 0 1 (all_free 1)) (65536 ∷ 65537 ∷ [])
    ++ map (λ n. message 0 n 1 (all_free 1)) (6 ∷ 7 ∷ 255 ∷ [])))
    ++ each 10 0 (writing (map (λ n. message 0 0 n (zeros 20)) (1 ∷ 2 ∷ 3 ∷ 4 ∷ [])
    ++ map (λ n. message 0 0 n (all_free n)) (1 ∷ 2 ∷ 3 ∷ 4 ∷ [])))
    ++ each 10 16 (writing (map (λ n. message 0 0 n (zeros 20)) (0 ∷ 5 ∷ 6 ∷ 255 ∷ [])))
    -- M11: digits (0 occupied, 1 free): a 2 at any place of a track
    ++ each 11 16
    (writing (map (λ k. message 0 0 1 (replicate k 1 ++ (2 ∷ replicate (4 - k) 1 ++ zeros 15))) five_islands))
    ++ each 11 16 (writing (map (λ k. message 0 0 4 (replicate (15 + k) 0 ++ (2 ∷ zeros (4 - k)))) five_islands))
    ++ each 11 16
    (writing (map (λ d. message 0 0 2 (1 ∷ 1 ∷ 1 ∷ 1 ∷ 1 ∷ 0 ∷ 0 ∷ d ∷ zeros 12)) (2 ∷ 3 ∷ 10 ∷ 255 ∷ [])))
    -- (house) a digit of a track that is not there is 0: the first past the tracks, and the last
    ++ each 11 16 (writing (map (λ d. message 0 0 1 (replicate 5 1 ++ (d ∷ zeros 14))) (1 ∷ 2 ∷ 255 ∷ [])
    ++ map (λ n. message 0 0 n (zeros 19 ++ (1 ∷ []))) (1 ∷ 2 ∷ 3 ∷ [])))
    ++ each 11 0 (writing (message 0 0 4 (zeros 19 ++ (1 ∷ [])) ∷ message 0 0 3 (zeros 14 ++ (1 ∷ zeros 5)) ∷ []))
    -- M12: "it answers 16, then 12 a buffer too short, with length 0": room for the text, one byte short and none; 47
    -- bytes, and 87 of the longest text
    ++ rows 12 (together (map (λ n. written_told (written_of shortest n)) (0 ∷ 46 ∷ 47 ∷ 48 ∷ 4096 ∷ [])))
    (12 ∷ 0 ∷ 12 ∷ 0 ∷ 0 ∷ 47 ∷ 0 ∷ 47 ∷ 0 ∷ 47 ∷ [])
    ++ rows 12 (together (map (λ n. written_told (written_of longest n)) (86 ∷ 87 ∷ []))) (12 ∷ 0 ∷ 0 ∷ 87 ∷ [])
    ++ rows 12 (map (writing_answer longest) (0 ∷ 1 ∷ 86 ∷ 87 ∷ 88 ∷ [])) (12 ∷ 12 ∷ 12 ∷ 0 ∷ 0 ∷ [])
    -- 16 before 12
    ++ rows 12 (together (map (λ n. written_told (written_of (message 0 6 1 (all_free 1)) n)) (0 ∷ 46 ∷ 47 ∷ 100 ∷ [])))
    (together (replicate 4 (16 ∷ 0 ∷ [])))
    -- M13: "Writing touches no byte past the text"
    ++ rows 13 (after_writing shortest (nines 47)) shortest_text
    ++ rows 13 (after_writing shortest (nines 49)) (shortest_text ++ nines 2)
    ++ rows 13 (after_writing longest (nines 88)) (longest_text ++ nines 1)
    -- M14: refused, nothing is written: a buffer too short, and a member outside its range
    ++ rows 14 (after_writing shortest (nines 46) ++ after_writing shortest []) (nines 46)
    ++ rows 14 (after_writing (message 0 6 1 (all_free 1)) (nines 60)
    ++ after_writing (message 0 0 1 (replicate 20 1)) (nines 100)) (nines 160)
    -- M15: "What we write we read back unchanged."
    ++ rows 15 (together (map (λ m. received_told (received (written m))) some_messages))
    (together (map (λ m. 0 ∷ message_told m) some_messages))
