-- Document 01, "The numbers it answers": each number under a name.
use Rattle.std.specs.Prelude.{ℕ}

abbrev pub done : ℕ
done = 0

-- kind is not 1 to 7
abbrev pub no_such_kind : ℕ
no_such_kind = 1

-- spare not 0, a field shown as 0 is not, clock value 0, condition above 1023
abbrev pub bad_field : ℕ
bad_field = 2

abbrev pub no_such_track : ℕ
no_such_track = 3

-- island above 4
abbrev pub no_such_island : ℕ
no_such_island = 4

-- head above 1
abbrev pub no_such_head : ℕ
no_such_head = 5

-- occupied, free, failed or not failed already
abbrev pub already_so : ℕ
already_so = 6

-- normalise with an island occupied or a detector failed
abbrev pub not_clear : ℕ
not_clear = 7

-- setting (also of a station handed in) or siting number outside its limits; in appending,
-- header settings not the station's
abbrev pub outside_limits : ℕ
outside_limits = 8

-- register shorter than 16 bytes or wrong mark
abbrev pub not_aregister : ℕ
not_aregister = 9

-- version not 1
abbrev pub other_version : ℕ
other_version = 10

-- length less 16 is no multiple of 8
abbrev pub cut_entry : ℕ
cut_entry = 11

-- no room, or more than 8,190 entries
abbrev pub no_room : ℕ
no_room = 12

-- an entry's answer or aspect isn't what the replay gives
abbrev pub not_replayed : ℕ
not_replayed = 13

-- stepping back to, or handing back, a row above the count; handing back row 0
abbrev pub no_such_row : ℕ
no_such_row = 14

-- (document 02, request 1) not RFC 8259 text, too long or too deep
abbrev pub not_json : ℕ
not_json = 15

-- one of our members missing, of another form or outside its range
abbrev pub bad_member : ℕ
bad_member = 16
