-- Document 02, request 1, "Aspect to the passenger screens".
use Rattle.std.specs.Prelude.{ℕ, zero, suc, ◌+◌, ◌-◌, ◌*◌, Bool, true, false, cond, not, ◌&&◌, List, [], ◌∷◌, ◌++◌, map, eqb, leb, ltb, drop, length, replicate, take}
use Rattle.std.proofs.Math.Option.{Option, none, some}
use Rattle.rules_json.specs.Abnf.{octets}
use Rattle.rules_json.specs.Grammar.{digit, joined}
use Rattle.rules_json.specs.Reader.{is_text, text_said}
use Rattle.rules_json.specs.Tree.{Member, Scalar, Tree, Value, array, false_literal, null_literal}
use Rattle.rules_json.specs.Tree.{number, object, scalar, string, true_literal}
use Rattle.rules.specs.Aspect.{aspect_of}
use Rattle.rules.specs.Numbers.{bad_member, done, no_room, not_json}
use Rattle.rules.specs.Printer.{decimal}
use Rattle.rules.specs.Station.{island_at, live, within_limits}
use Rattle.rules.specs.Words.{any, within, ◌if◌then◌}
use Rattle.rules.specs.declared.Message.{Message}
use Rattle.rules.specs.declared.Received.{Received}
use Rattle.rules.specs.declared.Station.{Station}
use Rattle.rules.specs.declared.Track.{Track}
use Rattle.rules.specs.declared.Written.{Written}

-- ---- "members `station` (0 to 65535), `aspect` (0 to 5) and `tracks`, a list of one to four
-- lists of five digits (0 occupied, 1 free)"

-- Member names are ours.
abbrev pub station_name : List ℕ
station_name = octets "station"

abbrev pub aspect_name : List ℕ
aspect_name = octets "aspect"

abbrev pub tracks_name : List ℕ
tracks_name = octets "tracks"

abbrev pub greatest_station : ℕ
greatest_station = 65535

abbrev pub greatest_aspect : ℕ
greatest_aspect = 5

abbrev pub greatest_digit : ℕ
greatest_digit = 1

abbrev pub tracks_fit : ℕ → Bool
tracks_fit n = within 1 4 n

-- five digits for each track, and 0 for each track that is not there
abbrev pub padded : List ℕ → List ℕ
padded digits = digits ++ replicate (20 - length digits) 0

-- five digits for each of n tracks
abbrev pub fives : ℕ → List ℕ → List (List ℕ)
fives zero digits = []
fives (suc n) digits = take 5 digits ∷ fives n (drop 5 digits)

-- ---- the message of a station

abbrev pub track_digits : Track → List ℕ
track_digits t = map (λ k. cond (island_at t k).occupied 0 1) (0 ∷ 1 ∷ 2 ∷ 3 ∷ 4 ∷ [])

-- (House: a station refused with 8 is sent as aspect 5 with four tracks of 0.)
unfoldable pub message_of : ℕ → Station → Message
message_of station s =
    cond (within_limits s.settings)
    record {
      station = station;
      aspect = aspect_of s;
      tracks = s.settings.tracks;
      digits = padded (joined (map track_digits (live s)));
    }
    record { station = station; aspect = 5; tracks = 4; digits = replicate 20 0 }

-- ---- "We write one object .. no spaces and members in that order."

-- [ and ] around texts with commas between them
abbrev pub listed : List (List ℕ) → List ℕ
listed [] = octets "[]"
listed (x ∷ xs) = octets "[" ++ (x ++ (joined (map (λ y. octets "," ++ y) xs) ++ octets "]"))

unfoldable pub written : Message → List ℕ
written m =
    octets "{\"station\":" ++ (decimal m.station
    ++ (octets ",\"aspect\":" ++ (decimal m.aspect
    ++ (octets ",\"tracks\":" ++ (listed (map (λ five. listed (map decimal five)) (fives m.tracks m.digits))
    ++ octets "}")))))

-- 16: one of our members outside its range. (House: a digit of a track that is not there is 0, or what we
-- write would not be read back unchanged.)
unfoldable pub message_fits : Message → Bool
message_fits m =
    leb m.station greatest_station
    && leb m.aspect greatest_aspect
    && tracks_fit m.tracks
    && not (any (ltb greatest_digit) (take (5 * m.tracks) m.digits))
    && not (any (ltb 0) (drop (5 * m.tracks) m.digits))

-- "Writing .. answers 16, then 12 a buffer too short": of a buffer of so many bytes
unfoldable pub writing_answer : Message → ℕ → ℕ
writing_answer m room = bad_member if not (message_fits m) then no_room if ltb room (length (written m)) then done

-- "with length 0 and nothing written"
unfoldable pub written_of : Message → ℕ → Written
written_of m room =
    record { answer = writing_answer m room; length = cond (eqb (writing_answer m room) done) (length (written m)) 0 }

-- "Writing touches no byte past the text."
unfoldable pub after_writing : Message → List ℕ → List ℕ
after_writing m b = cond (eqb (writing_answer m (length b)) done) (written m ++ drop (length (written m)) b) b

-- ---- "our reader takes any RFC 8259 text in UTF-8 of at most 4,096 bytes in which lists and objects stand
-- at most 8 deep, each inside the other"

abbrev pub longest : ℕ
longest = 4096

abbrev pub deepest : ℕ
deepest = 8

unfoldable pub is_taken : List ℕ → Bool
is_taken s = leb (length s) longest && is_text deepest s

-- ---- "gives back the first of each of ours in the outermost object, names compared after escapes"

abbrev pub same : List ℕ → List ℕ → Bool
same [] [] = true
same [] (y ∷ ys) = false
same (x ∷ xs) [] = false
same (x ∷ xs) (y ∷ ys) = eqb x y && same xs ys

module _ {A : Type 0} where
  abbrev pub first : List ℕ → List (Member A) → Option A
  first name [] = none
  first name (m ∷ ms) = cond (same m.name name) (some m.value) (first name ms)

  abbrev pub members_of : Value A → List (Member A)
  members_of (scalar x) = []
  members_of (object members) = members
  members_of (array values) = []

-- ---- the forms of ours

module _ {A B : Type 0} where
  abbrev pub and_then : Option A → (A → Option B) → Option B
  and_then none f = none
  and_then (some x) f = f x

module _ {A : Type 0} where
  -- it, where the test holds
  abbrev pub provided : Bool → A → Option A
  provided test x = cond test (some x) none

  abbrev pub is_there : Option A → Bool
  is_there none = false
  is_there (some x) = true

  abbrev pub or_else : A → Option A → A
  or_else y none = y
  or_else y (some x) = x

module _ {A B : Type 0} where
  -- what each of them gives, where each gives something
  abbrev pub each : (A → Option B) → List A → Option (List B)
  each f [] = some []
  each f (x ∷ xs) = and_then (f x) (λ y. and_then (each f xs) (λ ys. some (y ∷ ys)))

-- the number that digits stand for, behind those read already
abbrev pub number_after : ℕ → List ℕ → ℕ
number_after n [] = n
number_after n (b ∷ s) = number_after (10 * n + (b - 48)) s

abbrev pub number_text : Scalar → List ℕ
number_text false_literal = []
number_text null_literal = []
number_text true_literal = []
number_text (number text) = text
number_text (string units) = []

abbrev pub is_empty : List ℕ → Bool
is_empty [] = true
is_empty (x ∷ xs) = false

-- "Our numbers bear no sign, fraction or exponent."
unfoldable pub our_number : ℕ → List ℕ → Option ℕ
our_number most text =
    provided (not (is_empty text) && not (any (λ b. not (digit b)) text) && leb (number_after 0 text) most)
    (number_after 0 text)

module _ {A : Type 0} where
  -- a number from 0 to the most
  abbrev pub number_of : ℕ → Value A → Option ℕ
  number_of most (scalar x) = our_number most (number_text x)
  number_of most (object members) = none
  number_of most (array values) = none

  -- a list whose values all give something, and as many as told
  abbrev pub list_of : {B : Type 0} → (ℕ → Bool) → (A → Option B) → Value A → Option (List B)
  list_of how_many f (scalar x) = none
  list_of how_many f (object members) = none
  list_of how_many f (array values) = and_then (each f values) (λ ys. provided (how_many (length values)) ys)

-- a list of five digits
abbrev pub track_of : Tree 6 → Option (List ℕ)
track_of v = list_of (λ n. eqb n 5) (number_of greatest_digit) v

-- a list of one to four such lists
unfoldable pub tracks_of : Tree 7 → Option (List (List ℕ))
tracks_of v = list_of tracks_fit track_of v

-- ---- what is read

abbrev pub ours : List ℕ → List (Member (Tree 7))
ours s = members_of (text_said deepest s)

abbrev pub station_in : List (Member (Tree 7)) → Option ℕ
station_in members = and_then (first station_name members) (number_of greatest_station)

abbrev pub aspect_in : List (Member (Tree 7)) → Option ℕ
aspect_in members = and_then (first aspect_name members) (number_of greatest_aspect)

abbrev pub tracks_in : List (Member (Tree 7)) → Option (List (List ℕ))
tracks_in members = and_then (first tracks_name members) tracks_of

-- 15 not RFC 8259 text, too long or too deep; 16 one of our members missing, of another form or
-- outside its range; in that order
unfoldable pub reading_answer : List ℕ → ℕ
reading_answer s =
    not_json if not (is_taken s) then
    bad_member if not (is_there (station_in (ours s)) && is_there (aspect_in (ours s)) && is_there (tracks_in (ours s))) then
    done

abbrev pub message_in : List (Member (Tree 7)) → Message
message_in members =
    record {
      station = or_else 0 (station_in members);
      aspect = or_else 0 (aspect_in members);
      tracks = length (or_else [] (tracks_in members));
      digits = padded (joined (or_else [] (tracks_in members)));
    }

-- "A refused reading gives zeros and no tracks."
abbrev pub no_message : Message
no_message = record { station = 0; aspect = 0; tracks = 0; digits = replicate 20 0 }

unfoldable pub received : List ℕ → Received
received s =
    record { answer = reading_answer s; message = cond (eqb (reading_answer s) done) (message_in (ours s)) no_message }
