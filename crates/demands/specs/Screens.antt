-- Document 02, request 1, "Aspect to the passenger screens": what is claimed of the texts that are read
-- and of the message that is written, of any bytes and any message. The numbers that they are answered
-- with, each in its case, are in Stated.
use Rattle.std.specs.Prelude.{ℕ, ◌≤◌, ◌⊎◌, ◌↔◌, ◌≡◌, Bool, true, false, cond, ◌||◌, List, [], ◌∷◌, ◌++◌, map, drop, length, take}
use Rattle.std.proofs.Math.Option.{some}
use Rattle.rules.specs.Printer.{decimal}
use Rattle.rules.specs.Screen.{after_writing, aspect_name, first, fives, is_taken, members_of, message_fits, message_of}
use Rattle.rules.specs.Screen.{no_message, padded, received, same, station_name, tracks_name, written, written_of}
use Rattle.rules.specs.Words.{any}
use Rattle.rules.specs.declared.Message.{Message}
use Rattle.rules.specs.declared.Station.{Station}
use Rattle.rules_json.specs.Grammar.{Text, blank, joined}
use Rattle.rules_json.specs.Reader.{text_said}
use Rattle.rules_json.specs.Tree.{Member, Tree, Value, array, number, object, scalar}

-- ---- "any RFC 8259 text in UTF-8 of at most 4,096 bytes in which lists and objects stand at
-- most 8 deep, each inside the other"

-- such a text, and what it says, by the rules of the RFC
abbrev pub Says : Tree 8 → List ℕ → Type 0
Says x s = Text 8 x s × (length s ≤ 4096)

abbrev pub Readable : List ℕ → Type 0
Readable s = (x : Tree 8) × Says x s

-- ---- "members `station` (0 to 65535), `aspect` (0 to 5) and `tracks`, a list of one to four
-- lists of five digits (0 occupied, 1 free)"

-- "Our numbers bear no sign, fraction or exponent": they are spelt as we write them
abbrev pub number_value : {A : Type 0} → ℕ → Value A
number_value n = scalar (number (decimal n))

abbrev pub track_value : List ℕ → Tree 6
track_value five = array (map number_value five)

abbrev pub tracks_value : List (List ℕ) → Tree 7
tracks_value tracks = array (map track_value tracks)

abbrev pub All : {A : Type 0} → (A → Type 0) → List A → Type 0
All P [] = Unit
All P (x ∷ xs) = P x × All P xs

abbrev pub Five : List ℕ → Type 0
Five five = (length five ≡ 5) × All (λ digit. digit ≤ 1) five

-- ---- "the first of each of ours in the outermost object, names compared after escapes"

-- (another outermost value has no members)
abbrev pub Members : Type 0
Members = List (Member (Tree 7))

abbrev pub StationIs : ℕ → Members → Type 0
StationIs n members = (n ≤ 65535) × (first station_name members ≡ some (number_value n))

abbrev pub AspectIs : ℕ → Members → Type 0
AspectIs n members = (n ≤ 5) × (first aspect_name members ≡ some (number_value n))

abbrev pub TracksAre : List (List ℕ) → Members → Type 0
TracksAre tracks members =
    (1 ≤ length tracks) × (length tracks ≤ 4) × All Five tracks × (first tracks_name members ≡ some (tracks_value tracks))

-- "one of our members missing, of another form or outside its range"
abbrev pub Lacking : Members → Type 0
Lacking members =
    ((n : ℕ) → StationIs n members → ⊥)
    ⊎ ((n : ℕ) → AspectIs n members → ⊥)
    ⊎ ((tracks : List (List ℕ)) → TracksAre tracks members → ⊥)

-- the message that they are; 0 for each track that is not there
abbrev pub MessageIs : Message → Members → Type 0
MessageIs m members =
    StationIs m.station members
    × AspectIs m.aspect members
    × ((tracks : List (List ℕ)) × TracksAre tracks members × (m.tracks ≡ length tracks)
    × (m.digits ≡ padded (joined tracks)))

-- ---- "skips members it does not know", "the first of each of ours", "names compared after escapes"

abbrev pub is_ours : List ℕ → Bool
is_ours name = same name station_name || same name aspect_name || same name tracks_name

-- those of our names, in their order
abbrev pub only_ours : Members → Members
only_ours [] = []
only_ours (m ∷ ms) = cond (is_ours m.name) (m ∷ only_ours ms) (only_ours ms)

-- a member of that name is among them
abbrev pub named : List ℕ → Members → Bool
named name members = any (λ m. same m.name name) members

-- ---- a message, as we write it

-- "one object with members .. in that order"
abbrev pub object_of : Message → Tree 8
object_of m =
    object (
    record { name = station_name; value = number_value m.station }
    ∷ record { name = aspect_name; value = number_value m.aspect }
    ∷ record { name = tracks_name; value = tracks_value (fives m.tracks m.digits) }
    ∷ [])

-- ours are within their ranges, and there are twenty digits, as a message's array has
abbrev pub Fits : Message → Type 0
Fits m = (message_fits m ≡ true) × (length m.digits ≡ 20)

-- ---- what is read

pub record Reads : Type 0 where
  -- "our reader takes" such texts, and no others; what it reads is what they say, of which there is one
  pub takes : (s : List ℕ) → is_taken s ≡ true ↔ Readable s
  pub reads : (s : List ℕ) (x : Tree 8) → Says x s → text_said 8 s ≡ x
  pub says_one : (s : List ℕ) (x y : Tree 8) → Says x s → Says y s → x ≡ y
  -- "and gives back the first of each of ours": a message exactly where they are that message
  pub gives : (s : List ℕ) (m : Message)
      → received s ≡ record { answer = 0; message = m } ↔ ((x : Tree 8) × Says x s × MessageIs m (members_of x))
  -- (which fits, so that it can be written)
  pub fits : (s : List ℕ) (m : Message) → received s ≡ record { answer = 0; message = m } → Fits m
  -- "A refused reading gives zeros and no tracks."
  pub refused : (s : List ℕ) → ((received s).answer ≡ 0 → ⊥) → (received s).message ≡ no_message
  -- "with members and blanks added": texts that say the same, with whatever blanks and escapes;
  -- and that say the same of ours
  pub blanks : (s t : List ℕ) (x : Tree 8) → Says x s → Says x t → received s ≡ received t
  pub skips : (s t : List ℕ) (x y : Tree 8) → Says x s → Says y t → only_ours (members_of x) ≡ only_ours (members_of y)
      → received s ≡ received t
  -- "the first of each": one more of a name that stands before it changes nothing
  pub first_of_each : (s t : List ℕ) (before after : Members) (m : Member (Tree 7)) → Says (object (before ++ after)) s
      → Says (object (before ++ (m ∷ after))) t
      → named m.name before ≡ true
      → received s ≡ received t

-- ---- what is written

pub record Writes : Type 0 where
  pub says : (m : Message) → Fits m → Says (object_of m) (written m)
  -- "no spaces"
  pub no_blanks : (m : Message) → any blank (written m) ≡ false
  -- "What we write we read back unchanged": the text, and the buffer's bytes up to the length returned
  pub back : (m : Message) → Fits m → received (written m) ≡ record { answer = 0; message = m }
  pub back_from : (m : Message) (b : List ℕ) → length m.digits ≡ 20 → (written_of m (length b)).answer ≡ 0
      → received (take (written_of m (length b)).length (after_writing m b)) ≡ record { answer = 0; message = m }
  -- "Writing touches no byte past the text"
  pub past : (m : Message) (b : List ℕ)
      → (drop (written_of m (length b)).length (after_writing m b) ≡ drop (written_of m (length b)).length b)
      × (length (after_writing m b) ≡ length b)
  -- "with length 0 and nothing written"
  pub refused : (m : Message) (b : List ℕ) → ((written_of m (length b)).answer ≡ 0 → ⊥)
      → ((written_of m (length b)).length ≡ 0) × (after_writing m b ≡ b)
  -- a station's message always fits, whatever the station
  pub of_station : (n : ℕ) (s : Station) → n ≤ 65535 → Fits (message_of n s)
