-- Places in a text that has been read, where a value of ours begins.
use Rattle.std.specs.Prelude.{ℕ, ◌+◌, Bool, ◌&&◌, ◌||◌, List, Option, Some, None, IfSome, ◌≡◌, eqb, drop, length}
use Rattle.std.specs.Bool.{then_some}
use Rattle.std.proofs.Math.Option as Math
use Rattle.std.proofs.Math.Option.{none, some}
use Rattle.rules.specs.Screen.{aspect_in, aspect_name, first, is_there, members_of, message_in, number_text}
use Rattle.rules.specs.Screen.{our_number, padded, same, station_in, station_name, track_of, tracks_in, tracks_name}
use Rattle.rules.specs.declared.Message.{Message}
use Rattle.rules_json.specs.Grammar.{digit, e, joined}
use Rattle.rules_json.specs.Reader.{past, scalar_said, value_said, value_size}
use Rattle.rules_json.specs.Tree.{Member, Tree}
use Rattle.screen.specs.declared.tracks.Five.{Five}
use Rattle.screen.specs.declared.members.Found.{Found}
use Rattle.screen.specs.declared.members.OurPlaces.{OurPlaces}
use Rattle.screen.specs.declared.tracks.Shown.{Shown}

-- the value at a place
abbrev pub placed : List ℕ → Option ℕ → Math.Option (Tree 7)
placed text None = none
placed text (Some place) = some (value_said 7 (drop place text))

-- there is a value at the place, if there is one
abbrev pub IsPlace : List ℕ → Option ℕ → Type 0
IsPlace text place = IfSome place (λ p. value_size 7 (drop p text) ≡ 0 → ⊥)

-- ---- our members

-- the place of the first value of a name, after a member with these code units for a name: the one there was, or this
-- member's
abbrev pub first_of : Option ℕ → List ℕ → List ℕ → ℕ → Option ℕ
first_of (Some was) units name value = Some was
first_of None units name value = then_some (same units name) value

unfoldable pub with_member : OurPlaces → List ℕ → ℕ → OurPlaces
with_member places units value =
    record {
      station = first_of places.station units station_name value;
      aspect = first_of places.aspect units aspect_name value;
      tracks = first_of places.tracks units tracks_name value;
    }

-- the place of the first value of a name among members
pub record Place (text : List ℕ) (members : List (Member (Tree 7))) (name : List ℕ) (place : Option ℕ) : Type 0 where
  pub found : placed text place ≡ first name members
  pub there : IsPlace text place

pub record Places (text : List ℕ) (members : List (Member (Tree 7))) (places : OurPlaces) : Type 0 where
  pub station : Place text members station_name places.station
  pub aspect : Place text members aspect_name places.aspect
  pub tracks : Place text members tracks_name places.tracks

-- what is found of the outermost value, which begins at a place
abbrev pub Outermost : List ℕ → ℕ → Option Found → Type 0
Outermost text at None = None ≡ past at (value_size 8 (drop at text))
Outermost text at (Some found) =
    (Some found.past ≡ past at (value_size 8 (drop at text)))
    × Places text (members_of (value_said 8 (drop at text))) found.ours

-- ---- their forms

-- the number of ours at the head of a text
unfoldable pub number_here : List ℕ → Math.Option ℕ
number_here s = our_number 65535 (number_text (scalar_said s))

-- whether a number goes on with an octet behind its first digit
abbrev pub goes_on_with : ℕ → Bool
goes_on_with b = digit b || eqb b 0x2E || e b

-- the track at a place, and the place past it: none where it is of another form
abbrev pub five_of : ℕ → Math.Option (List ℕ) → Option Five
five_of past none = None
five_of past (some digits) = Some record { past = past; digits = digits }

unfoldable pub five_at : List ℕ → ℕ → Option Five
five_at text at = five_of (at + value_size 6 (drop at text)) (track_of (value_said 6 (drop at text)))

-- how many tracks, and their digits: none where they are of another form
abbrev pub shown_of : Math.Option (List (List ℕ)) → Option Shown
shown_of none = None
shown_of (some tracks) = Some record { count = length tracks; digits = padded (joined tracks) }

-- ---- what is read

-- the message of our members, where each of them gives something
unfoldable pub message_given : List (Member (Tree 7)) → Option Message
message_given members =
    then_some (is_there (station_in members) && is_there (aspect_in members) && is_there (tracks_in members))
    (message_in members)
