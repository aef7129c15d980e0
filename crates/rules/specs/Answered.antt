-- Where an answer is an enum: this paper's number and values for each of its cases. What is refused has the values
-- that document 01 gives it, in "The numbers it answers".
use Rattle.std.specs.Prelude.{◌≡◌, ℕ, ⊤, ◌<◌, Bool, true, ◌||◌, eqb, ltb, Option, None, Some, Result, Ok, Err, IfErr}
use Rattle.std.proofs.Math.Option as Math
use Rattle.std.proofs.Math.Option.{none, some}
use Rattle.rules.specs.Kinds.{clock, detector_failed, detector_restored, head_condition, island_free}
use Rattle.rules.specs.Kinds.{island_occupied, kind_of, no_kind, normalise}
use Rattle.rules.specs.Kinds as Kinds
use Rattle.rules.specs.Numbers.{already_so, bad_field, bad_member, cut_entry, done, no_room, no_such_head}
use Rattle.rules.specs.Numbers.{no_such_island, no_such_kind, no_such_row, no_such_track, not_aregister}
use Rattle.rules.specs.Numbers.{not_clear, not_json, not_replayed, other_version, outside_limits}
use Rattle.rules.specs.Screen.{no_message}
use Rattle.rules.specs.Station.{fresh_station, least_settings}
use Rattle.rules.specs.declared.Aspect.{Aspect}
use Rattle.rules.specs.declared.Decimetres.{Decimetres}
use Rattle.rules.specs.declared.Kind.{Kind}
use Rattle.rules.specs.declared.Made.{Made}
use Rattle.rules.specs.declared.Message.{Message}
use Rattle.rules.specs.declared.NoSuchAspect.{NoSuchAspect}
use Rattle.rules.specs.declared.NoSuchRefusal.{NoSuchRefusal}
use Rattle.rules.specs.declared.Reading.{Reading}
use Rattle.rules.specs.declared.Received.{Received}
use Rattle.rules.specs.declared.Refusal.{Refusal}
use Rattle.rules.specs.declared.Replayed.{Replayed}
use Rattle.rules.specs.declared.Sited.{Sited}
use Rattle.rules.specs.declared.Station.{Station}
use Rattle.rules.specs.declared.Taken.{Taken}
use Rattle.rules.specs.declared.Unread.{Unread}
use Rattle.rules.specs.declared.Written.{Written}

-- ---- what there may be

module _ {A : Type 0} where
  abbrev pub given : Option A → Math.Option A
  given None = none
  given (Some x) = some x

-- ---- the aspects, the kinds of report and the numbers that are answered

abbrev pub aspect_number : Aspect → ℕ
aspect_number Aspect.Permitted = 0
aspect_number Aspect.Clearing = 1
aspect_number Aspect.Forbidden = 2
aspect_number Aspect.GreatestRisk = 3
aspect_number Aspect.Surroundings = 4
aspect_number Aspect.OutOfService = 5

-- the aspect with a number, or one that no aspect has
abbrev pub AspectNumbered : ℕ → Result Aspect NoSuchAspect → Type 0
AspectNumbered number (Ok aspect) = aspect_number aspect ≡ number
AspectNumbered number (Err e) = (e.0 ≡ number) × (5 < number)

abbrev pub kind_named : Result Kind Refusal → Kinds.Kind
kind_named (Err _) = no_kind
kind_named (Ok Kind.IslandOccupied) = island_occupied
kind_named (Ok Kind.IslandFree) = island_free
kind_named (Ok Kind.Clock) = clock
kind_named (Ok Kind.DetectorFailed) = detector_failed
kind_named (Ok Kind.DetectorRestored) = detector_restored
kind_named (Ok Kind.HeadCondition) = head_condition
kind_named (Ok Kind.Normalise) = normalise

abbrev pub kind_number : Kind → ℕ
kind_number Kind.IslandOccupied = 1
kind_number Kind.IslandFree = 2
kind_number Kind.Clock = 3
kind_number Kind.DetectorFailed = 4
kind_number Kind.DetectorRestored = 5
kind_number Kind.HeadCondition = 6
kind_number Kind.Normalise = 7

-- the kind with a number, or 1
abbrev pub KindNumbered : ℕ → Result Kind Refusal → Type 0
KindNumbered number r = (kind_named r ≡ kind_of number) × IfErr r (λ refusal. refusal ≡ Refusal.NoSuchKind)

abbrev pub refusal_number : Refusal → ℕ
refusal_number Refusal.NoSuchKind = no_such_kind
refusal_number Refusal.BadField = bad_field
refusal_number Refusal.NoSuchTrack = no_such_track
refusal_number Refusal.NoSuchIsland = no_such_island
refusal_number Refusal.NoSuchHead = no_such_head
refusal_number Refusal.AlreadySo = already_so
refusal_number Refusal.NotClear = not_clear
refusal_number Refusal.OutsideLimits = outside_limits
refusal_number Refusal.NotARegister = not_aregister
refusal_number Refusal.OtherVersion = other_version
refusal_number Refusal.CutEntry = cut_entry
refusal_number Refusal.NoRoom = no_room
refusal_number Refusal.NoSuchRow = no_such_row
refusal_number Refusal.NotJson = not_json
refusal_number Refusal.BadMember = bad_member

-- no refusal's number: 0 is done, 13 names an entry, and above 16 there is none
abbrev unrefused : ℕ → Bool
unrefused number = eqb number 0 || eqb number 13 || ltb 16 number

-- the refusal with a number, or one that no refusal has
abbrev pub RefusalNumbered : ℕ → Result Refusal NoSuchRefusal → Type 0
RefusalNumbered number (Ok refusal) = refusal_number refusal ≡ number
RefusalNumbered number (Err e) = (e.0 ≡ number) × (unrefused number ≡ true)

abbrev pub answered : Result ⊤ Refusal → ℕ
answered (Ok _) = done
answered (Err refusal) = refusal_number refusal

-- ---- an answer and what comes with it

-- A refused making of a station returns a fresh station of the least settings.
abbrev pub made_in : Result Station Refusal → Made
made_in (Ok station) = record { answer = done; station = station }
made_in (Err refusal) = record { answer = refusal_number refusal; station = fresh_station least_settings }

-- A refused report returns the old station.
abbrev pub taken_in : Station → Result Station Refusal → Taken
taken_in old (Ok station) = record { answer = done; station = station }
taken_in old (Err refusal) = record { answer = refusal_number refusal; station = old }

-- Refused siting returns distance 0.
abbrev pub sited_in : Result Decimetres Refusal → Sited
sited_in (Ok distance) = record { answer = done; distance = distance }
sited_in (Err refusal) = record { answer = refusal_number refusal; distance = record { 0 = 0 } }

-- A refused read or step returns a fresh station of the least settings, and count 0. The entry named is 0 unless 13 is
-- answered.
abbrev pub reading_in : Result Replayed Unread → Reading
reading_in (Ok r) = record { answer = done; entry = 0; count = r.count; station = r.station }
reading_in (Err (Unread.Refused refusal)) =
    record { answer = refusal_number refusal; entry = 0; count = 0; station = fresh_station least_settings }
reading_in (Err (Unread.NotReplayed entry)) =
    record { answer = not_replayed; entry = entry; count = 0; station = fresh_station least_settings }

-- Refused, a message is zeros and no tracks.
abbrev pub received_in : Result Message Refusal → Received
received_in (Ok message) = record { answer = done; message = message }
received_in (Err refusal) = record { answer = refusal_number refusal; message = no_message }

-- Refused, nothing is written and the length is 0.
abbrev pub written_in : Result ℕ Refusal → Written
written_in (Ok length) = record { answer = done; length = length }
written_in (Err refusal) = record { answer = refusal_number refusal; length = 0 }
