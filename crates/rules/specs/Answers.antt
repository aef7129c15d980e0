-- Document 01, "The numbers it answers": 0 to 8, to a report, in their order.
use Rattle.std.specs.Prelude.{ℕ, Bool, false, cond, not, ◌&&◌, ◌||◌, eqb, leb, ltb}
use Rattle.rules.specs.Numbers.{already_so, bad_field, done, no_such_head, no_such_island}
use Rattle.rules.specs.Numbers.{no_such_kind, no_such_track, not_clear}
use Rattle.rules.specs.Kinds.{Kind, clock, detector_failed, detector_restored, fields, head_condition}
use Rattle.rules.specs.Kinds.{island_free, island_occupied, kind_of, no_kind, normalise}
use Rattle.rules.specs.Reports.{acted, named_island}
use Rattle.rules.specs.Station.{obstructed, settings_answer}
use Rattle.rules.specs.Words.{within, ◌if◌then◌, ◌▷◌}
use Rattle.rules.specs.declared.Island.{Island}
use Rattle.rules.specs.declared.Report.{Report}
use Rattle.rules.specs.declared.Station.{Station}
use Rattle.rules.specs.declared.Taken.{Taken}

-- ---- what is asked of a report, by its kind

-- a field shown as 0 is not, clock value 0, condition above 1023
abbrev pub wrong_fields : Kind → Report → Bool
wrong_fields k r = (fields k).a.wrong r.a || (fields k).b.wrong r.b || (fields k).value.wrong r.value

-- a is a track and b an island; or a is a head
abbrev pub names_island : Kind → Bool
names_island k = (fields k).a.is_track && (fields k).b.is_island

abbrev pub names_head : Kind → Bool
names_head k = (fields k).a.is_head

-- occupied, free, failed or not failed already
abbrev pub already : Kind → Island → Bool
already island_occupied i = i.occupied
already island_free i = not i.occupied
already clock i = false
already detector_failed i = i.failed
already detector_restored i = not i.failed
already head_condition i = false
already normalise i = false
already no_kind i = false

-- normalise with an island occupied or a detector failed
abbrev pub blocked : Kind → Station → Bool
blocked island_occupied s = false
blocked island_free s = false
blocked clock s = false
blocked detector_failed s = false
blocked detector_restored s = false
blocked head_condition s = false
blocked normalise s = obstructed s
blocked no_kind s = false

-- ---- the answer to a report, and the station after it

-- 1, 2
unfoldable pub form_answer : Report → ℕ
form_answer r =
    no_such_kind if not (within 1 7 r.kind) then
    bad_field if not (eqb r.spare 0) || wrong_fields (kind_of r.kind) r then
    done

-- 3 or 5, 4
unfoldable pub place_answer : Station → Report → ℕ
place_answer s r =
    no_such_track if names_island (kind_of r.kind) && leb s.settings.tracks r.a then
    no_such_head if names_head (kind_of r.kind) && ltb 1 r.a then
    no_such_island if names_island (kind_of r.kind) && ltb 4 r.b then
    done

-- 6 or 7
unfoldable pub state_answer : Station → Report → ℕ
state_answer s r =
    already_so if already (kind_of r.kind) (named_island s r) then
    not_clear if blocked (kind_of r.kind) s then
    done

-- Order: a report is tested for 8 (the station's settings), 1, 2, then 3 or 5, 4, and 6 or 7.
unfoldable pub answer_of : Station → Report → ℕ
answer_of s r = settings_answer s.settings ▷ form_answer r ▷ place_answer s r ▷ state_answer s r

-- The station after a report that is answered with this number. A refused report returns the old station.
abbrev pub after_answer : Station → Report → ℕ → Station
after_answer s r answer = cond (eqb answer done) (acted (kind_of r.kind) s r) s

unfoldable pub station_after : Station → Report → Station
station_after s r = after_answer s r (answer_of s r)

unfoldable pub taken : Station → Report → Taken
taken s r = record { answer = answer_of s r; station = station_after s r }
