-- Document 01, "Reports": the table of kinds.
use Rattle.std.specs.Prelude.{ℕ, Bool, true, false, not, [], ◌∷◌, eqb, ltb, get_or}

-- Island occupied, island free, clock, detector failed, detector restored, head condition and normalise:
-- kinds 1 to 7. Any other number is no kind.
pub data Kind : Type 0 where
  island_occupied island_free clock detector_failed detector_restored head_condition normalise no_kind : Kind

unfoldable pub kind_of : ℕ → Kind
kind_of number =
    get_or
    (no_kind ∷ island_occupied ∷ island_free ∷ clock ∷ detector_failed ∷ detector_restored ∷ head_condition ∷ normalise ∷ [])
    number no_kind

-- ---- what a field holds

-- whether it is the number of a track, of an island or of a head, and which numbers give 2 in it (a track, an island or
-- a head that there is not gives 3, 4 or 5)
pub record Field : Type 0 where
  pub is_track : Bool
  pub is_island : Bool
  pub is_head : Bool
  pub wrong : ℕ → Bool

abbrev pub track : Field
track = record { is_track = true; is_island = false; is_head = false; wrong = λ n. false }

abbrev pub island : Field
island = record { is_track = false; is_island = true; is_head = false; wrong = λ n. false }

abbrev pub head : Field
head = record { is_track = false; is_island = false; is_head = true; wrong = λ n. false }

-- it names nothing, and these numbers are wrong in it
abbrev pub refusing : (ℕ → Bool) → Field
refusing wrong = record { is_track = false; is_island = false; is_head = false; wrong = wrong }

-- a field shown as 0; ticks, 1 to 65535 (a value has 16 bits, so that nothing is tested above); a condition, 0 to 1023
abbrev pub shown_as0 : Field
shown_as0 = refusing (λ n. not (eqb n 0))

abbrev pub ticks : Field
ticks = refusing (λ n. eqb n 0)

abbrev pub condition : Field
condition = refusing (λ n. ltb 1023 n)

-- nothing is asked of a report of no kind
abbrev pub unasked : Field
unasked = refusing (λ n. false)

-- ---- the table: meaning, a, b, value

pub record Fields : Type 0 where
  pub a : Field
  pub b : Field
  pub value : Field

abbrev pub fields : Kind → Fields
fields island_occupied = record { a = track; b = island; value = shown_as0 }
fields island_free = record { a = track; b = island; value = shown_as0 }
fields clock = record { a = shown_as0; b = shown_as0; value = ticks }
fields detector_failed = record { a = track; b = island; value = shown_as0 }
fields detector_restored = record { a = track; b = island; value = shown_as0 }
fields head_condition = record { a = head; b = shown_as0; value = condition }
fields normalise = record { a = shown_as0; b = shown_as0; value = shown_as0 }
fields no_kind = record { a = unasked; b = unasked; value = unasked }
