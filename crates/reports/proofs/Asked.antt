-- What is asked of a report by itself: its kind's number, and its fields.
-- Assumes nothing.
use Prim.Native.Nat.{ℕ}
use native.Mathlib.Omega.{arith}
use mathlib.Core.Path.{◌≡◌, refl, ap, ◌∙◌}
use mathlib.Core.Bool.{Bool, true, false, cond, not, ◌||◌}
use lib.Dec.{eqb}
use Rattle.std.proofs.lemmas.Bool.Decides.{nat_tests}
use Rattle.chains.proofs.Chains.{groups}
use Rattle.reports.proofs.ByNumber.{by_number, past}
use Rattle.reports.specs.Known.{meaning}
use Rattle.rules.specs.Answers.{form_answer, wrong_fields}
use Rattle.rules.specs.Kinds.{Kind, clock, detector_failed, detector_restored, head_condition}
use Rattle.rules.specs.Kinds.{island_free, island_occupied, kind_of, no_kind, normalise}
use Rattle.rules.specs.Words.{within, ◌if◌then◌}
use Rattle.rules.specs.declared.Kind as declared
use Rattle.rules.specs.declared.Kind.{Kind as Case}
use Rattle.rules.specs.declared.Report.{Report}

-- a number from 1 to 7 is a kind's
abbrev pub is_kind : Kind → Bool
is_kind island_occupied = true
is_kind island_free = true
is_kind clock = true
is_kind detector_failed = true
is_kind detector_restored = true
is_kind head_condition = true
is_kind normalise = true
is_kind no_kind = false

pub is_no_kind : (k : Kind) → k ≡ no_kind → is_kind k ≡ false
is_no_kind k e = ap is_kind e

pub means_one : (k : Case) → is_kind (meaning k) ≡ true
means_one declared.Kind.IslandOccupied = refl
means_one declared.Kind.IslandFree = refl
means_one declared.Kind.Clock = refl
means_one declared.Kind.DetectorFailed = refl
means_one declared.Kind.DetectorRestored = refl
means_one declared.Kind.HeadCondition = refl
means_one declared.Kind.Normalise = refl

above : (n : ℕ) → within 1 7 (past n) ≡ false
above n = grind (arith, nat_tests)

within_is : (n : ℕ) → within 1 7 n ≡ is_kind (kind_of n)
unfolding kind_of
within_is = by_number (λ n. within 1 7 n ≡ is_kind (kind_of n)) refl refl refl refl refl refl refl refl above

pub form_is : (r : Report)
    → form_answer r
    ≡ cond (is_kind (kind_of r.kind)) (cond (not (eqb r.spare 0) || wrong_fields (kind_of r.kind) r) 2 0) 1
unfolding form_answer ◌if◌then◌
form_is r = ap (λ (b : Bool). cond (not b) 1 (cond (not (eqb r.spare 0) || wrong_fields (kind_of r.kind) r) 2 0))
    (within_is r.kind) ∙ go (is_kind (kind_of r.kind)) _
  where
    go : (b : Bool) (n : ℕ) → cond {A = ℕ} (not b) 1 n ≡ cond b n 1
    go true n = refl
    go false n = refl

pub ruleset form = (form_is, is_no_kind, means_one)

pub ruleset in_order = (groups, form)
