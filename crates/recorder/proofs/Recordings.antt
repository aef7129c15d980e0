-- What is recorded of a text, from what was found wrong with it.
-- Assumes nothing.
use Prim.Native.Nat.{ℕ}
use native.Mathlib.Omega.{arith}
use mathlib.Core.Bool.{true, true≢false}
use mathlib.Core.List.{List}
use mathlib.Core.Path.{◌≡◌, ap, refl, sym, ◌∙◌}
use lib.Dec.{eqb}
use lib.ListN.{length}
use Rattle.chains.proofs.Chains.{where_done, where_refused}
use Rattle.plan_lines.proofs.WordFaults.{some_fault}
use Rattle.plan_texts.proofs.TextUnderstood.{all_counted, as_many, few_reports, within_limits_lem}
use Rattle.recorder.proofs.InPlain.{lines_from_lem, reports_filled}
use Rattle.recorder.specs.ByLine.{filled_from, lines_from}
use Rattle.recorder.specs.Saying.{checked_in}
use Rattle.rules.specs.Station.{within_limits}
use Rattle.rules_plan.specs.Answered.{recorded_in}
use Rattle.rules_plan.specs.Faults.{checked}
use Rattle.rules_plan.specs.Recording.{Filling, recorded_bytes, recorded_lines, recorded_of, started_with}
use Rattle.rules_plan.specs.Words.{lines, unmarked}
use Rattle.rules_plan.specs.declared.Checked.{Checked}
use Rattle.rules_plan.specs.declared.Misread.{Misread}
use Rattle.rules_plan.specs.declared.Recorded.{Recorded}
use Rattle.rules_plan.specs.declared.Said.{Said}
use Rattle.std.proofs.Common.{Err, Ok, Result}

-- what is returned
abbrev told : Checked → ℕ → Recorded
told found count = record { fault = found.fault; line = found.line; count = count }

module _ (text : List ℕ) (r : Result Said Misread) (e : checked_in (checked text).said r ≡ checked text) where
  -- ---- where something is wrong

  module _ (misread : Misread) (is : r ≡ Err misread) where
    found : checked_in (checked text).said (Err misread) ≡ checked text
    found = ap (checked_in (checked text).said) (sym is) ∙ e

    wrong : (checked text).fault ≡ 0 → ⊥
    wrong z = by_case misread (ap (λ (c : Checked). c.fault) found ∙ z)
      where
        by_case : (m : Misread) → (checked_in (checked text).said (Err m)).fault ≡ 0 → ⊥
        by_case (Misread.AtLine line fault) h = true≢false (sym (ap (λ n. eqb n 0) h) ∙ some_fault fault)
        by_case Misread.TextEnds h = omega arith

    pub nothing_recorded : (told' : Result ℕ Misread) → told' ≡ Err misread → recorded_in told' ≡ recorded_of text
    unfolding recorded_of
    nothing_recorded told' kept =
        ap recorded_in kept
        ∙ by_case misread
        ∙ ap (λ (c : Checked). told c 0) found
        ∙ ap (told (checked text)) (sym (where_refused (checked text).fault _ _ wrong))
      where
        by_case : (m : Misread) → recorded_in (Err m) ≡ told (checked_in (checked text).said (Err m)) 0
        by_case (Misread.AtLine line fault) = refl
        by_case Misread.TextEnds = refl

    pub bytes_kept : (bytes : List ℕ) → bytes ≡ recorded_bytes text bytes
    unfolding recorded_bytes
    bytes_kept bytes = sym (where_refused (checked text).fault _ _ wrong)

    pub lines_kept : (rows : List ℕ) → rows ≡ recorded_lines text rows
    unfolding recorded_lines
    lines_kept rows = sym (where_refused (checked text).fault _ _ wrong)

  -- ---- where it is understood

  module _ (said : Said) (is : r ≡ Ok said) where
    found_right : ◌≡◌ {A = Checked} (record { fault = 0; line = 0; said = said }) (checked text)
    found_right = ap (checked_in (checked text).said) (sym is) ∙ e

    right : (checked text).fault ≡ 0
    right = sym (ap (λ (c : Checked). c.fault) found_right)

    abbrev text_lines : List (List ℕ)
    text_lines = lines (unmarked text)

    pub inside : within_limits said.settings ≡ true
    inside = ap (λ (c : Checked). within_limits c.said.settings) found_right ∙ within_limits_lem text right

    pub all_recorded : recorded_in (Ok said.reports) ≡ recorded_of text
    unfolding recorded_of
    all_recorded =
        let count = ap (λ (c : Checked). c.said.reports) found_right ∙ all_counted text right in
        ap (λ (c : Checked). told c said.reports) found_right
        ∙ ap (told (checked text)) (count ∙ sym (where_done (checked text).fault _ _ right))

    pub bytes_recorded : (bytes bytes' : List ℕ)
        → bytes' ≡ (filled_from (started_with said.settings bytes) text_lines).bytes
        → bytes' ≡ recorded_bytes text bytes
    unfolding recorded_bytes
    bytes_recorded bytes bytes' w =
        w
        ∙ ap (λ (c : Checked). (filled_from (started_with c.said.settings bytes) text_lines).bytes) found_right
        ∙ ap (λ (f : Filling). f.bytes) (reports_filled _ text_lines)
        ∙ sym (where_done (checked text).fault _ _ right)

    pub lines_recorded : (rows rows' : List ℕ) → rows' ≡ lines_from 1 0 rows text_lines → length rows ≡ 8190
        → rows' ≡ recorded_lines text rows
    unfolding recorded_lines
    lines_recorded rows rows' w room =
        w
        ∙ lines_from_lem 1 0 rows text_lines (omega (arith, as_many 1 text_lines, few_reports text right))
        ∙ sym (where_done (checked text).fault _ _ right)
