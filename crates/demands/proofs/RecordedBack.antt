-- Demand 2: "A register that we start and fill reads back to the same rows, and stepping back to any row gives the
-- station as it was after that row." Here of the register that is recorded of a planner's text.
-- Assumes nothing.
use Prim.Native.Nat.{ℕ, ◌-◌, ◌≤◌, ◌<◌}
use native.Mathlib.Nat.{zero-add}
use native.Mathlib.Omega.{arith}
use mathlib.Core.Path.{◌≡◌, sym, ap, subst, ◌∙◌}
use mathlib.Core.List.{List, ◌++◌}
use lib.ListN.{get_or-append, drop, get_or, length, length-append, length-drop, take}
use lib.Seq.{drop_at, take_at}
use Rattle.chains.proofs.Chains.{where_done, where_refused}
use Rattle.demands.proofs.ReadBack.{read_back}
use Rattle.demands.proofs.TextEntered.{beyond_stays, filled_from_lem, line_says}
use Rattle.demands.proofs.TextSettings.{settings_given_lem, settings_said_lem}
use Rattle.demands.specs.ReadBack.{Filling, filled}
use Rattle.demands.specs.RecordedBack.{LinesRecorded, MisreadLeaves, RecordedBack, Says, TextsRecorded}
use Rattle.demands.specs.RecordedBack.{count_of, filling_of, line_at, line_numbered, report_at}
use Rattle.demands.specs.Texts.{lines_of}
use Rattle.plan_texts.proofs.TextUnderstood.{as_many, few_reports, no_line_lem, within_limits_lem}
use Rattle.rules.specs.Layout.{entry_start}
use Rattle.rules_plan.specs.Faults.{checked}
use Rattle.rules_plan.specs.Recording.{Filling as Entered}
use Rattle.rules_plan.specs.Recording.{lines_said, recorded_bytes, recorded_lines, recorded_of, reports_said}
use Rattle.rules_plan.specs.Recording.{started_with}

-- ---- nothing wrong

module _ (text : List ℕ) (fine : (checked text).fault ≡ 0) where
  all_counted : count_of text ≡ length (reports_said text)
  unfolding recorded_of
  all_counted = where_done (checked text).fault _ _ fine

  not_too_many : count_of text ≤ 8190
  not_too_many = omega (arith, all_counted, few_reports text fine)

  no_fault : ((recorded_of text).fault ≡ 0) × ((recorded_of text).line ≡ 0)
  unfolding recorded_of
  no_fault = (fine, no_line_lem text fine)

  module _ (lent : List ℕ) where
    abbrev filling : Filling
    filling = filling_of text lent

    all_entered : recorded_bytes text lent ≡ (filled filling (count_of text)).bytes
    unfolding recorded_bytes started_with filled
    all_entered =
        where_done (checked text).fault _ _ fine
        ∙ ap (λ (f : Entered). f.bytes)
        (filled_from_lem filling 0 (reports_said text) (λ k. ap (report_at text) (zero-add k)))
        ∙ ap (λ (n : ℕ). (filled filling n).bytes) (zero-add _ ∙ sym all_counted)

    recorded_back : 65536 ≤ length lent → RecordedBack text lent
    recorded_back h =
        let n = count_of text in
        let size : entry_start n ≤ length lent = omega (arith, not_too_many) in
        let taken = within_limits_lem text fine in
        record {
          fault = no_fault.0;
          line = no_fault.1;
          count = all_counted;
          few = not_too_many;
          settings = taken;
          settings_given = settings_given_lem text fine;
          settings_said = settings_said_lem text fine;
          bytes = ap (take (entry_start n)) all_entered;
          beyond = ap (drop (entry_start n)) all_entered ∙ beyond_stays filling n;
          back = read_back filling n (record { settings = taken; few = not_too_many; lent = size });
        }

  module _ (rows : List ℕ) where
    as_long : length (lines_said text) ≡ count_of text
    as_long = as_many 1 (lines_of text) ∙ sym all_counted

    all_numbered : recorded_lines text rows ≡ lines_said text ++ drop (count_of text) rows
    unfolding recorded_lines
    all_numbered =
        where_done (checked text).fault _ _ fine
        ∙ ap (λ (n : ℕ). lines_said text ++ drop n rows) (zero-add _ ∙ as_long)

    -- a row's line
    line_of : (k : ℕ) → k < count_of text → get_or (recorded_lines text rows) k 0 ≡ get_or (lines_said text) k 0
    line_of k h =
        ap (λ (l : List ℕ). get_or l k 0) all_numbered
        ∙ get_or-append (lines_said text) (drop (count_of text) rows) 0 k (omega (arith, as_long))

    says : (k : ℕ) → k < count_of text
        → Says (line_numbered (lines_of text) (get_or (recorded_lines text rows) k 0)) (report_at text k)
    says k h =
        let found = line_says 1 (lines_of text) k (omega (arith, all_counted)) in
        let line = get_or (recorded_lines text rows) k 0 in
        let place : found.behind ≡ line - 1 = omega (arith, line_of k h, found.numbered) in
        subst (λ (n : ℕ). Says (line_at (lines_of text) n) (report_at text k)) place found.says

    size : 8190 ≤ length rows → length (recorded_lines text rows) ≡ length rows
    size room =
        let rest = length-drop (count_of text) rows in
        ap length all_numbered
        ∙ length-append (lines_said text) _
        ∙ omega (arith, as_long, rest, not_too_many)

    lines_recorded : 8190 ≤ length rows → LinesRecorded text rows
    lines_recorded room =
        let n = count_of text in
        record {
          numbers = ap (take n) all_numbered ∙ take_at (lines_said text) _ n as_long;
          beyond = ap (drop n) all_numbered ∙ drop_at (lines_said text) _ n as_long;
          size = size room;
          says = says;
        }

-- ---- something wrong

misread_leaves : (text : List ℕ) → ((checked text).fault ≡ 0 → ⊥) → MisreadLeaves text
unfolding recorded_of recorded_bytes recorded_lines
misread_leaves text wrong =
    record {
      count = where_refused (checked text).fault _ _ wrong;
      bytes = λ lent. where_refused (checked text).fault _ _ wrong;
      rows = λ rows. where_refused (checked text).fault _ _ wrong;
    }

-- ---- any text

pub texts_recorded : TextsRecorded
texts_recorded =
    record {
      understood = λ text lent fine. recorded_back text fine lent;
      lines = λ text rows fine. lines_recorded text fine rows;
      misread = misread_leaves;
    }
