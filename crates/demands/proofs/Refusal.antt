-- Demand 1: "A refusal leaves the station and every buffer as they were, except that a report refused by 1 to 7
-- still gets its row."
-- Assumes nothing.
use Prim.Native.Nat.{ℕ, ◌≤◌}
use native.Mathlib.Decide.{ℕ_discrete}
use native.Mathlib.Omega.{arith}
use mathlib.Core.Path.{◌≡◌, refl, sym, ap, ◌∙◌}
use mathlib.Core.Bool.{Bool, true, false, true≢false, cond}
use mathlib.Core.List.{List, [], ◌∷◌, ◌++◌}
use lib.ListN.{drop, length}
use Rattle.browser.specs.Browsing.{bytes_of, moved_to}
use Rattle.browser.specs.declared.Browser.{Browser}
use Rattle.chains.proofs.Chains.{group_so, test_so}
use Rattle.demands.proofs.BrowseBack.{refused_stays}
use Rattle.demands.proofs.Exactly.{in_its_case}
use Rattle.demands.proofs.RecordedBack.{texts_recorded}
use Rattle.demands.proofs.RegisterLaws.{append_applies, append_elsewhere, append_enters_refused}
use Rattle.demands.proofs.RegisterLaws.{append_refused, start_refused}
use Rattle.demands.proofs.Screens.{writes}
use Rattle.demands.proofs.Stated.{append_within, stated_report}
use Rattle.demands.specs.Refusal.{AppendLeaves, RefusalLeaves}
use Rattle.demands.specs.Stated.{of_taking}
use Rattle.reports.proofs.Taking.{after_refused, answer_below}
use Rattle.rules.specs.Answers.{answer_of, taken}
use Rattle.rules.specs.Aspect.{aspect_of}
use Rattle.rules.specs.Layout.{entry_of}
use Rattle.rules.specs.Printer.{fits, length_written, written}
use Rattle.rules.specs.Register.{append_answer, appended, appended_bytes, head_answer, reading_of, step_of}
use Rattle.rules.specs.declared.Report.{Report}
use Rattle.rules.specs.declared.Settings.{Settings}
use Rattle.rules.specs.declared.Station.{Station}
use Rattle.rules.specs.declared.Taken.{Taken}
use Rattle.rules_plan.specs.Recording.{recorded_of}

-- what appending tests before the report has 8 and above alone
eight_up : (b : List ℕ) (k : ℕ) (c : Settings) → (append_answer b k c ≡ 0 → ⊥) → 8 ≤ append_answer b k c
unfolding append_answer head_answer
eight_up b k c =
    group_so P _ _ (test_so P 9 _ _ (λ _. omega arith) (test_so P 10 0 _ (λ _. omega arith) (λ h. absurd (h refl))))
    (test_so P 8 _ _ (λ _. omega arith) (test_so P 12 0 _ (λ _. omega arith) (λ h. absurd (h refl))))
  where
    P : ℕ → Type 0
    P n = (n ≡ 0 → ⊥) → 8 ≤ n

module _ (b : List ℕ) (k : ℕ) (s : Station) (r : Report) where
  -- and a report that is looked at has 0 to 7 alone
  to_seven : append_answer b k s.settings ≡ 0 → answer_of s r ≤ 7
  to_seven z =
      let most = answer_below s r in
      let not_eight : answer_of s r ≡ 8 → ⊥ =
      λ e.
      true≢false (sym (append_within b k s.settings z) ∙ in_its_case (of_taking s r) _ 8 (stated_report s r) e) in
      omega arith

  append_leaves : AppendLeaves b k s r (appended b k s r) (appended_bytes b k s r)
  append_leaves = go (ℕ_discrete (append_answer b k s.settings) 0)
    where
      go : Dec (append_answer b k s.settings ≡ 0) → AppendLeaves b k s r (appended b k s r) (appended_bytes b k s r)
      go (yes z) =
          let same = ap (λ (t : Taken). t.answer) (append_applies b k s r z) in
          let seven = to_seven z in
          record {
            station = λ h. (append_enters_refused b k s r z (λ e. h (same ∙ e))).0;
            buffer = λ h. let none : ⊥ = omega arith in absurd none;
            report = λ h. same;
            row = λ h l. (
              (append_enters_refused b k s r z (omega arith)).1 ∙ ap (λ (n : ℕ). entry_of r n (aspect_of s)) (sym same),
              append_elsewhere b k s r,
            );
          }
      go (no z) =
          let left = append_refused b k s r z in
          let eight = eight_up b k s.settings z in
          let same = left.2 in
          record {
            station = λ h. left.1;
            buffer = λ h. left.0;
            report = λ h. let none : ⊥ = omega arith in absurd none;
            row = λ h l. let none : ⊥ = omega arith in absurd none;
          }

-- nothing is written of a text that does not fit, nor of an empty one
not_written : (text b : List ℕ) → length_written text b ≡ 0 → written text b ≡ b
unfolding length_written written
not_written text b = go (fits text b) text
  where
    go : (t : Bool) (l : List ℕ) → cond t (length l) 0 ≡ 0 → cond t (l ++ drop (length l) b) b ≡ b
    go false l e = refl
    go true [] e = refl
    go true (x ∷ l) e = let none : ⊥ = omega arith in absurd none

pub refusal_leaves : RefusalLeaves
unfolding taken step_of reading_of recorded_of
refusal_leaves =
    record {
      report = after_refused;
      starting = start_refused;
      appending = append_leaves;
      printing = not_written;
      writing = λ m b h. (writes.refused m b h).1;
      recording = λ text b rows h. let left = texts_recorded.misread text h in (left.bytes b, left.rows rows);
      moving = refused_stays;
    }
