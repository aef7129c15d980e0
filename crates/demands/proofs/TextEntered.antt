-- The reports of a planner's text: a register filled with them in their order, and the line of each.
-- Assumes nothing.
use Prim.Native.Nat.{ℕ, zero, suc, ◌+◌, ◌<◌}
use native.Mathlib.Numerals.{add-one}
use native.Mathlib.Omega.{arith}
use mathlib.Core.Path.{◌≡◌, refl, sym, ap, ◌∙◌}
use mathlib.Core.Bool.{Bool, true, false, cond}
use mathlib.Core.List.{List, [], ◌∷◌}
use lib.ListN.{drop, get_or, length}
use lib.Seq.{drop-drop}
use Rattle.demands.proofs.RegisterLaws.{append_elsewhere, start_elsewhere}
use Rattle.demands.specs.ReadBack.{Filling, filled}
use Rattle.demands.specs.RecordedBack.{Says, line_at, no_report}
use Rattle.rules.specs.Layout.{entry_start}
use Rattle.rules.specs.declared.Report.{Report}
use Rattle.rules_plan.specs.Lines.{is_report, line_of}
use Rattle.rules_plan.specs.Recording.{entered, filled_with, lines_in, reports_in, Filling as Entered}

-- ---- the register

module _ (f : Filling) where
  abbrev pub after_reports : ℕ → Entered
  after_reports n = record { count = n; station = (filled f n).station; bytes = (filled f n).bytes }

  -- reports that are those of the filling from the n-th on
  pub filled_from_lem : (n : ℕ) (reports : List Report) → ((k : ℕ) → f.report (n + k) ≡ get_or reports k no_report)
      → filled_with (after_reports n) reports ≡ after_reports (n + length reports)
  unfolding filled_with entered filled
  filled_from_lem n [] h = let here : n ≡ n + 0 = omega arith in ap after_reports here
  filled_from_lem n (r ∷ rs) h =
      let here : n ≡ n + 0 = omega arith in
      let past : (k : ℕ) → suc n + k ≡ n + suc k = λ k. omega arith in
      let said : r ≡ f.report n = sym (ap f.report here ∙ h 0) in
      ap (λ (r : Report). filled_with (entered r (after_reports n)) rs) said
      ∙ filled_from_lem (suc n) rs (λ k. ap f.report (past k) ∙ h (suc k))
      ∙ ap after_reports (past (length rs))

  -- Behind the entries are the bytes that were lent.
  pub beyond_stays : (n : ℕ) → drop (entry_start n) (filled f n).bytes ≡ drop (entry_start n) f.lent
  unfolding filled
  beyond_stays zero = (start_elsewhere f.settings f.lent).0
  beyond_stays (suc n) =
      let b = (filled f n).bytes in
      rw add-one at (append_elsewhere b n (filled f n).station (f.report n)).1
      ∙ sym (further b)
      ∙ ap (drop 8) (beyond_stays n)
      ∙ further f.lent
    where
      further : (l : List ℕ) → drop 8 (drop (entry_start n) l) ≡ drop (entry_start (suc n)) l
      further l =
          let next : entry_start n + 8 ≡ entry_start (suc n) = omega arith in
          drop-drop 8 (entry_start n) l ∙ ap (λ (m : ℕ). drop m l) next

-- ---- the list of lines

-- Each number is that of a line that says its report: so many lines behind the first.
pub record SaysBehind (line : ℕ) (ls : List (List ℕ)) (number : ℕ) (said : Report) : Type 0 where
  pub behind : ℕ
  pub numbered : number ≡ line + behind
  pub says : Says (line_at ls behind) said

says_behind : (line : ℕ) (l : List ℕ) (ls : List (List ℕ)) (number : ℕ) (said : Report)
    → SaysBehind (suc line) ls number said
    → SaysBehind line (l ∷ ls) number said
says_behind line l ls number said h =
    record { behind = suc h.behind; numbered = h.numbered ∙ omega arith; says = h.says }

pub line_says : (line : ℕ) (ls : List (List ℕ)) (k : ℕ) → k < length (reports_in ls)
    → SaysBehind line ls (get_or (lines_in line ls) k 0) (get_or (reports_in ls) k no_report)
unfolding lines_in reports_in
line_says line [] k h = let z : ⊥ = omega arith in absurd z
line_says line (l ∷ ls) k h = go (is_report (line_of l)) refl k h (line_says (suc line) ls)
  where
    numbers : List ℕ
    numbers = lines_in (suc line) ls

    reports : List Report
    reports = reports_in ls

    go : (t : Bool) → is_report (line_of l) ≡ t → (k : ℕ) → k < length (cond t ((line_of l).numbers ∷ reports) reports)
        → ((j : ℕ) → j < length reports → SaysBehind (suc line) ls (get_or numbers j 0) (get_or reports j no_report))
        → SaysBehind line (l ∷ ls) (get_or (cond t (line ∷ numbers) numbers) k 0)
        (get_or (cond t ((line_of l).numbers ∷ reports) reports) k no_report)
    go true e zero h ih =
        record { behind = 0; numbered = omega arith; says = record { report = e; numbers = refl } }
    go true e (suc k) h ih = says_behind line l ls _ _ (ih k (omega arith))
    go false e k h ih = says_behind line l ls _ _ (ih k h)
