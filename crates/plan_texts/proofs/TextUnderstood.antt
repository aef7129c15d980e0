-- A planner's text with nothing wrong: its settings are within their limits, and its reports were counted one by one.
-- Assumes nothing.
use Prim.Native.Nat.{ℕ, suc, ◌+◌, ◌≤◌}
use native.Mathlib.Nat.{zero-add}
use native.Mathlib.Omega.{arith}
use mathlib.Core.Path.{◌≡◌, refl, sym, ap, subst, ◌∙◌}
use mathlib.Core.Bool.{Bool, true, false, false≢true, true≢false, cond, not, ◌&&◌}
use mathlib.Core.List.{List, [], ◌∷◌}
use borrow.Author.Tests.{eqb-true, leb-false, lt-leb, ltb-true, not-false}
use lib.Dec.{eqb, leb, ltb}
use lib.ListN.{length, set}
use Rattle.chains.proofs.Chains.{both_done, passed, where_done}
use Rattle.rules.specs.Station.{within_limits}
use Rattle.rules.specs.declared.Report.{Report}
use Rattle.rules_plan.specs.Faults.{all_given, checked, checked_from, line_fault, nothing_said, with_line, with_setting}
use Rattle.rules_plan.specs.Lines.{is_report, is_setting, line_of}
use Rattle.rules_plan.specs.Recording.{lines_in, reports_in, reports_said}
use Rattle.rules_plan.specs.Words.{lines, unmarked}
use Rattle.rules_plan.specs.declared.Checked.{Checked}
use Rattle.rules_plan.specs.declared.Line.{Line}
use Rattle.rules_plan.specs.declared.Said.{Said}

-- What has been said can be recorded: settings, once all are given, and reports.
record Sound (s : Said) : Type 0 where
  within : all_given s ≡ true → within_limits s.settings ≡ true
  few : s.reports ≤ 8190

sound_at_first : Sound nothing_said
unfolding all_given nothing_said
sound_at_first = record { within = λ e. absurd (false≢true e); few = omega arith }

-- ---- one line

module _ (s : Said) (l : Line) where
  -- a line is a setting, a report, or neither
  abbrev pub by_kind : Bool → Bool → Said
  by_kind setting report =
      cond
      setting
      (record { given = set s.given l.name true; settings = with_setting s.settings l; reports = s.reports })
      (record { given = s.given; settings = s.settings; reports = cond report (suc s.reports) s.reports })

  -- The line that completes the settings is refused where they are outside their limits, and a report where there are
  -- 8,190 already.
  sound_by : (setting report : Bool) → Sound s
      → (setting && all_given (by_kind setting report) && not (within_limits (by_kind setting report).settings)) ≡ false
      → (report && leb 8190 s.reports) ≡ false
      → Sound (by_kind setting report)
  unfolding all_given
  sound_by true report h e f =
      let now = by_kind true report in
      record {
        within = λ g. not-false _ (sym (ap (λ (t : Bool). t && not (within_limits now.settings)) g) ∙ e);
        few = h.few;
      }
  sound_by false true h e f = record { within = h.within; few = omega (arith, leb-false 8190 s.reports f) }
  sound_by false false h e f = record { within = h.within; few = h.few }

  sound_after : Sound s → line_fault s l ≡ 0 → Sound (with_line s l)
  unfolding line_fault with_line
  sound_after h e =
      let in_place = (passed 6 _ _ (passed 5 _ _ (both_done l.fault _ e).1).1).1 in
      let completes = passed 8 _ _ in_place in
      let counts = passed 9 _ _ (passed 7 _ _ completes.1).1 in
      sound_by (is_setting l) (is_report l) h completes.0 counts.0

  no_setting : (setting : Bool) → is_setting l ≡ setting → is_report l ≡ true → setting ≡ false
  no_setting true e f = absurd (false≢true (sym (ap (λ (t : Bool). t && ltb l.name 14) before) ∙ f))
    where
      before : leb 6 l.name ≡ false
      before = lt-leb 6 l.name (ltb-true l.name 6 e)
  no_setting false e f = refl

  -- one report more than before, where the line is one
  one_more : (rest : List Report)
      → (with_line s l).reports + length rest ≡ s.reports + length (cond (is_report l) (l.numbers ∷ rest) rest)
  unfolding with_line
  one_more rest = go (is_setting l) (is_report l) (no_setting (is_setting l) refl)
    where
      go : (setting report : Bool) → (report ≡ true → setting ≡ false)
          → (by_kind setting report).reports + length rest ≡ s.reports + length (cond report (l.numbers ∷ rest) rest)
      go true true h = absurd (true≢false (h refl))
      go true false h = refl
      go false true h = omega arith
      go false false h = refl

-- ---- line by line

-- the first of several lines, behind which nothing is wrong
pub record Passed (line : ℕ) (s : Said) (l : List ℕ) (ls : List (List ℕ)) : Type 0 where
  pub first : line_fault s (line_of l) ≡ 0
  pub on : checked_from line s (l ∷ ls) ≡ checked_from (suc line) (with_line s (line_of l)) ls
  pub rest : (checked_from (suc line) (with_line s (line_of l)) ls).fault ≡ 0

pub line_passed : (line : ℕ) (s : Said) (l : List ℕ) (ls : List (List ℕ)) → (checked_from line s (l ∷ ls)).fault ≡ 0
    → Passed line s l ls
unfolding checked_from
line_passed line s l ls e = record { first = fine; on = on; rest = sym (ap (λ (c : Checked). c.fault) on) ∙ e }
  where
    fault : ℕ
    fault = line_fault s (line_of l)

    next : Checked
    next = checked_from (suc line) (with_line s (line_of l)) ls

    go : (t : Bool) → eqb fault 0 ≡ t → (cond t next (record { fault = fault; line = line; said = s })).fault ≡ 0
        → fault ≡ 0
    go true q e = eqb-true fault 0 q
    go false q e = e

    fine : fault ≡ 0
    fine = go (eqb fault 0) refl e

    on : checked_from line s (l ∷ ls) ≡ next
    on = where_done fault _ _ fine

-- what the lines have said in the end
pub record Understood (s : Said) (ls : List (List ℕ)) (found : Checked) : Type 0 where
  pub line : found.line ≡ 0
  pub settings : within_limits found.said.settings ≡ true
  pub reports : found.said.reports ≡ s.reports + length (reports_in ls)
  pub few : found.said.reports ≤ 8190

understood_from : (line : ℕ) (s : Said) (ls : List (List ℕ)) → Sound s → (checked_from line s ls).fault ≡ 0
    → Understood s ls (checked_from line s ls)
unfolding checked_from reports_in
understood_from line s [] h e =
    record {
      line = refl;
      settings = h.within (not-false (all_given s) (passed 10 (not (all_given s)) 0 e).0);
      reports = omega arith;
      few = h.few;
    }
understood_from line s (l ∷ ls) h e =
    let found = line_of l in
    let on = line_passed line s l ls e in
    let rest = understood_from (suc line) (with_line s found) ls (sound_after s found h on.first) on.rest in
    subst (Understood s (l ∷ ls)) (sym on.on)
    (record {
      line = rest.line;
      settings = rest.settings;
      reports = rest.reports ∙ one_more s found (reports_in ls);
      few = rest.few;
    })

-- ---- a text

module _ (text : List ℕ) (fine : (checked text).fault ≡ 0) where
  understood : Understood nothing_said (lines (unmarked text)) (checked text)
  unfolding checked
  understood = understood_from 1 nothing_said (lines (unmarked text)) sound_at_first fine

  pub no_line_lem : (checked text).line ≡ 0
  no_line_lem = understood.line

  pub within_limits_lem : within_limits (checked text).said.settings ≡ true
  within_limits_lem = understood.settings

  -- Its reports were counted one by one,
  pub all_counted : (checked text).said.reports ≡ length (reports_said text)
  unfolding nothing_said
  all_counted = understood.reports ∙ zero-add _

  pub few_reports : length (reports_said text) ≤ 8190
  few_reports = omega (arith, all_counted, understood.few)

-- and there are as many lines of reports.
pub as_many : (line : ℕ) (ls : List (List ℕ)) → length (lines_in line ls) ≡ length (reports_in ls)
unfolding lines_in reports_in
as_many line [] = refl
as_many line (l ∷ ls) = go (is_report (line_of l)) (as_many (suc line) ls)
  where
    go : (t : Bool) → length (lines_in (suc line) ls) ≡ length (reports_in ls)
        → length (cond t (line ∷ lines_in (suc line) ls) (lines_in (suc line) ls))
        ≡ length (cond t ((line_of l).numbers ∷ reports_in ls) (reports_in ls))
    go true e = ap suc e
    go false e = e
