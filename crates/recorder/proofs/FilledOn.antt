-- One turn of the filling: a line's report entered, its line put down, and on behind it.
-- Assumes nothing.
use Prim.Native.Nat.{ℕ, suc, ◌+◌, ◌≤◌}
use native.Mathlib.Numerals.{add-one}
use native.Mathlib.Omega.{arith}
use mathlib.Core.Bool.{Bool, cond, false, not, true}
use mathlib.Core.List.{List, [], ◌∷◌}
use mathlib.Core.Path.{◌≡◌, ap, ap₂, refl, sym, ◌∙◌}
use borrow.Author.Tests.{le-ltb}
use lib.Dec.{eqb, ltb}
use lib.ListN.{length, set}
use lib.Seq.{set_out}
use Rattle.recorder.specs.AfterLine.{after_line, filling}
use Rattle.recorder.specs.ByLine.{filled_from, lines_from}
use Rattle.register.proofs.Ordered.{refused}
use Rattle.rules.specs.Answered.{answered, given, made_in}
use Rattle.rules.specs.Register.{appended, appended_bytes, start_answer}
use Rattle.rules.specs.Screen.{provided}
use Rattle.rules.specs.Station.{made, settings_answer, within_limits}
use Rattle.rules.specs.Words.{◌if◌then◌, ◌▷◌}
use Rattle.rules.specs.declared.Made.{Made}
use Rattle.rules.specs.declared.Refusal.{Refusal}
use Rattle.rules.specs.declared.Report.{Report}
use Rattle.rules.specs.declared.Settings.{Settings}
use Rattle.rules.specs.declared.Station.{Station}
use Rattle.rules_plan.specs.Lines.{is_report, line_of}
use Rattle.rules_plan.specs.Recording.{Filling, entered}
use Rattle.rules_plan.specs.declared.Line.{Line}
use Rattle.std.proofs.Common.{Err, None, Ok, Option, Result, Some}
use Rattle.std.specs.Bool.{⊤}
use Rattle.std.specs.Result.{IsOk}

-- ---- with settings within their limits

module _ (c : Settings) (inside : within_limits c ≡ true) where
  settings_right : settings_answer c ≡ 0
  unfolding settings_answer ◌if◌then◌
  settings_right = ap (λ t. cond (not t) 8 0) inside

  started_right : (b : List ℕ) → length b ≡ 65536 → start_answer c b ≡ 0
  unfolding start_answer ◌if◌then◌ ◌▷◌
  started_right b h =
      ap (λ n. cond (eqb n 0) (cond (ltb (length b) 16) 12 0) n) settings_right
      ∙ ap (λ t. cond t 12 0) (le-ltb (length b) 16 (omega arith))

  pub started_ok : (b : List ℕ) (r : Result ⊤ Refusal) → length b ≡ 65536 → answered r ≡ start_answer c b → IsOk r
  started_ok b (Ok done) h e = refl
  started_ok b (Err refusal) h e = absurd (omega (arith, (refused refusal).0, e, started_right b h))

  pub made_ok : (r : Result Station Refusal) → made_in r ≡ made c → IsOk r
  unfolding made
  made_ok (Ok station) e = refl
  made_ok (Err refusal) e =
      absurd (omega (arith, (refused refusal).0, ap (λ (m : Made). m.answer) e, settings_right))

-- ---- a station made

pub made_station : (r : Result Station Refusal) (c : Settings) (s : Station) → made_in r ≡ made c → r ≡ Ok s
    → s ≡ (made c).station
made_station r c s e f = ap (λ (m : Made). m.station) (sym (ap made_in f) ∙ e)

-- ---- a turn

module _ (found : List ℕ) (here behind : List (List ℕ)) (e : here ≡ found ∷ behind) (l : Line)
    (is : l ≡ line_of found) (reported : Option Report) (told : given reported ≡ provided (is_report l) l.numbers) where
  turned : (f : Filling) → filled_from f here ≡ filled_from (after_line l f) behind
  unfolding filled_from
  turned f = ap (filled_from f) e ∙ ap (λ k. filled_from (after_line k f) behind) (sym is)

  abbrev line_turn : ℕ → ℕ → List ℕ → Bool → List ℕ
  line_turn line count rows t =
      cond t (lines_from (suc line) (suc count) (set rows count line) behind) (lines_from (suc line) count rows behind)

  lines_turned : (line count : ℕ) (rows : List ℕ)
      → lines_from line count rows here ≡ line_turn line count rows (is_report l)
  unfolding lines_from
  lines_turned line count rows =
      ap (lines_from line count rows) e ∙ ap (λ k. line_turn line count rows (is_report k)) (sym is)

  -- ---- over a line that is no report

  module _ (no : reported ≡ None) where
    no_report : is_report l ≡ false
    no_report = by_test (is_report l) (sym (ap given no) ∙ told)
      where
        by_test : (t : Bool) → given {A = Report} None ≡ provided t l.numbers → t ≡ false
        by_test true h = absurd (cc)
        by_test false h = refl

    pub filled_over : (f whole : Filling) → filled_from f here ≡ whole → filled_from f behind ≡ whole
    filled_over f whole h =
        ap (λ t. filled_from (cond t (entered l.numbers f) f) behind) (sym no_report) ∙ sym (turned f) ∙ h

    pub lines_over : (line count : ℕ) (rows whole : List ℕ) → lines_from (suc line) count rows here ≡ whole
        → lines_from (suc (line + 1)) count rows behind ≡ whole
    lines_over line count rows whole h =
        rw add-one
        (ap (line_turn (suc line) count rows) (sym no_report) ∙ sym (lines_turned (suc line) count rows) ∙ h)

  -- ---- a report entered

  module _ (report : Report) (so : reported ≡ Some report) where
    a_report : (is_report l ≡ true) × (l.numbers ≡ report)
    a_report = by_test (is_report l) (sym (ap given so) ∙ told)
      where
        by_test : (t : Bool) → given {A = Report} (Some report) ≡ provided t l.numbers
            → (t ≡ true) × (l.numbers ≡ report)
        by_test true h = let same : l.numbers ≡ report = cc in (refl, same)
        by_test false h = absurd (cc)

    pub filled_on : (count : ℕ) (old station : Station) (bytes bytes' : List ℕ) (whole : Filling)
        → station ≡ (appended bytes count old report).station
        → bytes' ≡ appended_bytes bytes count old report
        → filled_from (filling count old bytes) here ≡ whole
        → filled_from (filling (count + 1) station bytes') behind ≡ whole
    unfolding entered
    filled_on count old station bytes bytes' whole s b h =
        let f = filling count old bytes in
        ap₂ (λ s b. filled_from (filling (count + 1) s b) behind) s b
        ∙ ap (λ n. filled_from (filling n (appended bytes count old report).station
        (appended_bytes bytes count old report)) behind) (add-one count)
        ∙ ap (λ r. filled_from (entered r f) behind) (sym a_report.1)
        ∙ ap (λ t. filled_from (cond t (entered l.numbers f) f) behind) (sym a_report.0)
        ∙ sym (turned f)
        ∙ h

    pub lines_on : (line count : ℕ) (rows rows' whole : List ℕ) → rows' ≡ set rows count (line + 1)
        → lines_from (suc line) count rows here ≡ whole
        → lines_from (suc (line + 1)) (count + 1) rows' behind ≡ whole
    lines_on line count rows rows' whole r h =
        ap (λ l. lines_from (suc (line + 1)) (count + 1) l behind) r
        ∙ rw (add-one line, add-one count)
        (ap (line_turn (suc line) count rows) (sym a_report.0) ∙ sym (lines_turned (suc line) count rows) ∙ h)

-- ---- its line

-- past the last place nothing is put
pub put_out : (rows : List ℕ) (row line : ℕ) → length rows ≤ row → rows ≡ set rows row line
put_out rows row line h = sym (set_out rows row line h)

-- ---- at the end of the text

pub filled_whole : (f : Filling) (here : List (List ℕ)) (whole : Filling) → here ≡ [] → filled_from f here ≡ whole
    → f ≡ whole
unfolding filled_from
filled_whole f here whole e h = ap (filled_from f) (sym e) ∙ h

pub lines_whole : (line count : ℕ) (rows : List ℕ) (here : List (List ℕ)) (whole : List ℕ) → here ≡ []
    → lines_from line count rows here ≡ whole
    → rows ≡ whole
unfolding lines_from
lines_whole line count rows here whole e h = ap (lines_from line count rows) (sym e) ∙ h
