-- One turn of the check: on behind a line that is understood, at a stop at another, and at the end of the text.
-- Assumes nothing.
use Prim.Native.Nat.{ℕ, suc, ◌+◌, ◌≤◌}
use native.Mathlib.Numerals.{add-one}
use native.Mathlib.Omega.{arith}
use mathlib.Core.Bool.{Bool, cond, false, not, true}
use mathlib.Core.List.{List, [], ◌∷◌}
use mathlib.Core.Path.{◌≡◌, ap, sym, ◌∙◌}
use lib.Dec.{eqb}
use lib.ListN.{length, length-drop, replicate}
use Rattle.plan_lines.proofs.WordFaults.{some_fault}
use Rattle.rules.specs.Words.{◌if◌then◌}
use Rattle.rules.specs.declared.Settings.{Settings}
use Rattle.rules_plan.specs.Answered.{fault_number}
use Rattle.rules_plan.specs.Faults.{all_given, checked_from, line_fault, nothing_said, with_line}
use Rattle.rules_plan.specs.Lines.{line_of}
use Rattle.rules_plan.specs.Words.{line_feed, lines, mark_size, onto, pieces, unmarked}
use Rattle.rules_plan.specs.declared.Checked.{Checked}
use Rattle.rules_plan.specs.declared.Fault.{Fault}
use Rattle.rules_plan.specs.declared.Misread.{Misread}
use Rattle.recorder.specs.Saying.{SaidWith, checked_in}
use Rattle.std.proofs.Common.{Err, Ok, Result}
use Rattle.std.proofs.lemmas.List.FromFn.{fill_by_all}
use Rattle.std.specs.Array.{AllOfLen}
use Rattle.std.specs.Result.{MatchResult}
use Rattle.rules_plan.specs.declared.Line.{Line}
use Rattle.rules_plan.specs.declared.Said.{Said}

-- ---- there are no more lines than bytes

pieces_few : (text : List ℕ) → length (lines text) ≤ length text
unfolding pieces
pieces_few [] = omega arith
pieces_few (b ∷ text) = by_test (line_feed b) (pieces_few text)
  where
    added : (ls : List (List ℕ)) → length ls ≤ length text → length (onto b ls) ≤ suc (length text)
    added [] h = omega arith
    added (l ∷ ls) h = omega arith

    by_test : (t : Bool) → length (lines text) ≤ length text
        → length (cond t ([] ∷ lines text) (onto b (lines text))) ≤ suc (length text)
    by_test true h = omega arith
    by_test false h = added (lines text) h

pub lines_few : (text : List ℕ) → length (lines (unmarked text)) ≤ length text
unfolding unmarked
lines_few text = omega (arith, pieces_few (unmarked text), length-drop (mark_size text) text)

-- ---- before the first line

-- no setting is given where none of the six is
none_given : (given : List Bool) → AllOfLen (λ g. g ≡ false) given 6 → given ≡ replicate 6 false
none_given given r = fill_by_all (λ _. false) given 6 false r.long (λ k h. r.at k false h)

-- as Default has the settings
abbrev AllZero : Settings → Type 0
AllZero c = (c.tracks ≡ 0) × ((c.t1 ≡ 0) × ((c.t2 ≡ 0) × ((c.t3 ≡ 0) × ((c.t4 ≡ 0) × (c.t5 ≡ 0)))))

pub said_nothing : (s : Said) → AllOfLen (λ g. g ≡ false) s.given 6 × (AllZero s.settings × (s.reports ≡ 0))
    → s ≡ nothing_said
unfolding nothing_said
said_nothing s (given, ((tracks, (t1, (t2, (t3, (t4, t5))))), reports)) =
    λ i. record {
      given = none_given s.given given i;
      settings = record { tracks = tracks i; t1 = t1 i; t2 = t2 i; t3 = t3 i; t4 = t4 i; t5 = t5 i };
      reports = reports i;
    }

-- ---- a turn

-- up to a fault the text says what it says
told : {fault line : ℕ} {s : Said} {whole : Checked}
    → ◌≡◌ {A = Checked} (record { fault = fault; line = line; said = s }) whole
    → ◌≡◌ {A = Checked} (record { fault = fault; line = line; said = whole.said }) whole
told {fault} {line} e = sym (ap (λ (c : Checked). record { fault = fault; line = line; said = c.said }) e) ∙ e

-- what has been said with a line, where its number is put beside what is wrong with it
abbrev pub Numbered : ℕ → Result Said Fault → Result Said Misread → Type 0
Numbered line r m = MatchResult r (λ next. m ≡ Ok next) (λ fault. m ≡ Err (Misread.AtLine line fault))

module _ (line : ℕ) (s : Said) (here : List (List ℕ)) (whole : Checked)
    (so_far : checked_from (suc line) s here ≡ whole) where
  module _ (found : List ℕ) (behind : List (List ℕ)) (e : here ≡ found ∷ behind) where
    abbrev turn : ℕ → Checked
    turn fault =
        cond
        (eqb fault 0)
        (checked_from (suc (suc line)) (with_line s (line_of found)) behind)
        (record { fault = fault; line = suc line; said = s })

    turned : turn (line_fault s (line_of found)) ≡ whole
    unfolding checked_from
    turned = ap (checked_from (suc line) s) (sym e) ∙ so_far

    module _ (l : Line) (is : l ≡ line_of found) (m : Result Said Misread) where
      pub checked_on : (r : Result Said Fault) (next : Said) → SaidWith s l r → Numbered (line + 1) r m → m ≡ Ok next
          → checked_from (suc (line + 1)) next behind ≡ whole
      checked_on (Ok n) next w h e =
          let same : next ≡ n = cc in
          rw add-one
          (ap (λ (o : Said). checked_from (suc (suc line)) o behind) (same ∙ w.1 ∙ ap (with_line s) is)
          ∙ ap turn (sym w.0 ∙ ap (line_fault s) is)
          ∙ turned)
      checked_on (Err fault) next w h e = absurd (cc)

      pub stopped : (r : Result Said Fault) (misread : Misread) (returned : Result Said Misread) → SaidWith s l r
          → Numbered (line + 1) r m
          → m ≡ Err misread
          → returned ≡ Err misread
          → checked_in whole.said returned ≡ whole
      stopped (Ok n) misread returned w h e k = absurd (cc)
      stopped (Err fault) misread returned w h e k =
          let same : returned ≡ Err (Misread.AtLine (line + 1) fault) = cc in
          ap (checked_in whole.said) same
          ∙ rw add-one
          (told
          (ap (λ t. cond t (checked_from (suc (suc line)) (with_line s (line_of found)) behind)
          (record { fault = fault_number fault; line = suc line; said = s })) (sym (some_fault fault))
          ∙ ap turn (w ∙ ap (line_fault s) is)
          ∙ turned))

  module _ (over : here ≡ []) where
    ended : ◌≡◌ {A = Checked} (record { fault = 11 if not (all_given s) then 0; line = 0; said = s }) whole
    unfolding checked_from
    ended = ap (checked_from (suc line) s) (sym over) ∙ so_far

    pub all_said : true ≡ all_given s → ◌≡◌ {A = Checked} (record { fault = 0; line = 0; said = s }) whole
    unfolding ◌if◌then◌
    all_said e =
        ap (λ (t : Bool). record { fault = cond (not t) 11 0; line = 0; said = s }) e ∙ ended

    pub text_ends_early : false ≡ all_given s
        → ◌≡◌ {A = Checked} (record { fault = 11; line = 0; said = whole.said }) whole
    unfolding ◌if◌then◌
    text_ends_early e =
        told (ap (λ (t : Bool). record { fault = cond (not t) 11 0; line = 0; said = s }) e ∙ ended)
