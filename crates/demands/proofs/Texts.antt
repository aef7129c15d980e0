-- What is wrong with a planner's text: each of the numbers 1 to 11 is given exactly in its case, and the first line
-- that is at fault decides.
-- Assumes nothing.
use Prim.Native.Nat.{ℕ, zero, suc, ◌+◌, ◌<◌}
use native.Mathlib.Decide.{ℕ_discrete}
use native.Mathlib.Omega.{arith}
use mathlib.Core.Logic.{◌⊎◌, inl, inr, ⊎_elim}
use mathlib.Core.Path.{◌≡◌, refl, sym, ap, subst, ◌∙◌}
use mathlib.Core.Bool.{not}
use mathlib.Core.List.{List, [], ◌∷◌}
use lib.ListN.{get_or, length, take}
use Rattle.chains.proofs.Chains.{group_passes, group_refuses, where_done, where_refused}
use Rattle.demands.proofs.Exactly.{Row, at_most, exactly, group, is, isnt, ◌and◌, ◌on◌}
use Rattle.demands.proofs.TextWords.{stated_words}
use Rattle.demands.specs.Exactly.{GivenExactly}
use Rattle.demands.specs.Texts.{FirstAtFault, FirstDecides, TextsAsStated}
use Rattle.demands.specs.Texts.{fault_on, lines_of, of_end, of_standing, said_before, said_by}
use Rattle.rules.specs.Station.{within_limits}
use Rattle.rules.specs.Words.{◌if◌then◌}
use Rattle.rules_plan.specs.Faults.{all_given, checked, checked_from, given_already, line_fault, nothing_said}
use Rattle.rules_plan.specs.Faults.{with_line}
use Rattle.rules_plan.specs.Lines.{is_report, is_setting, line_of}
use Rattle.rules_plan.specs.declared.Checked.{Checked}
use Rattle.rules_plan.specs.declared.Line.{Line}
use Rattle.rules_plan.specs.declared.Said.{Said}

-- ---- a line where it stands

module _ (s : Said) (l : Line) where
  wrong_words_lem : (l.fault ≡ 0 → ⊥) → line_fault s l ≡ l.fault
  unfolding line_fault
  wrong_words_lem h = sym (group_refuses l.fault l.fault _ refl h)

  abbrev tests : List Row
  tests =
      6 on is (is_setting l) and at_most 1 s.reports
      ∷ 7 on is (is_setting l) and is (given_already s l)
      ∷ 9 on is (is_setting l) and is (all_given (with_line s l)) and isnt (within_limits (with_line s l).settings)
      ∷ 8 on is (is_report l) and isnt (all_given s)
      ∷ 10 on is (is_report l) and at_most 8190 s.reports
      ∷ []

  stated_standing : l.fault ≡ 0 → GivenExactly (of_standing s l) (line_fault s l)
  unfolding line_fault
  stated_standing z =
      subst (GivenExactly (of_standing s l)) (group_passes l.fault l.fault _ _ refl z refl)
      (exactly (group tests) refl)

-- ---- a text

abbrev fault_at : Said → List (List ℕ) → ℕ → ℕ
fault_at s ls k = line_fault (said_by s (take k ls)) (line_of (get_or ls k []))

abbrev stopped : ℕ → Said → List (List ℕ) → ℕ → Checked
stopped line s ls k = record { fault = fault_at s ls k; line = line; said = said_by s (take k ls) }

abbrev ended : Said → Checked
ended s = record { fault = 11 if not (all_given s) then 0; line = 0; said = s }

-- Of lines that stand from one with a number on, after what was said before them, the first at fault is told,
record Stops (line : ℕ) (s : Said) (ls : List (List ℕ)) (found : Checked) : Type 0 where
  at : ℕ
  inside : at < length ls
  wrong : fault_at s ls at ≡ 0 → ⊥
  first : (j : ℕ) → j < at → fault_at s ls j ≡ 0
  told : found ≡ stopped (line + at) s ls at

-- or none is at fault.
record Passes (s : Said) (ls : List (List ℕ)) (found : Checked) : Type 0 where
  none : (j : ℕ) → j < length ls → fault_at s ls j ≡ 0
  told : found ≡ ended (said_by s ls)

line_by_line : (line : ℕ) (s : Said) (ls : List (List ℕ))
    → Stops line s ls (checked_from line s ls) ⊎ Passes s ls (checked_from line s ls)
unfolding checked_from said_by
line_by_line line s [] = inr (record { none = λ j h. let z : ⊥ = omega arith in absurd z; told = refl })
line_by_line line s (l ∷ ls) = go (ℕ_discrete fault 0) (line_by_line (suc line) next ls)
  where
    fault : ℕ
    fault = line_fault s (line_of l)

    next : Said
    next = with_line s (line_of l)

    one_more : (n : ℕ) → fault ≡ 0 → ((j : ℕ) → j < n → fault_at next ls j ≡ 0) → (j : ℕ) → j < suc n
        → fault_at s (l ∷ ls) j ≡ 0
    one_more n z h zero b = z
    one_more n z h (suc j) b = h j (omega arith)

    go : Dec (fault ≡ 0)
        → Stops (suc line) next ls (checked_from (suc line) next ls) ⊎ Passes next ls (checked_from (suc line) next ls)
        → Stops line s (l ∷ ls) (checked_from line s (l ∷ ls)) ⊎ Passes s (l ∷ ls) (checked_from line s (l ∷ ls))
    go (no w) later =
        let here : line ≡ line + 0 = omega arith in
        inl
        (record {
          at = 0;
          inside = omega arith;
          wrong = w;
          first = λ j h. let z : ⊥ = omega arith in absurd z;
          told = where_refused fault _ _ w ∙ ap (λ (n : ℕ). stopped n s (l ∷ ls) 0) here;
        })
    go (yes z) (inl h) =
        let there : suc line + h.at ≡ line + suc h.at = omega arith in
        inl
        (record {
          at = suc h.at;
          inside = omega (arith, h.inside);
          wrong = h.wrong;
          first = one_more h.at z h.first;
          told = where_done fault _ _ z ∙ h.told ∙ ap (λ (n : ℕ). stopped n next ls h.at) there;
        })
    go (yes z) (inr h) =
        inr (record { none = one_more (length ls) z h.none; told = where_done fault _ _ z ∙ h.told })

-- There is one first.
one_first : (f : ℕ → ℕ) (j k : ℕ) → (f j ≡ 0 → ⊥) → ((i : ℕ) → i < j → f i ≡ 0) → (f k ≡ 0 → ⊥)
    → ((i : ℕ) → i < k → f i ≡ 0)
    → j ≡ k
one_first f j k wrong first wrong' first' =
    let not-below : j < k → ⊥ = λ h. wrong (first' j h) in
    let not-above : k < j → ⊥ = λ h. wrong' (first k h) in
    omega arith

module _ (text : List ℕ) where
  where_stopped : Stops 1 nothing_said (lines_of text) (checked text) → FirstDecides text
  where_stopped h =
      let told : (checked text).line ≡ 1 + h.at = ap (λ (c : Checked). c.line) h.told in
      let that : (k : ℕ) → (checked text).line ≡ suc k → h.at ≡ k = λ k e. omega arith in
      let some : (checked text).line ≡ 0 → ⊥ = λ e. omega arith in
      record {
        inside = omega (arith, h.inside);
        line = λ k b. (
          λ e. subst (FirstAtFault text) (that k e) (h.wrong, h.first),
          λ f. told ∙ omega (arith, one_first (fault_on text) h.at k h.wrong h.first f.0 f.1),
        );
        fault = λ k e. ap (λ (c : Checked). c.fault) h.told ∙ ap (fault_on text) (that k e);
        before = λ k e. ap (λ (c : Checked). c.said) h.told ∙ ap (said_before text) (that k e);
        no_line = (λ e. absurd (some e), λ f. absurd (h.wrong (f h.at h.inside)));
        end = λ e. absurd (some e);
        all = λ e. absurd (some e);
      }

  where_passed : Passes nothing_said (lines_of text) (checked text) → FirstDecides text
  where_passed h =
      let told : (checked text).line ≡ 0 = ap (λ (c : Checked). c.line) h.told in
      let no_line_lem : (k : ℕ) → (checked text).line ≡ suc k → ⊥ = λ k e. omega arith in
      let s = said_by nothing_said (lines_of text) in
      record {
        inside = omega arith;
        line = λ k b. (λ e. absurd (no_line_lem k e), λ f. absurd (f.0 (h.none k b)));
        fault = λ k e. absurd (no_line_lem k e);
        before = λ k e. absurd (no_line_lem k e);
        no_line = (λ e. h.none, λ f. told);
        end = λ e. subst (λ (c : Checked). GivenExactly (of_end c.said) c.fault) (sym h.told)
            (exactly (group (11 on isnt (all_given s) ∷ [])) refl);
        all = λ e. ap (λ (c : Checked). c.said) h.told;
      }

  first_decides : FirstDecides text
  unfolding checked
  first_decides = ⊎_elim where_stopped where_passed (line_by_line 1 nothing_said (lines_of text))

-- ---- all of them

pub texts_as_stated : TextsAsStated
texts_as_stated =
    record {
      words = stated_words;
      no_words = refl;
      wrong_words = wrong_words_lem;
      standing = stated_standing;
      text = first_decides;
    }
