-- Document 01, "The numbers it answers", and demand 1: "Any report, setting or register is taken or refused
-- by a number, .. Each number is given in its stated case only." The tests stand here as in the
-- definitions, each with the words of the table.
-- Assumes nothing.
use Prim.Native.Nat.{ℕ, zero, suc, ◌+◌, ◌*◌, ◌-◌, ◌%◌}
use native.Mathlib.Decide.{ℕ_discrete}
use mathlib.Core.Path.{◌≡◌, refl, sym, ap, subst, ◌∙◌}
use mathlib.Core.Bool.{Bool, true, false≢true, true≢false, cond, not, ◌&&◌, ◌||◌}
use mathlib.Core.List.{List, [], ◌∷◌}
use borrow.Author.Tests.{not-false}
use lib.ListN.{length}
use Rattle.chains.proofs.Chains.{both_done, neither, passed, same_order}
use Rattle.demands.proofs.Exactly.{Row, Tests, at_most, below, equal, exactly, group, in_words}
use Rattle.demands.proofs.Exactly.{is, isnt, unequal, ◌and◌, ◌before◌, ◌on◌, ◌or◌}
use Rattle.demands.proofs.ScreensStated.{stated_receiving, stated_writing}
use Rattle.demands.specs.Exactly.{GivenExactly}
use Rattle.demands.specs.Stated.{AsStated, SomeWrong, of_appending, of_handing_back, of_limits}
use Rattle.demands.specs.Stated.{of_reading, of_starting, of_stepping, of_taking}
use Rattle.register.proofs.FirstWrong.{names_first, none_wrong}
use Rattle.reports.proofs.ByNumber.{not_blocked}
use Rattle.rules.specs.Answers.{already, answer_of, blocked, form_answer, names_head, names_island}
use Rattle.rules.specs.Answers.{place_answer, state_answer, taken, wrong_fields}
use Rattle.rules.specs.Kinds.{kind_of}
use Rattle.rules.specs.Layout.{entries, has_mark, settings_in, version_in}
use Rattle.rules.specs.Register.{append_answer, appended, entry_answer, first_wrong, head_answer, length_answer}
use Rattle.rules.specs.Register.{read_answer}
use Rattle.rules.specs.Register.{read_of, reading_of, register_answer, same_settings, start_answer, step_answer}
use Rattle.rules.specs.Register.{step_of}
use Rattle.rules.specs.Reports.{named_island}
use Rattle.rules.specs.Siting.{advance_sited, message_good, speed_good, tracks_good, warning_sited}
use Rattle.rules.specs.Station.{made, obstructed, settings_answer, within_limits}
use Rattle.rules.specs.Words.{within, ◌if◌then◌, ◌▷◌}
use Rattle.rules.specs.declared.Report.{Report}
use Rattle.rules.specs.declared.Seconds.{Seconds}
use Rattle.rules.specs.declared.Settings.{Settings}
use Rattle.rules.specs.declared.Station.{Station}

-- ---- a report

-- normalise alone is blocked
normalise_blocked : (s : Station) (kind : ℕ) → blocked (kind_of kind) s ≡ true → (kind ≡ 7) × (obstructed s ≡ true)
unfolding kind_of
normalise_blocked s kind e = go (ℕ_discrete kind 7)
  where
    go : Dec (kind ≡ 7) → (kind ≡ 7) × (obstructed s ≡ true)
    go (yes q) = (q, subst (λ (k : ℕ). blocked (kind_of k) s ≡ true) q e)
    go (no h) = absurd (false≢true (sym (not_blocked s kind h) ∙ e))

blocked_normalise : (s : Station) (kind : ℕ) → (kind ≡ 7) × (obstructed s ≡ true) → blocked (kind_of kind) s ≡ true
unfolding kind_of
blocked_normalise s kind e = subst (λ (k : ℕ). blocked (kind_of k) s ≡ true) (sym e.0) e.1

abbrev limits : Bool → Tests
limits good = group (8 on isnt good ∷ [])

-- as form_answer, place_answer and state_answer have them
abbrev form : Report → List Row
form r = 1 on isnt (within 1 7 r.kind) ∷ 2 on unequal r.spare 0 or is (wrong_fields (kind_of r.kind) r) ∷ []

abbrev place : Station → Report → List Row
place s r =
    let kind = kind_of r.kind in
    3 on is (names_island kind) and at_most s.settings.tracks r.a
    ∷ 5 on is (names_head kind) and below 1 r.a
    ∷ 4 on is (names_island kind) and below 4 r.b
    ∷ []

abbrev state : Station → Report → List Row
state s r =
    let kind = kind_of r.kind in
    6 on is (already kind (named_island s r))
    ∷ 7 on in_words (is (blocked kind s)) (normalise_blocked s r.kind) (blocked_normalise s r.kind)
    ∷ []

abbrev report : Station → Report → Tests
report s r = group (form r) before group (place s r) before group (state s r)

pub stated_report : (s : Station) (r : Report) → GivenExactly (of_taking s r) (answer_of s r)
unfolding answer_of settings_answer form_answer place_answer state_answer
stated_report s r = exactly (limits (within_limits s.settings) before report s r) refl

-- ---- settings and siting

pub stated_settings : (c : Settings) → GivenExactly (of_limits (within_limits c)) (made c).answer
unfolding made settings_answer
stated_settings c = exactly (limits (within_limits c)) refl

pub stated_advance : (v : ℕ) (m : Seconds)
    → GivenExactly (of_limits (speed_good v && message_good m.0)) (advance_sited v m).answer
unfolding advance_sited
stated_advance v m = exactly (limits (speed_good v && message_good m.0)) refl

pub stated_warning : (v n : ℕ) → GivenExactly (of_limits (speed_good v && tracks_good n)) (warning_sited v n).answer
unfolding warning_sited
stated_warning v n = exactly (limits (speed_good v && tracks_good n)) refl

-- ---- starting and appending

pub stated_starting : (c : Settings) (b : List ℕ) → GivenExactly (of_starting c b) (start_answer c b)
unfolding start_answer settings_answer
stated_starting c b = exactly (limits (within_limits c) before group (12 on below (length b) 16 ∷ [])) refl

abbrev head : List ℕ → Tests
head b = group (9 on below (length b) 16 or isnt (has_mark b) ∷ 10 on unequal (version_in b) 1 ∷ [])

module _ (b : List ℕ) (k : ℕ) where
  -- Where appending refuses nothing the station's settings are within their limits,
  pub append_within : (c : Settings) → append_answer b k c ≡ 0 → within_limits c ≡ true
  unfolding append_answer
  append_within c z =
      let out = not (within_limits (settings_in b)) in
      let fit = neither (out || not (within_limits c)) _ (passed 7 _ _ (both_done (head_answer b) _ z).1).0 in
      not-false (within_limits c) (neither out _ fit.0).1

  -- so that the report is refused by its own tests alone
  abbrev own : Station → Report → ℕ
  own s r = form_answer r ▷ place_answer s r ▷ state_answer s r

  report_own : (s : Station) (r : Report) → append_answer b k s.settings ≡ 0 → answer_of s r ≡ own s r
  unfolding answer_of settings_answer ◌if◌then◌ ◌▷◌
  report_own s r z = ap (λ (t : Bool). cond (not t) 8 0 ▷ own s r) (append_within s.settings z)

  abbrev fit : Settings → Settings → List Row
  fit c d =
      8 on isnt (within_limits c) or isnt (within_limits d) or isnt (same_settings c d)
      ∷ 12 on at_most 8190 k or below (length b) (16 + 8 * (k + 1))
      ∷ []

  pub stated_appending : (s : Station) (r : Report) → GivenExactly (of_appending b k s r) (appended b k s r).answer
  unfolding appended append_answer head_answer form_answer place_answer state_answer
  stated_appending s r =
      subst (GivenExactly (of_appending b k s r))
      (same_order _ _ (own s r) (answer_of s r) refl (λ z. sym (report_own s r z)))
      (exactly ((head b before group (fit (settings_in b) s.settings)) before report s r) refl)

-- ---- reading, stepping and handing back

module _ (b : List ℕ) where
  abbrev register : Tests
  register =
      head b
      before group (11 on unequal ((length b - 16) % 8) 0 ∷ 12 on below 8190 (entries b) ∷ [])
      before limits (within_limits (settings_in b))

  -- an entry is named where some entry is wrong
  some_wrong : (n : ℕ) → (first_wrong b n ≡ 0 → ⊥) → SomeWrong b n
  some_wrong n h = go (first_wrong b n) refl
    where
      go : (m : ℕ) → first_wrong b n ≡ m → SomeWrong b n
      go zero e = absurd (h e)
      go (suc j) e = let named = names_first b n j e in (j, named.0, named.1)

  pub wrong_named : (n : ℕ) → SomeWrong b n → first_wrong b n ≡ 0 → ⊥
  wrong_named n w e = true≢false (sym (none_wrong b n e w.0 w.1) ∙ w.2)

  abbrev replayed : ℕ → Row
  replayed n = 13 on in_words (unequal (first_wrong b n) 0) (some_wrong n) (wrong_named n)

  pub stated_reading : GivenExactly (of_reading b) (read_of b).answer
  unfolding read_of reading_of read_answer register_answer head_answer length_answer settings_answer
  stated_reading = exactly (register before group (replayed (entries b) ∷ [])) refl

  pub stated_stepping : (k : ℕ) → GivenExactly (of_stepping b k) (step_of b k).answer
  unfolding step_of reading_of step_answer register_answer head_answer length_answer settings_answer
  stated_stepping k =
      exactly (register before group (14 on below (entries b) k ∷ []) before group (replayed k ∷ [])) refl

  pub stated_handing_back : (k : ℕ) → GivenExactly (of_handing_back b k) (entry_answer b k)
  unfolding entry_answer register_answer head_answer length_answer settings_answer
  stated_handing_back k = exactly (register before group (14 on equal k 0 or below (entries b) k ∷ [])) refl

-- ---- all of them

pub as_stated : AsStated
unfolding taken made
as_stated =
    record {
      report = stated_report;
      report_asked = stated_report;
      settings = stated_settings;
      settings_asked = stated_settings;
      advance = stated_advance;
      warning = stated_warning;
      starting = stated_starting;
      appending = stated_appending;
      reading = stated_reading;
      handing_back = stated_handing_back;
      stepping = stated_stepping;
      receiving = stated_receiving;
      writing = stated_writing;
    }
