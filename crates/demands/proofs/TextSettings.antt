-- The settings of a planner's text with nothing wrong: each is given once, and is the number on its line.
-- Assumes nothing.
use Prim.Native.Nat.{ℕ, zero, suc, ◌<◌}
use native.Mathlib.Omega.{arith}
use mathlib.Core.Path.{◌≡◌, refl, sym, ap, ◌∙◌}
use mathlib.Core.Bool.{Bool, true, false, false≢true, cond, not, ◌&&◌}
use mathlib.Core.List.{List, [], ◌∷◌}
use borrow.Author.Tests.{eqb-false, eqb-true, ltb-true, not-false}
use lib.Dec.{eqb}
use lib.ListN.{get_or, get_or-replicate, length, length-set, set}
use lib.Seq.{get_or-set_other, get_or-set_same}
use Rattle.chains.proofs.Chains.{both_done, passed}
use Rattle.demands.specs.RecordedBack.{Named, line_at, number_said, setting_named}
use Rattle.demands.specs.Texts.{lines_of}
use Rattle.plan_texts.proofs.TextUnderstood.{by_kind, line_passed}
use Rattle.rules.specs.Words.{any}
use Rattle.rules.specs.declared.Report.{Report}
use Rattle.rules.specs.declared.Settings.{Settings}
use Rattle.rules_plan.specs.Faults.{all_given, given_already, nothing_said, with_line, with_setting}
use Rattle.rules_plan.specs.Faults.{checked, checked_from, line_fault}
use Rattle.rules_plan.specs.Lines.{is_report, is_setting, line_of}
use Rattle.rules_plan.specs.declared.Checked.{Checked}
use Rattle.rules_plan.specs.declared.Line.{Line}
use Rattle.rules_plan.specs.declared.Said.{Said}

-- ---- one line

abbrev listed : Settings → List ℕ
listed c = c.tracks ∷ c.t1 ∷ c.t2 ∷ c.t3 ∷ c.t4 ∷ c.t5 ∷ []

-- One of the settings is as the line has it, by its place.
one_set : (c : Settings) (name fault : ℕ) (numbers : Report) → name < 6
    → listed (with_setting c (record { name = name; fault = fault; numbers = numbers }))
    ≡ set (listed c) name (cond (eqb name 0) numbers.a numbers.value)
unfolding with_setting
one_set c zero fault r h = refl
one_set c (suc zero) fault r h = refl
one_set c (suc (suc zero)) fault r h = refl
one_set c (suc (suc (suc zero))) fault r h = refl
one_set c (suc (suc (suc (suc zero)))) fault r h = refl
one_set c (suc (suc (suc (suc (suc zero))))) fault r h = refl
one_set c (suc (suc (suc (suc (suc (suc n)))))) fault r h = let z : ⊥ = omega arith in absurd z

-- A setting has been given, and is this number.
record Has (s : Said) (name value : ℕ) : Type 0 where
  given : get_or s.given name false ≡ true
  value_is : setting_named s.settings name ≡ value

module _ (s : Said) (l : Line) where
  set_here : is_setting l ≡ true
      → listed (with_setting s.settings l) ≡ set (listed s.settings) l.name (number_said l)
  set_here e = one_set s.settings l.name l.fault l.numbers (ltb-true l.name 6 e)

  as_many_given : length (with_line s l).given ≡ length s.given
  unfolding with_line
  as_many_given = go (is_setting l)
    where
      go : (t : Bool) → length (by_kind s l t (is_report l)).given ≡ length s.given
      go true = length-set s.given l.name true
      go false = refl

  -- A line that is understood gives no setting that has been given,
  stays : (name value : ℕ) → line_fault s l ≡ 0 → Has s name value → Has (with_line s l) name value
  unfolding line_fault with_line
  stays name value e h = go (is_setting l) refl (passed 6 _ _ (passed 5 _ _ (both_done l.fault _ e).1).1).0
    where
      go : (t : Bool) → is_setting l ≡ t → (t && given_already s l) ≡ false →
          Has (by_kind s l t (is_report l)) name value
      go true q fresh =
          let at : ℕ → Bool = λ n. get_or s.given n false in
          let other : name ≡ l.name → ⊥ = λ q. false≢true (sym fresh ∙ ap at (sym q) ∙ h.given) in
          record {
            given = get_or-set_other s.given l.name name true false other ∙ h.given;
            value_is =
                ap (λ (c : List ℕ). get_or c name 0) (set_here q)
                ∙ get_or-set_other (listed s.settings) l.name name (number_said l) 0 other
                ∙ h.value_is;
          }
      go false q fresh = record { given = h.given; value_is = h.value_is }

  -- it gives the one that it names,
  gives : length s.given ≡ 6 → is_setting l ≡ true → Has (with_line s l) l.name (number_said l)
  unfolding with_line
  gives size e = go (is_setting l) e
    where
      go : (t : Bool) → t ≡ true → Has (by_kind s l t (is_report l)) l.name (number_said l)
      go true q =
          let place : l.name < 6 = ltb-true l.name 6 e in
          record {
            given = get_or-set_same s.given l.name true false (omega arith);
            value_is =
                ap (λ (c : List ℕ). get_or c l.name 0) (set_here e)
                ∙ get_or-set_same (listed s.settings) l.name (number_said l) 0 place;
          }
      go false q = absurd (false≢true q)

  -- and no other.
  still_missing : (name : ℕ) → (l.name ≡ name → ⊥) → get_or s.given name false ≡ false
      → get_or (with_line s l).given name false ≡ false
  unfolding with_line
  still_missing name other h = go (is_setting l)
    where
      go : (t : Bool) → get_or (by_kind s l t (is_report l)).given name false ≡ false
      go true = get_or-set_other s.given l.name name true false (λ q. other (sym q)) ∙ h
      go false = h

-- ---- line by line

stays_from : (line : ℕ) (s : Said) (ls : List (List ℕ)) (name value : ℕ) → (checked_from line s ls).fault ≡ 0
    → Has s name value
    → setting_named (checked_from line s ls).said.settings name ≡ value
unfolding checked_from
stays_from line s [] name value e h = h.value_is
stays_from line s (l ∷ ls) name value e h =
    let on = line_passed line s l ls e in
    let next = with_line s (line_of l) in
    ap (λ (c : Checked). setting_named c.said.settings name) on.on
    ∙ stays_from (suc line) next ls name value on.rest (stays s (line_of l) name value on.first h)

said_from_lem : (line : ℕ) (s : Said) (ls : List (List ℕ)) (k : ℕ) → length s.given ≡ 6
    → (checked_from line s ls).fault ≡ 0
    → k < length ls
    → is_setting (line_at ls k) ≡ true
    → setting_named (checked_from line s ls).said.settings (line_at ls k).name ≡ number_said (line_at ls k)
said_from_lem line s [] k size e h f = let z : ⊥ = omega arith in absurd z
said_from_lem line s (l ∷ ls) zero size e h f =
    let on = line_passed line s l ls e in
    let found = line_of l in
    ap (λ (c : Checked). setting_named c.said.settings found.name) on.on
    ∙ stays_from (suc line) (with_line s found) ls found.name (number_said found) on.rest (gives s found size f)
said_from_lem line s (l ∷ ls) (suc k) size e h f =
    let on = line_passed line s l ls e in
    let found = line_at ls k in
    let as_many = as_many_given s (line_of l) ∙ size in
    ap (λ (c : Checked). setting_named c.said.settings found.name) on.on
    ∙ said_from_lem (suc line) (with_line s (line_of l)) ls k as_many on.rest (omega arith) f

-- Where all have been given, each has.
each_given : (given : List Bool) (name : ℕ) → name < length given → not (any not given) ≡ true
    → get_or given name false ≡ true
each_given [] name h e = let z : ⊥ = omega arith in absurd z
each_given (true ∷ given) zero h e = refl
each_given (true ∷ given) (suc name) h e = each_given given name (omega arith) e
each_given (false ∷ given) name h e = absurd (false≢true e)

given_from : (line : ℕ) (s : Said) (ls : List (List ℕ)) (name : ℕ) → length s.given ≡ 6
    → (checked_from line s ls).fault ≡ 0
    → name < 6
    → get_or s.given name false ≡ false
    → Named ls name
unfolding checked_from all_given
given_from line s [] name size e h missing =
    let all = not-false (all_given s) (passed 10 (not (all_given s)) 0 e).0 in
    absurd (false≢true (sym missing ∙ each_given s.given name (omega arith) all))
given_from line s (l ∷ ls) name size e h missing =
    let on = line_passed line s l ls e in
    let as_many = as_many_given s (line_of l) ∙ size in
    go (eqb (line_of l).name name) refl (given_from (suc line) (with_line s (line_of l)) ls name as_many on.rest h)
  where
    go : (t : Bool) → eqb (line_of l).name name ≡ t
        → (get_or (with_line s (line_of l)).given name false ≡ false → Named ls name)
        → Named (l ∷ ls) name
    go true q more = record { place = 0; within = omega arith; named = eqb-true (line_of l).name name q }
    go false q more =
        let found = more (still_missing s (line_of l) name (eqb-false (line_of l).name name q) missing) in
        record { place = suc found.place; within = omega (arith, found.within); named = found.named }

-- ---- a text

module _ (text : List ℕ) (fine : (checked text).fault ≡ 0) where
  pub settings_said_lem : (k : ℕ) → k < length (lines_of text) → is_setting (line_at (lines_of text) k) ≡ true
      → setting_named (checked text).said.settings (line_at (lines_of text) k).name
      ≡ number_said (line_at (lines_of text) k)
  unfolding checked nothing_said
  settings_said_lem k h e = said_from_lem 1 nothing_said (lines_of text) k refl fine h e

  pub settings_given_lem : (name : ℕ) → name < 6 → Named (lines_of text) name
  unfolding checked nothing_said
  settings_given_lem name h = given_from 1 nothing_said (lines_of text) name refl fine h
      (get_or-replicate 6 name false false h)
