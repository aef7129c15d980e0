-- What n ticks come to for a station: its live tracks n ticks later; a hold that has fallen for every tick
-- since each timer was reached; a fault that is latched from T5 on where a warning island is occupied. n
-- may be any number: clock reports add up.
-- Assumes nothing.
use Prim.Native.Nat.{ℕ, zero, suc, ◌+◌, ◌-◌, ◌≤◌, ◌<◌}
use native.Mathlib.Decide.{dec_le}
use native.Mathlib.Nat.{add-suc, add-zero, lt_of_not-le}
use native.Mathlib.Omega.{arith}
use mathlib.Core.Path.{◌≡◌, refl, sym, ap, ap₂, subst, ◌∙◌}
use mathlib.Core.Bool.{Bool, true, false, cond, not, ◌&&◌, ◌||◌, or_assoc}
use mathlib.Core.List.{List, map}
use borrow.Author.Tests.{ltb-true, ltb-false}
use lib.Dec.{leb, ltb}
use Rattle.clock.proofs.Ages.{tracks_now, tracks_older}
use Rattle.clock.proofs.Settled.{late_at_last, late_if_occupied, no_fresh_then, occupied_in}
use Rattle.clock.specs.Ages.{later_track}
use Rattle.islands.proofs.Below.{any_alike, any_map, any_none, any_only, changed_take}
use Rattle.rules.specs.Aspect.{greatest_risk, present, some_fresh}
use Rattle.rules.specs.Reports.{all_older, fault_latched, hold_lowered, hold_set, late, older_track, tick, ticks}
use Rattle.rules.specs.Station.{Zone, is_warning, live, timer, with_conditions}
use Rattle.rules.specs.Words.{any, count}
use Rattle.rules.specs.declared.Settings.{Settings}
use Rattle.rules.specs.declared.Station.{Station}
use Rattle.rules.specs.declared.Track.{Track}

-- ---- ticks add up, and read no head condition

-- n ticks and then m are n + m
pub ticks_add : (n m : ℕ) (s : Station) → ticks m (ticks n s) ≡ ticks (n + m) s
unfolding ticks
ticks_add n zero s = ap (λ (k : ℕ). ticks k s) (sym (add-zero n))
ticks_add n (suc m) s = ap tick (ticks_add n m s) ∙ ap (λ (k : ℕ). ticks k s) (sym (add-suc n m))

pub ticks_conditions : (n : ℕ) (s : Station) (l : List ℕ) →
    ticks n (with_conditions s l) ≡ with_conditions (ticks n s) l
unfolding ticks tick hold_set fault_latched all_older hold_lowered greatest_risk
ticks_conditions zero s l = refl
ticks_conditions (suc n) s l = ap tick (ticks_conditions n s l)

-- ---- settings and tracks

pub ticks_settings : (n : ℕ) (s : Station) → (ticks n s).settings ≡ s.settings
unfolding ticks tick hold_set fault_latched all_older hold_lowered
ticks_settings zero s = refl
ticks_settings (suc n) s = ticks_settings n s

pub ticks_live : (n : ℕ) (s : Station) → live (ticks n s) ≡ map (later_track n) (live s)
unfolding ticks tick hold_set fault_latched all_older hold_lowered
ticks_live zero s = sym (tracks_now (live s))
ticks_live (suc n) s =
    changed_take older_track (ticks n s).settings.tracks (ticks n s).tracks ∙ ap (map older_track) (ticks_live n s)
    ∙ tracks_older n (live s)

-- ---- the condition and the hold

-- the hold after a tick: by the condition before it and after it
falls : (before after : Bool) (t4 hold n slow : ℕ) → hold ≤ t4 - (n - slow) → (slow ≤ n → before ≡ false)
    → (slow ≤ n → after ≡ false)
    → cond after t4 (cond (not before && ltb 0 hold) (hold - 1) hold) ≤ t4 - (suc n - slow)
falls before after t4 hold n slow h b a = go (dec_le slow n)
  where
    lowered : (l : Bool) → ltb 0 hold ≡ l → slow ≤ n → cond l (hold - 1) hold ≤ t4 - (suc n - slow)
    lowered true e k = let up : 0 < hold = ltb-true 0 hold e in omega arith
    lowered false e k = let none : hold ≤ 0 = ltb-false 0 hold e in omega arith

    either : (p q l : Bool) → n < slow → cond q t4 (cond (not p && l) (hold - 1) hold) ≤ t4 - (suc n - slow)
    either p true l k = omega arith
    either true false l k = omega arith
    either false false true k = omega arith
    either false false false k = omega arith

    go : Dec (slow ≤ n) → cond after t4 (cond (not before && ltb 0 hold) (hold - 1) hold) ≤ t4 - (suc n - slow)
    go (yes k) =
        subst (λ (v : ℕ). v ≤ t4 - (suc n - slow))
        (sym (ap₂ (λ (p q : Bool). cond q t4 (cond (not p && ltb 0 hold) (hold - 1) hold)) (b k) (a k)))
        (lowered (ltb 0 hold) refl k)
    go (no k) = either before after (ltb 0 hold) (lt_of_not-le k)

module _ (s : Station) where
  abbrev c : Settings
  c = s.settings

  module _ (limit : (z : Zone) → timer c z ≤ 65535) where
    -- The condition, once every island is held, stays false.
    pub no_risk_then : (n : ℕ) → ((z : Zone) → timer c z ≤ n) → greatest_risk (ticks n s) ≡ false
    unfolding greatest_risk
    no_risk_then n long =
        ap (λ (b : Bool). b && leb 2 (count (present (ticks n s).settings) (live (ticks n s))))
        (ap₂ (λ (d : Settings) (l : List Track). any (some_fresh d) l) (ticks_settings n s) (ticks_live n s)
        ∙ any_map (later_track n) (some_fresh c) (live s)
        ∙ any_none _ (λ t. no_fresh_then c n t limit long) (live s))

    -- It falls by one at each tick since.
    pub hold_falls : (slow : ℕ) → ((z : Zone) → timer c z ≤ slow) → s.hold ≤ c.t4 → (n : ℕ)
        → (ticks n s).hold ≤ c.t4 - (n - slow)
    unfolding ticks tick hold_set fault_latched all_older hold_lowered greatest_risk
    hold_falls slow long h zero = omega (arith, h)
    hold_falls slow long h (suc n) =
        subst (λ (d : Settings). cond (greatest_risk (ticks (suc n) s)) d.t4 (cond (not (greatest_risk (ticks n s))
        && ltb 0 (ticks n s).hold) ((ticks n s).hold - 1) (ticks n s).hold) ≤ c.t4 - (suc n - slow))
        (sym (ticks_settings n s))
        (falls (greatest_risk (ticks n s)) (greatest_risk (ticks (suc n) s)) c.t4 (ticks n s).hold n slow
        (hold_falls slow long h n)
        (λ k. no_risk_then n (λ z. omega (arith, long z, k)))
        (λ k. no_risk_then (suc n) (λ z. omega (arith, long z, k))))

-- ---- the fault

module _ (s : Station) where
  -- the live tracks whose ages a tick tests
  late_after : (n : ℕ) → any (late (ticks n s).settings) (live (ticks (suc n) s))
      ≡ any (λ t. late s.settings (later_track (suc n) t)) (live s)
  late_after n =
      ap₂ (λ (d : Settings) (l : List Track). any (late d) l) (ticks_settings n s) (ticks_live (suc n) s)
      ∙ any_map (later_track (suc n)) (late s.settings) (live s)

  -- n ticks later the fault is latched only where it was, or where a warning island is occupied,
  fault_only : (n : ℕ)
      → (ticks n s).fault || any (occupied_in is_warning) (live s) ≡ s.fault || any (occupied_in is_warning) (live s)
  unfolding ticks tick hold_set fault_latched all_older hold_lowered
  fault_only zero = refl
  fault_only (suc n) =
      ap (λ (b : Bool). (ticks n s).fault || b || any (occupied_in is_warning) (live s)) (late_after n)
      ∙ or_assoc (ticks n s).fault _ _
      ∙ ap (λ (b : Bool). (ticks n s).fault || b) (any_only _ _ (λ t. late_if_occupied s.settings (suc n) t) (live s))
      ∙ fault_only n

  -- and from T5 on it is.
  pub fault_then : s.settings.t5 ≤ 65535 → (n : ℕ) → s.settings.t5 ≤ suc n
      → (ticks (suc n) s).fault ≡ s.fault || any (occupied_in is_warning) (live s)
  unfolding ticks tick hold_set fault_latched all_older hold_lowered
  fault_then limit n long =
      ap (λ (b : Bool). (ticks n s).fault || b) (late_after n
      ∙ any_alike _ _ (λ t. late_at_last s.settings (suc n) t limit long) (live s)) ∙ fault_only n
