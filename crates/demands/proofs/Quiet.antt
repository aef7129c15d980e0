-- Demand 3, stated in specs/Quiet: no lamp is stuck. On a reached station a quiet list of reports does what
-- its ticks do, one after the other, but for the head conditions; and what so many ticks come to is said of
-- each part in `clock/proofs/Settling`.
-- Assumes nothing.
use Prim.Native.Nat.{ℕ, zero, suc, ◌+◌, ◌≤◌}
use native.Mathlib.Omega.{arith}
use mathlib.Core.Path.{◌≡◌, refl, sym, ap, ap₂, ◌∙◌}
use mathlib.Core.Bool.{Bool, true, false, cond, not, ◌&&◌, ◌||◌, false≢true}
use mathlib.Core.List.{List, [], ◌∷◌, ◌++◌, map}
use borrow.Author.Tests.{eq-eqb, eqb-true, le-ltb, leb-true}
use lib.Dec.{leb, ltb}
use Rattle.chains.proofs.Chains.{both}
use Rattle.clock.proofs.Settled.{all_held_then, no_advance_then, no_near_then, occupied_still, occupied_still_in}
use Rattle.clock.proofs.Settling.{fault_then, hold_falls, no_risk_then, ticks_add}
use Rattle.clock.proofs.Settling.{ticks_conditions, ticks_live, ticks_settings}
use Rattle.clock.specs.Ages.{later_track}
use Rattle.demands.proofs.ApartLaws.{aspect_in, refused_keeps}
use Rattle.demands.proofs.Reached.{Kept, kept_after, reached_keeps}
use Rattle.demands.specs.Quiet.{NotStuck, Quiet, Reached, accepted, after_all, clock_gone, greatest}
use Rattle.demands.specs.Quiet.{is_clock, is_head, long_enough, settled, warning_occupied}
use Rattle.islands.proofs.Below.{any_alike, any_map, any_none}
use Rattle.islands.proofs.UpperLimits.{timers}
use Rattle.reports.proofs.FiveIslands.{Five, five_take}
use Rattle.reports.proofs.Taking.{after_accepted, meant}
use Rattle.rules.specs.Answers.{answer_of, station_after}
use Rattle.rules.specs.Aspect.{aspect_of, fresh_advance, fresh_near, greatest_risk, some_held}
use Rattle.rules.specs.Kinds.{clock, head_condition, kind_of}
use Rattle.rules.specs.Reports.{acted, hold_set, ticks}
use Rattle.rules.specs.Station.{Zone, advance, crossing, is_warning, live, some_occupied, timer, warning}
use Rattle.rules.specs.Station.{with_condition, with_conditions, with_hold, within_limits}
use Rattle.rules.specs.Words.{any, within, ◌if◌then◌}
use Rattle.rules.specs.declared.Report.{Report}
use Rattle.rules.specs.declared.Settings.{Settings}
use Rattle.rules.specs.declared.Station.{Station}
use Rattle.rules.specs.declared.Track.{Track}

-- ---- a quiet list of reports does what its ticks do

-- the station after n ticks, but for its head conditions
abbrev AsTicks : Station → ℕ → Station → Type 0
AsTicks s n t = t ≡ with_conditions (ticks n s) t.conditions

then_ticks : (s t u : Station) (n m : ℕ) → AsTicks s n t → AsTicks t m u → AsTicks s (n + m) u
then_ticks s t u n m e f =
    f
    ∙ ap (λ (v : Station). with_conditions v u.conditions)
    (ap (ticks m) e ∙ ticks_conditions m (ticks n s) t.conditions)
    ∙ ap (λ (v : Station). with_conditions v u.conditions) (ticks_add n m s)

-- a hold that is full stays as it is where it is set again
set_again : (s : Station) → (greatest_risk s ≡ true → s.hold ≡ s.settings.t4) → hold_set s ≡ s
unfolding hold_set
set_again s full = ap (with_hold s) (same (greatest_risk s) refl)
  where
    same : (b : Bool) → greatest_risk s ≡ b → cond b s.settings.t4 s.hold ≡ s.hold
    same true q = sym (full q)
    same false q = refl

-- A head report changes neither islands nor fault: the condition reported is all that it changes.
pub head_changes : (s : Station) (r : Report) → Kept s → acted head_condition s r ≡ with_condition s r.a r.value
unfolding acted with_condition greatest_risk
head_changes s r k = set_again (with_condition s r.a r.value) k.full

module _ (s : Station) (r : Report) (k : Kept s) where
  as_accepted : answer_of s r ≡ 0 → (n : ℕ) → r.kind ≡ n → station_after s r ≡ acted (kind_of n) s r
  as_accepted z n e = after_accepted s r z ∙ meant s r e

  unchanged : station_after s r ≡ s → AsTicks s 0 (station_after s r)
  unfolding ticks
  unchanged e = e ∙ ap (λ (t : Station). with_conditions s t.conditions) (sym e)

  as_clock : station_after s r ≡ acted clock s r → AsTicks s r.value (station_after s r)
  unfolding acted
  as_clock e = e ∙ ap (λ (t : Station). with_conditions (ticks r.value s) t.conditions) (sym e)

  as_head : station_after s r ≡ acted head_condition s r → AsTicks s 0 (station_after s r)
  unfolding ticks with_condition
  as_head e = let g = e ∙ head_changes s r k in g ∙ ap (λ (t : Station). with_conditions s t.conditions) (sym g)

  as_ticks : not (accepted s r) || is_clock r || is_head r ≡ true
      → AsTicks s (cond (accepted s r && is_clock r) r.value 0) (station_after s r)
  unfolding kind_of
  as_ticks = go (accepted s r) refl (is_clock r) refl (is_head r) refl
    where
      go : (a : Bool) → accepted s r ≡ a → (c : Bool) → is_clock r ≡ c → (h : Bool) → is_head r ≡ h
          → not a || c || h ≡ true
          → AsTicks s (cond (a && c) r.value 0) (station_after s r)
      go false ea c ec h eh e = unchanged (refused_keeps s r (λ z. false≢true (sym ea ∙ eq-eqb (answer_of s r) 0 z)))
      go true ea true ec h eh e = as_clock (as_accepted (eqb-true (answer_of s r) 0 ea) 3 (eqb-true r.kind 3 ec))
      go true ea false ec true eh e = as_head (as_accepted (eqb-true (answer_of s r) 0 ea) 6 (eqb-true r.kind 6 eh))
      go true ea false ec false eh e = absurd (false≢true e)

pub quiet_is_clock : (rs : List Report) (s : Station) → Kept s → Quiet s rs ≡ true
    → AsTicks s (clock_gone s rs) (after_all s rs)
unfolding after_all Quiet clock_gone ticks
quiet_is_clock [] s k q = refl
quiet_is_clock (r ∷ rs) s k q =
    let (now, later) = both (not (accepted s r) || is_clock r || is_head r) (Quiet (station_after s r) rs) q in
    then_ticks s (station_after s r) (after_all (station_after s r) rs) (cond (accepted s r && is_clock r) r.value 0)
    (clock_gone (station_after s r) rs) (as_ticks s r k now)
    (quiet_is_clock rs (station_after s r) (kept_after s r k) later)

-- ---- so many ticks settle the aspect

-- the limits' upper ends, and that T5 is above 0
module _ (c : Settings) (w : within_limits c ≡ true) where
  limits : ((z : Zone) → timer c z ≤ 65535) × (c.t5 ≤ 65535) × (1 ≤ c.t5)
  unfolding within_limits
  limits =
      let (six, above) = both _ (ltb c.t2 c.t5) w in
      let (five, t5) = both _ _ six in
      let (four, t4) = both _ (within 0 65535 c.t4) five in
      let (three, t3) = both _ _ four in
      let (two, t2) = both _ _ three in
      let (one, t1) = both (within 1 4 c.tracks) _ two in
      (timers c (upper t1) (upper t2) (upper t3), upper t5, lower t5)
    where
      upper : {m : ℕ} → leb 1 m && leb m 65535 ≡ true → m ≤ 65535
      upper {m} e = leb-true m 65535 (both (leb 1 m) (leb m 65535) e).1

      lower : {m : ℕ} → leb 1 m && leb m 65535 ≡ true → 1 ≤ m
      lower {m} e = leb-true 1 m (both (leb 1 m) (leb m 65535) e).0

module _ (c : Settings) (n : ℕ) (limit : (z : Zone) → timer c z ≤ 65535) (long : (z : Zone) → timer c z ≤ n) where
  held_then : (l : List Track) → Five l → any (some_held c) (map (later_track n) l) ≡ any some_occupied l
  unfolding Five
  held_then [] f = refl
  held_then (t ∷ l) f = ap₂ ◌||◌ (all_held_then c n t limit long f.0) (held_then l f.1)

settled_then : (s : Station) → Kept s → (n : ℕ) → long_enough s.settings ≤ n
    → aspect_of (ticks n s) ≡ settled s.fault s
unfolding aspect_of ◌if◌then◌
settled_then s k zero long =
    let over : 1 ≤ s.settings.t5 = (limits s.settings k.shape.within).2 in
    let none : ⊥ = omega arith in
    absurd none
settled_then s k (suc m) long =
    (λ i. aspect_in (ticks_settings n s i) (ticks_live n s i) (fault i) (at_rest i))
    ∙ λ i.
    5 if not (k.shape.within i) then
    5 if s.fault || any warning_occupied (live s) then
    2 if none (fresh_near c) (λ t. no_near_then c n t limit reached) i then
    1 if none (fresh_advance c) (λ t. no_advance_then c n t limit reached) i then
    4 if held_then c n limit reached (live s) (five_take c.tracks s.tracks k.shape.five) i then
    0
  where
    n : ℕ
    n = suc m

    c : Settings
    c = s.settings

    limit : (z : Zone) → timer c z ≤ 65535
    limit = (limits c k.shape.within).0

    slowest : (z : Zone) → timer c z ≤ greatest c
    slowest advance = omega arith
    slowest warning = omega arith
    slowest crossing = omega arith

    reached : (z : Zone) → timer c z ≤ n
    reached z = omega (arith, slowest z, long)

    fault : (ticks n s).fault ≡ s.fault || any warning_occupied (live s)
    fault = fault_then s (limits c k.shape.within).1 m (omega (arith, long))

    at_rest : greatest_risk (ticks n s) || ltb 0 (ticks n s).hold ≡ false
    at_rest =
        ap₂ ◌||◌ (no_risk_then s limit n reached)
        (le-ltb 0 (ticks n s).hold (omega (arith, long, hold_falls s limit (greatest c) slowest k.most n)))

    none : (p : Track → Bool) → ((t : Track) → p (later_track n t) ≡ false) →
        any p (map (later_track n) (live s)) ≡ false
    none p e = any_map (later_track n) p (live s) ∙ any_none (λ t. p (later_track n t)) e (live s)

-- no tick occupies or frees an island
settled_still : (s : Station) (n : ℕ) (latched : Bool) → settled latched (ticks n s) ≡ settled latched s
settled_still s n latched =
    λ i.
    5 if latched || still warning_occupied (λ t. occupied_still_in n t is_warning) i then
    4 if still some_occupied (λ t. occupied_still n t) i then
    0
  where
    still : (p : Track → Bool) → ((t : Track) → p (later_track n t) ≡ p t) → any p (live (ticks n s)) ≡ any p (live s)
    still p e =
        ap (any p) (ticks_live n s)
        ∙ any_map (later_track n) p (live s)
        ∙ any_alike (λ t. p (later_track n t)) p e (live s)

-- ---- demand 3

gone_more : (rs more : List Report) (s : Station) → clock_gone s rs ≤ clock_gone s (rs ++ more)
unfolding clock_gone
gone_more [] more s = omega arith
gone_more (r ∷ rs) more s = omega (arith, gone_more rs more (station_after s r))

quiet_first : (rs more : List Report) (s : Station) → Quiet s (rs ++ more) ≡ true → Quiet s rs ≡ true
unfolding Quiet
quiet_first [] more s q = refl
quiet_first (r ∷ rs) more s q =
    let (now, later) = both (not (accepted s r) || is_clock r || is_head r) (Quiet (station_after s r) (rs ++ more)) q
    in
    ap₂ ◌&&◌ now (quiet_first rs more (station_after s r) later)

module _ (s : Station) (k : Kept s) (rs : List Report) (q : Quiet s rs ≡ true)
    (long : long_enough s.settings ≤ clock_gone s rs) where
  -- the head conditions are not read
  aspect_at_last : aspect_of (after_all s rs) ≡ settled s.fault s
  unfolding aspect_of greatest_risk
  aspect_at_last = ap aspect_of (quiet_is_clock rs s k q) ∙ settled_then s k (clock_gone s rs) long

  settled_at_last : settled s.fault (after_all s rs) ≡ settled s.fault s
  settled_at_last = ap (settled s.fault) (quiet_is_clock rs s k q) ∙ settled_still s (clock_gone s rs) s.fault

pub no_lamp_stuck : (s : Station) → Reached s → NotStuck s
no_lamp_stuck s reached =
    record {
      settles = λ rs q long. aspect_at_last s k rs q long ∙ sym (settled_at_last s k rs q long);
      stays = λ rs more q long.
          aspect_at_last s k (rs ++ more) q (omega (arith, long, gone_more rs more s))
          ∙ sym (aspect_at_last s k rs (quiet_first rs more s q) long);
    }
  where
    k : Kept s
    k = reached_keeps s reached
