-- What every station keeps that is reached from a fresh one: a hold of at most T4, and of T4
-- where the condition is true.
-- Assumes nothing.
use Prim.Native.Nat.{ℕ, zero, suc, ◌-◌, ◌≤◌}
use native.Mathlib.Omega.{arith}
use mathlib.Core.Path.{◌≡◌, refl, sym, ap, ap₂, subst, ◌∙◌}
use mathlib.Core.Bool.{Bool, true, false, cond, not, ◌&&◌, ◌||◌, false≢true}
use mathlib.Core.List.{List, [], ◌∷◌}
use lib.Dec.{leb, ltb}
use lib.ListN.{replicate, take}
use Rattle.chains.proofs.Chains.{neither}
use Rattle.demands.specs.Quiet.{Reached, after_all}
use Rattle.reports.proofs.Accepted.{after_any}
use Rattle.reports.proofs.Shape.{Shaped, shaped_fresh, shaped_named, shaped_older}
use Rattle.rules.specs.Answers.{station_after}
use Rattle.rules.specs.Aspect.{greatest_risk, present, some_fresh}
use Rattle.rules.specs.Kinds.{Kind, clock, detector_failed, detector_restored, head_condition}
use Rattle.rules.specs.Kinds.{island_free, island_occupied, kind_of, no_kind, normalise}
use Rattle.rules.specs.Reports.{acted, all_older, fault_latched, hold_lowered, hold_set, tick, ticks, with_named}
use Rattle.rules.specs.Station.{free_track, fresh_station, with_condition, with_fault, with_track, within_limits}
use Rattle.rules.specs.Words.{any, count, within}
use Rattle.rules.specs.declared.Island.{Island}
use Rattle.rules.specs.declared.Report.{Report}
use Rattle.rules.specs.declared.Settings.{Settings}
use Rattle.rules.specs.declared.Station.{Station}

-- The hold never exceeds T4, and is T4 where the condition is true.
pub record Kept (s : Station) : Type 0 where
  pub shape : Shaped s
  pub most : s.hold ≤ s.settings.t4
  pub full : greatest_risk s ≡ true → s.hold ≡ s.settings.t4

-- once the hold is set it is full where the condition is true
kept_set : (s : Station) → Shaped s → s.hold ≤ s.settings.t4 → Kept (hold_set s)
unfolding hold_set greatest_risk
kept_set s w h = record {
  shape = w;
  most = most (greatest_risk s);
  full = λ e. ap (λ (b : Bool). cond b s.settings.t4 s.hold) e;
}
  where
    most : (b : Bool) → cond b s.settings.t4 s.hold ≤ s.settings.t4
    most true = omega arith
    most false = h

kept_tick : (s : Station) → Kept s → Kept (tick s)
unfolding tick fault_latched all_older hold_lowered
kept_tick s k =
    kept_set (fault_latched (all_older (hold_lowered s))) (shaped_older s k.shape)
    (lower (not (greatest_risk s) && ltb 0 s.hold))
  where
    lower : (b : Bool) → cond b (s.hold - 1) s.hold ≤ s.settings.t4
    lower true = omega (arith, k.most)
    lower false = k.most

kept_ticks : (n : ℕ) (s : Station) → Kept s → Kept (ticks n s)
unfolding ticks
kept_ticks zero s k = k
kept_ticks (suc n) s k = kept_tick (ticks n s) (kept_ticks n s k)

kept_named : (s : Station) (r : Report) (i : Island) (fault : Bool) → Kept s
    → Kept (hold_set (with_fault (with_named s r i) fault))
unfolding with_track
kept_named s r i fault k = kept_set _ (shaped_named s r i k.shape) k.most

kept_acted : (s : Station) (r : Report) (k : Kind) → Kept s → Kept (acted k s r)
unfolding acted with_track with_condition
kept_acted s r island_occupied k = kept_named s r _ s.fault k
kept_acted s r island_free k = kept_named s r _ s.fault k
kept_acted s r clock k = kept_ticks r.value s k
kept_acted s r detector_failed k = kept_named s r _ true k
kept_acted s r detector_restored k = kept_named s r _ s.fault k
kept_acted s r head_condition k = kept_set _ k.shape k.most
kept_acted s r normalise k = kept_set _ k.shape (omega arith)
kept_acted s r no_kind k = k

pub kept_after : (s : Station) (r : Report) → Kept s → Kept (station_after s r)
kept_after s r k = after_any Kept s r k (λ _. kept_acted s r (kind_of r.kind) k)

kept_all : (rs : List Report) (s : Station) → Kept s → Kept (after_all s rs)
unfolding after_all
kept_all [] s k = k
kept_all (r ∷ rs) s k = kept_all rs (station_after s r) (kept_after s r k)

none_of_few : {A : Type 0} (p : A → Bool) (n : ℕ) (l : List A) → any p l ≡ false → any p (take n l) ≡ false
none_of_few p zero l e = refl
none_of_few p (suc n) [] e = refl
none_of_few p (suc n) (x ∷ l) e =
    let (first, rest) = neither (p x) (any p l) e in
    ap₂ ◌||◌ first (none_of_few p n l rest)

kept_fresh : (c : Settings) → within_limits c ≡ true → Kept (fresh_station c)
unfolding fresh_station greatest_risk some_fresh
kept_fresh c w =
    record { shape = shaped_fresh c w; most = omega arith; full = λ e. absurd (false≢true (sym no_risk ∙ e)) }
  where
    no_risk : any (some_fresh c) (take c.tracks (replicate 4 free_track))
        && leb 2 (count (present c) (take c.tracks (replicate 4 free_track))) ≡ false
    no_risk = ap (λ (b : Bool). b && leb 2 (count (present c) (take c.tracks (replicate 4 free_track))))
        (none_of_few (some_fresh c) c.tracks (replicate 4 free_track) refl)

-- The hold never exceeds T4 on a reached station.
pub reached_keeps : (s : Station) → Reached s → Kept s
reached_keeps s r =
    subst Kept r.reached (kept_all r.reports (fresh_station r.settings) (kept_fresh r.settings r.within))

-- Any settings within their limits and any reports reach a station: `Reached` leaves none out.
pub reached_by : (c : Settings) → within_limits c ≡ true → (rs : List Report) → Reached (after_all (fresh_station c) rs)
reached_by c w rs = record { settings = c; reports = rs; within = w; reached = refl }
