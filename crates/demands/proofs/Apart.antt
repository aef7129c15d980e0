-- Document 01: what is apart from what. "The heads": the two are worked out apart, and a condition needs no
-- normalising. "Reports": restoring does not unlatch the fault, normalising alone does. "The numbers it answers": a
-- refused report returns the old station (`refused_keeps` of `ApartLaws`), and what is shown of a station refused with
-- 8. That tracks beyond the number are apart from the others is in `ApartTracks`.
-- Assumes nothing.
use Prim.Native.Nat.{ℕ, zero, suc, ◌<◌}
use mathlib.Core.Path.{◌≡◌, refl, sym, ap, ap₂, subst, ◌∙◌}
use mathlib.Core.Bool.{Bool, true, false, cond, ◌||◌}
use mathlib.Core.List.{List, [], ◌∷◌, map}
use lib.Dec.{ltb}
use lib.ListN.{get_or, length, length-map, set, get_or-map}
use lib.Seq.{get_or-set_other}
use Rattle.demands.proofs.ApartLaws.{aspect_in}
use Rattle.islands.proofs.Listed.{get_or_same}
use Rattle.reports.proofs.Accepted.{after_any}
use Rattle.rules.specs.Answers.{answer_of, station_after}
use Rattle.rules.specs.Aspect.{aspect_of, greatest_risk}
use Rattle.rules.specs.Heads.{communication_failed, failed_sounders, head_outputs, heads_of, power_failed}
use Rattle.rules.specs.Kinds.{Kind, clock, detector_failed, detector_restored, head_condition}
use Rattle.rules.specs.Kinds.{island_free, island_occupied, kind_of, no_kind, normalise}
use Rattle.rules.specs.Outputs.{outputs_of}
use Rattle.rules.specs.Reports.{acted, all_older, fault_latched, hold_lowered, hold_set, tick, ticks}
use Rattle.rules.specs.Station.{live, settings_answer, with_condition, with_track, within_limits}
use Rattle.rules.specs.Words.{◌if◌then◌, ◌▷◌}
use Rattle.rules.specs.declared.Report.{Report}
use Rattle.rules.specs.declared.Station.{Station}

-- ---- the fault

ticks_keep_fault : (s : Station) (n : ℕ) → s.fault ≡ true → (ticks n s).fault ≡ true
unfolding ticks tick hold_set fault_latched all_older hold_lowered
ticks_keep_fault s zero e = e
ticks_keep_fault s (suc n) e = rw (ticks_keep_fault s n e)

acted_keeps_fault : (s : Station) (r : Report) (k : Kind) → (k ≡ normalise → ⊥) → s.fault ≡ true
    → (acted k s r).fault ≡ true
unfolding acted hold_set with_track with_condition
acted_keeps_fault s r island_occupied h e = e
acted_keeps_fault s r island_free h e = e
acted_keeps_fault s r clock h e = ticks_keep_fault s r.value e
acted_keeps_fault s r detector_failed h e = refl
acted_keeps_fault s r detector_restored h e = e
acted_keeps_fault s r head_condition h e = e
acted_keeps_fault s r normalise h e = absurd (h refl)
acted_keeps_fault s r no_kind h e = e

pub only_normalise_unlatches : (s : Station) (r : Report) → (kind_of r.kind ≡ normalise → ⊥) → s.fault ≡ true
    → (station_after s r).fault ≡ true
only_normalise_unlatches s r h e =
    after_any (λ (t : Station). t.fault ≡ true) s r e (λ z. acted_keeps_fault s r (kind_of r.kind) h e)

pub restoring_keeps_fault : (s : Station) (r : Report) → kind_of r.kind ≡ detector_restored
    → (station_after s r).fault ≡ s.fault
unfolding acted hold_set with_track
restoring_keeps_fault s r e =
    after_any (λ (t : Station). t.fault ≡ s.fault) s r refl
    (λ z. subst (λ (k : Kind). (acted k s r).fault ≡ s.fault) (sym e) refl)

-- ---- the heads

-- Where the hold is set the condition is true, and gives the aspect by itself.
held_aspect : (s : Station) → aspect_of (hold_set s) ≡ aspect_of s
unfolding aspect_of hold_set greatest_risk
held_aspect s = ap (aspect_in s.settings (live s) s.fault) (raised (greatest_risk s))
  where
    raised : (risk : Bool) → risk || ltb 0 (cond risk s.settings.t4 s.hold) ≡ risk || ltb 0 s.hold
    raised true = refl
    raised false = refl

-- the condition reported is not read
head_aspect : (s : Station) (r : Report) → aspect_of (acted head_condition s r) ≡ aspect_of s
unfolding acted with_condition aspect_of greatest_risk
head_aspect s r = held_aspect (with_condition s r.a r.value)

pub head_report_keeps_aspect : (s : Station) (r : Report) → kind_of r.kind ≡ head_condition
    → aspect_of (station_after s r) ≡ aspect_of s
head_report_keeps_aspect s r e =
    after_any (λ (t : Station). aspect_of t ≡ aspect_of s) s r refl
    (λ z. subst (λ (k : Kind). aspect_of (acted k s r) ≡ aspect_of s) (sym e) (head_aspect s r))

-- a head's outputs, from the aspect and its own condition
head_is : (s : Station) (k : ℕ) → k < length s.conditions
    → get_or (heads_of s) k 0 ≡ head_outputs (outputs_of (aspect_of s)) (get_or s.conditions k 0)
unfolding heads_of
head_is s k h =
    let f : ℕ → ℕ = head_outputs (outputs_of (aspect_of s)) in
    get_or_same (map f s.conditions) k 0 (f 0) (rw length-map h) ∙ get_or-map f s.conditions k 0

pub head_apart : (s t : Station) (k : ℕ)
    → aspect_of s ≡ aspect_of t
    → get_or s.conditions k 0 ≡ get_or t.conditions k 0
    → k < length s.conditions
    → k < length t.conditions
    → get_or (heads_of s) k 0 ≡ get_or (heads_of t) k 0
head_apart s t k e c h j =
    head_is s k h ∙ ap₂ (λ (aspect condition : ℕ). head_outputs (outputs_of aspect) condition) e c ∙ sym (head_is t k j)

map_set : (f : ℕ → ℕ) (l : List ℕ) (i v : ℕ) → map f (set l i v) ≡ set (map f l) i (f v)
map_set f [] i v = refl
map_set f (x ∷ l) zero v = refl
map_set f (x ∷ l) (suc i) v = ap (λ (m : List ℕ). f x ∷ m) (map_set f l i v)

other_head : (s : Station) (r : Report) (k : ℕ) → (k ≡ r.a → ⊥)
    → get_or (heads_of (acted head_condition s r)) k 0 ≡ get_or (heads_of s) k 0
unfolding heads_of acted hold_set with_condition
other_head s r k h =
    let f : ℕ → ℕ = head_outputs (outputs_of (aspect_of s)) in
    ap (λ (aspect : ℕ). get_or (map (head_outputs (outputs_of aspect)) (set s.conditions r.a r.value)) k 0)
    (head_aspect s r)
    ∙ ap (λ (l : List ℕ). get_or l k 0) (map_set f s.conditions r.a r.value)
    ∙ get_or-set_other (map f s.conditions) r.a k (f r.value) 0 h

pub other_head_stays : (s : Station) (r : Report) → kind_of r.kind ≡ head_condition
    → (k : ℕ) → (k ≡ r.a → ⊥) → get_or (heads_of (station_after s r)) k 0 ≡ get_or (heads_of s) k 0
other_head_stays s r e k h =
    after_any (λ (t : Station). get_or (heads_of t) k 0 ≡ get_or (heads_of s) k 0) s r refl
    (λ z. subst (λ (m : Kind). get_or (heads_of (acted m s r)) k 0 ≡ get_or (heads_of s) k 0) (sym e)
    (other_head s r k h))

-- ---- a station refused with 8

pub refused_station : (s : Station) → within_limits s.settings ≡ false
    → (aspect_of s ≡ 5) × ((r : Report) → answer_of s r ≡ 8)
unfolding aspect_of answer_of settings_answer ◌if◌then◌ ◌▷◌
refused_station s e = (rw e, λ r. rw e)

dark : (condition : ℕ) → head_outputs (outputs_of 5) condition ≡ 0
unfolding head_outputs outputs_of
dark condition = go (power_failed condition || communication_failed condition || ltb 1 (failed_sounders condition))
  where
    go : (b : Bool) → ◌≡◌ {A = ℕ} (cond b 0 0) 0
    go true = refl
    go false = refl

pub refused_heads : (s : Station) → within_limits s.settings ≡ false → (k : ℕ) → get_or (heads_of s) k 0 ≡ 0
unfolding heads_of
refused_heads s e k =
    ap (λ (aspect : ℕ). get_or (map (head_outputs (outputs_of aspect)) s.conditions) k 0) (refused_station s e).0
    ∙ each s.conditions k
  where
    each : (l : List ℕ) (k : ℕ) → get_or (map (head_outputs (outputs_of 5)) l) k 0 ≡ 0
    each [] k = refl
    each (x ∷ l) zero = dark x
    each (x ∷ l) (suc k) = each l k
