-- Document 01, "What the station is": tracks beyond the station's number are neither read nor changed. Not read:
-- stations that agree below their number show the same, answer the same and agree again after any report. Not changed:
-- no report touches them, nor the settings.
-- Assumes nothing.
use Prim.Native.Nat.{ℕ, zero, suc, ◌-◌, ◌<◌}
use mathlib.Core.Path.{◌≡◌, refl, sym, ap, ap₂, subst, subst₂, ◌∙◌}
use mathlib.Core.Bool.{Bool, true, false, cond, not, ◌&&◌, ◌||◌}
use mathlib.Core.List.{List, [], ◌∷◌, map}
use native.Mathlib.Decide.{ℕ_discrete}
use borrow.Author.Tests.{ltb-true}
use lib.Dec.{leb, ltb}
use lib.ListN.{get_or, set, replicate}
use lib.Seq.{drop-set-lt, get_or-take, take-set-lt}
use Rattle.chains.proofs.Chains.{same_order}
use Rattle.demands.proofs.ApartLaws.{aspect_in, refused_keeps}
use Rattle.demands.specs.Agree.{Agree}
use Rattle.islands.proofs.Below.{changed_drop, changed_take}
use Rattle.reports.proofs.Accepted.{Below, accepted_below, after_any, place_below}
use Rattle.reports.proofs.Taking.{after_accepted}
use Rattle.rules.specs.Answers.{already, answer_of, blocked, names_head, names_island}
use Rattle.rules.specs.Answers.{place_answer, state_answer, station_after}
use Rattle.rules.specs.Aspect.{aspect_of, greatest_risk, presence_of, present, some_fresh}
use Rattle.rules.specs.Heads.{head_outputs, heads_of}
use Rattle.rules.specs.Kinds.{Kind, clock, detector_failed, detector_restored, head_condition}
use Rattle.rules.specs.Kinds.{island_free, island_occupied, kind_of, no_kind, normalise}
use Rattle.rules.specs.Outputs.{outputs_of}
use Rattle.rules.specs.Printer.{zones_of}
use Rattle.rules.specs.Reports.{acted, all_older, detector_now, fault_latched, free_now, hold_lowered, hold_set, late}
use Rattle.rules.specs.Reports.{named_island, named_track, occupied_now, older_track, tick, ticks, with_island}
use Rattle.rules.specs.Reports.{with_named}
use Rattle.rules.specs.Station.{beyond, free_track, island_at, live, obstructed, settings_answer, some_failed}
use Rattle.rules.specs.Station.{some_occupied}
use Rattle.rules.specs.Station.{track_at, with_condition, with_fault, with_hold, with_track, within_limits}
use Rattle.rules.specs.Words.{any, count, ◌if◌then◌}
use Rattle.rules.specs.declared.Island.{Island}
use Rattle.rules.specs.declared.Report.{Report}
use Rattle.rules.specs.declared.Station.{Station}
use Rattle.rules.specs.declared.Track.{Track}

-- ---- what stations that agree show and answer

module _ {s t : Station} (e : Agree s t) where
  pub agree_risk : greatest_risk s ≡ greatest_risk t
  unfolding greatest_risk
  agree_risk =
      λ i.
      any (some_fresh (e.others i).settings) (e.live i) && leb 2 (count (present (e.others i).settings) (e.live i))

  pub agree_aspect : aspect_of s ≡ aspect_of t
  unfolding aspect_of
  agree_aspect =
      λ i. aspect_in (e.others i).settings (e.live i) (e.others i).fault (agree_risk i || ltb 0 (e.others i).hold)

  pub agree_heads : heads_of s ≡ heads_of t
  unfolding heads_of
  agree_heads = λ i. map (head_outputs (outputs_of (agree_aspect i))) (e.others i).conditions

  pub agree_zones : zones_of s ≡ zones_of t
  unfolding zones_of
  agree_zones =
      λ i.
      cond (within_limits (e.others i).settings)
      (map (λ k. cond (any (λ u. (island_at u k).occupied) (e.live i)) 0 1) (0 ∷ 1 ∷ 2 ∷ 3 ∷ 4 ∷ []))
      (replicate 5 0)

  below_both : (a : ℕ) → a < s.settings.tracks → a < t.settings.tracks
  below_both a h = subst (λ (u : Station). a < u.settings.tracks) e.others h

  -- A track below the number is one of the live ones.
  agree_track : (a : ℕ) → a < s.settings.tracks → track_at s a ≡ track_at t a
  unfolding track_at
  agree_track a h =
      sym (get_or-take s.settings.tracks s.tracks a free_track h)
      ∙ ap (λ (l : List Track). get_or l a free_track) e.live
      ∙ get_or-take t.settings.tracks t.tracks a free_track (below_both a h)

  same_presence : (a : ℕ)
      → ltb a s.settings.tracks && present s.settings (track_at s a)
      ≡ ltb a t.settings.tracks && present t.settings (track_at t a)
  same_presence a =
      go (ltb a s.settings.tracks) refl
      ∙ λ i. ltb a (e.others i).settings.tracks && present (e.others i).settings (track_at t a)
    where
      go : (b : Bool) → ltb a s.settings.tracks ≡ b
          → ltb a s.settings.tracks && present s.settings (track_at s a)
          ≡ ltb a s.settings.tracks && present s.settings (track_at t a)
      go true q =
          ap (λ (u : Track). ltb a s.settings.tracks && present s.settings u)
          (agree_track a (ltb-true a s.settings.tracks q))
      go false q = rw q

  pub agree_presence : presence_of s ≡ presence_of t
  unfolding presence_of
  agree_presence =
      λ i. cond (within_limits (e.others i).settings)
      (same_presence 0 i ∷ same_presence 1 i ∷ same_presence 2 i ∷ same_presence 3 i ∷ []) (replicate 4 true)

  agree_island : (r : Report) → r.a < s.settings.tracks → named_island s r ≡ named_island t r
  agree_island r h = ap (λ (u : Track). island_at u r.b) (agree_track r.a h)

  agree_already : (r : Report) (k : Kind) → Below k s r → already k (named_island s r) ≡ already k (named_island t r)
  agree_already r island_occupied h = ap (already island_occupied) (agree_island r (h refl))
  agree_already r island_free h = ap (already island_free) (agree_island r (h refl))
  agree_already r clock h = refl
  agree_already r detector_failed h = ap (already detector_failed) (agree_island r (h refl))
  agree_already r detector_restored h = ap (already detector_restored) (agree_island r (h refl))
  agree_already r head_condition h = refl
  agree_already r normalise h = refl
  agree_already r no_kind h = refl

  agree_blocked : (k : Kind) → blocked k s ≡ blocked k t
  unfolding obstructed
  agree_blocked island_occupied = refl
  agree_blocked island_free = refl
  agree_blocked clock = refl
  agree_blocked detector_failed = refl
  agree_blocked detector_restored = refl
  agree_blocked head_condition = refl
  agree_blocked normalise = λ i. any some_occupied (e.live i) || any some_failed (e.live i)
  agree_blocked no_kind = refl

  agree_place : (r : Report) → place_answer s r ≡ place_answer t r
  unfolding place_answer
  agree_place r =
      λ i.
      3 if names_island (kind_of r.kind) && leb (e.others i).settings.tracks r.a then
      5 if names_head (kind_of r.kind) && ltb 1 r.a then
      4 if names_island (kind_of r.kind) && ltb 4 r.b then
      0

  agree_state : (r : Report) → place_answer s r ≡ 0 → state_answer s r ≡ state_answer t r
  unfolding state_answer
  agree_state r z =
      λ i.
      6 if agree_already r (kind_of r.kind) (place_below s r z) i then
      7 if agree_blocked (kind_of r.kind) i then
      0

  pub agree_answer : (r : Report) → answer_of s r ≡ answer_of t r
  unfolding answer_of
  agree_answer r =
      same_order _ _ _ _ (λ i. settings_answer (e.others i).settings)
      (λ _. same_order _ _ _ _ refl (λ _. same_order _ _ _ _ (agree_place r) (agree_state r)))

-- ---- what an accepted report does keeps the agreement

module _ {s t : Station} (e : Agree s t) where
  agree_hold : {m n : ℕ} → m ≡ n → Agree (with_hold s m) (with_hold t n)
  agree_hold q = record { others = λ i. with_hold (e.others i) (q i); live = e.live }

  agree_fault : {a b : Bool} → a ≡ b → Agree (with_fault s a) (with_fault t b)
  agree_fault q = record { others = λ i. with_fault (e.others i) (q i); live = e.live }

  agree_condition : (h n : ℕ) → Agree (with_condition s h n) (with_condition t h n)
  unfolding with_condition
  agree_condition h n = record { others = λ i. with_condition (e.others i) h n; live = e.live }

  agree_named : (r : Report) (f : Track → ℕ → Island)
      → r.a < s.settings.tracks
      → Agree (with_named s r (f (named_track s r) r.b)) (with_named t r (f (named_track t r) r.b))
  unfolding with_track
  agree_named r f h =
      record {
        others = e.others;
        live =
            take-set-lt s.settings.tracks s.tracks r.a _ h
            ∙ ap₂ (λ (l : List Track) (u : Track). set l r.a (with_island u r.b (f u r.b))) e.live
            (agree_track e r.a h)
            ∙ sym (take-set-lt t.settings.tracks t.tracks r.a _ (below_both e r.a h));
      }

  agree_held : Agree (hold_set s) (hold_set t)
  unfolding hold_set
  agree_held = agree_hold (λ i. cond (agree_risk e i) (e.others i).settings.t4 (e.others i).hold)

  agree_lowered : Agree (hold_lowered s) (hold_lowered t)
  unfolding hold_lowered
  agree_lowered =
      agree_hold (λ i. let hold = (e.others i).hold in cond (not (agree_risk e i) && ltb 0 hold) (hold - 1) hold)

  agree_older : Agree (all_older s) (all_older t)
  unfolding all_older
  agree_older =
      record {
        others = e.others;
        live =
            changed_take older_track s.settings.tracks s.tracks
            ∙ ap (map older_track) e.live
            ∙ sym (changed_take older_track t.settings.tracks t.tracks);
      }

  agree_latched : Agree (fault_latched s) (fault_latched t)
  unfolding fault_latched
  agree_latched = agree_fault (λ i. (e.others i).fault || any (late (e.others i).settings) (e.live i))

agree_ticks : {s t : Station} → Agree s t → (n : ℕ) → Agree (ticks n s) (ticks n t)
unfolding ticks tick
agree_ticks e zero = e
agree_ticks e (suc n) = agree_held (agree_latched (agree_older (agree_lowered (agree_ticks e n))))

agree_acted : {s t : Station} → Agree s t → (r : Report) (k : Kind) → Below k s r → Agree (acted k s r) (acted k t r)
unfolding acted
agree_acted e r island_occupied h = agree_held (agree_named e r occupied_now (h refl))
agree_acted e r island_free h = agree_held (agree_named e r free_now (h refl))
agree_acted e r clock h = agree_ticks e r.value
agree_acted e r detector_failed h = agree_held (agree_fault (agree_named e r (detector_now true) (h refl)) refl)
agree_acted e r detector_restored h = agree_held (agree_named e r (detector_now false) (h refl))
agree_acted e r head_condition h = agree_held (agree_condition e r.a r.value)
agree_acted e r normalise h = agree_held (agree_hold (agree_fault e refl) refl)
agree_acted e r no_kind h = e

pub agree_after : {s t : Station} → Agree s t → (r : Report) → Agree (station_after s r) (station_after t r)
agree_after {s} {t} e r = go (ℕ_discrete (answer_of s r) 0)
  where
    go : Dec (answer_of s r ≡ 0) → Agree (station_after s r) (station_after t r)
    go (yes z) =
        subst₂ Agree (sym (after_accepted s r z)) (sym (after_accepted t r (sym (agree_answer e r) ∙ z)))
        (agree_acted e r (kind_of r.kind) (accepted_below s r z))
    go (no z) = subst₂ Agree (sym (refused_keeps s r z)) (sym (refused_keeps t r (λ q. z (agree_answer e r ∙ q)))) e

-- ---- the settings stay, and so do the tracks from the number on

abbrev Stays : Station → Station → Type 0
Stays s t = (t.settings ≡ s.settings) × (beyond t ≡ beyond s)

stays_named : (s : Station) (r : Report) (i : Island) → r.a < s.settings.tracks → Stays s (with_named s r i)
unfolding with_track
stays_named s r i h = (refl, drop-set-lt s.settings.tracks s.tracks r.a _ h)

stays_ticks : (s : Station) (n : ℕ) → Stays s (ticks n s)
unfolding ticks tick hold_set fault_latched all_older hold_lowered
stays_ticks s zero = (refl, refl)
stays_ticks s (suc n) =
    let u = ticks n s in
    ((stays_ticks s n).0, changed_drop older_track u.settings.tracks u.tracks ∙ (stays_ticks s n).1)

stays_acted : (s : Station) (r : Report) (k : Kind) → Below k s r → Stays s (acted k s r)
unfolding acted hold_set with_condition
stays_acted s r island_occupied h = stays_named s r _ (h refl)
stays_acted s r island_free h = stays_named s r _ (h refl)
stays_acted s r clock h = stays_ticks s r.value
stays_acted s r detector_failed h = stays_named s r _ (h refl)
stays_acted s r detector_restored h = stays_named s r _ (h refl)
stays_acted s r head_condition h = (refl, refl)
stays_acted s r normalise h = (refl, refl)
stays_acted s r no_kind h = (refl, refl)

stays : (s : Station) (r : Report) → Stays s (station_after s r)
stays s r = after_any (Stays s) s r (refl, refl) (λ z. stays_acted s r (kind_of r.kind) (accepted_below s r z))

pub settings_stay : (s : Station) (r : Report) → (station_after s r).settings ≡ s.settings
settings_stay s r = (stays s r).0

pub beyond_stays : (s : Station) (r : Report) → beyond (station_after s r) ≡ beyond s
beyond_stays s r = (stays s r).1
