-- What the ticks of a clock report come to by the timetable: the station n single ticks later.
-- Assumes nothing.
use Prim.Native.Nat.{ℕ, zero, suc, ◌+◌, ◌<◌, min}
use native.Mathlib.Numerals.{add-one}
use native.Mathlib.Omega.{arith}
use mathlib.Core.Path.{◌≡◌, refl, subst, sym, ap, ap₂, ◌∙◌}
use mathlib.Core.Bool.{Bool, true, false, cond, ◌&&◌, ◌||◌, or-false}
use mathlib.Core.List.{List, ◌++◌, map}
use borrow.Author.Tests.{le-leb, leb-true, lt-ltb}
use lib.Dec.{leb, ltb}
use lib.ListN.{length, take, drop, take-append-drop}
use Rattle.clock.proofs.Ages.{tracks_now, tracks_older}
use Rattle.clock.specs.Ages.{later_track}
use Rattle.clock.specs.Hold.{hold_after, lowered}
use Rattle.clock.specs.Timetable.{Timed, risk_at}
use Rattle.clock.specs.declared.timing.Timetable.{Timetable}
use Rattle.islands.proofs.Below.{any_map, changed, changed_drop, changed_take, count_map, drop_least, take_least}
use Rattle.rules.specs.Aspect.{greatest_risk, present, some_fresh}
use Rattle.rules.specs.Reports.{all_older, fault_latched, hold_lowered, hold_set, late, older_track, tick, ticks}
use Rattle.rules.specs.Station.{beyond, live, with_fault, with_hold, with_tracks}
use Rattle.rules.specs.Words.{any, count}
use Rattle.rules.specs.declared.Settings.{Settings}
use Rattle.rules.specs.declared.Station.{Station}
use Rattle.rules.specs.declared.Track.{Track}

-- ---- the hold, one tick more

pub hold_more : (risk : ℕ → Bool) (t4 hold i : ℕ) (b d : Bool) (l m v : ℕ)
    → l ≡ hold_after risk t4 hold i
    → b ≡ risk i
    → m ≡ lowered b l
    → d ≡ risk (i + 1)
    → v ≡ cond d t4 m
    → v ≡ hold_after risk t4 hold (i + 1)
unfolding hold_after
hold_more risk t4 hold i b d l m v el eb em ed ev =
    ev
    ∙ ap₂ (λ (x : Bool) (y : ℕ). cond x t4 y) (ed ∙ ap risk (add-one i)) (em ∙ ap₂ lowered eb el)
    ∙ ap (hold_after risk t4 hold) (sym (add-one i))

-- ---- the station after n ticks

latch : (f a x y : Bool) → (x ≡ true → y ≡ true) → f || (a && x) || y ≡ f || (true && y)
latch true a x y i = refl
latch false true true y i = sym (i refl)
latch false true false y i = refl
latch false false x y i = refl

module _ (s : Station) (r : Timetable) where
  abbrev c : Settings
  c = s.settings

  abbrev tracks_at : ℕ → List Track
  tracks_at n = changed (later_track n) c.tracks s.tracks

  abbrev hold_at : ℕ → ℕ
  hold_at n = hold_after (risk_at r) c.t4 s.hold n

  abbrev fault_at : ℕ → Bool
  fault_at n = s.fault || (ltb 0 n && leb r.late n)

  abbrev station_at : ℕ → Station
  station_at n = with_fault (with_hold (with_tracks s (tracks_at n)) (hold_at n)) (fault_at n)

  live_then : (n : ℕ) → live (station_at n) ≡ map (later_track n) (live s)
  live_then n = changed_take (later_track n) c.tracks s.tracks

  older_then : (n : ℕ) → (all_older (station_at n)).tracks ≡ tracks_at (suc n)
  unfolding all_older
  older_then n =
      ap₂ (λ (a b : List Track). map older_track a ++ b) (live_then n)
      (changed_drop (later_track n) c.tracks s.tracks)
      ∙ ap (λ (a : List Track). a ++ beyond s) (tracks_older n (live s))

  now_then : s.tracks ≡ tracks_at 0
  now_then =
      sym (ap (λ (l : List Track). l ++ beyond s) (tracks_now (live s)) ∙ take-append-drop c.tracks s.tracks)

  module _ (e : Timed c (live s) r) where
    risk_then : (n : ℕ) → n < 65536 → greatest_risk (station_at n) ≡ risk_at r n
    unfolding greatest_risk
    risk_then n h =
        ap₂ ◌&&◌
        (ap (any (some_fresh c)) (live_then n) ∙ any_map (later_track n) (some_fresh c) (live s) ∙ e.fresh n)
        (ap (leb 2) (ap (count (present c)) (live_then n) ∙ count_map (later_track n) (present c) (live s))
        ∙ e.second n h)

    late_then : (n : ℕ) → n < 65536 → any (late c) (live (station_at n)) ≡ leb r.late n
    late_then n h = ap (any (late c)) (live_then n) ∙ any_map (later_track n) (late c) (live s) ∙ e.late n h

    tick_then : (n : ℕ) → suc n < 65536 → tick (station_at n) ≡ station_at (suc n)
    unfolding tick hold_set fault_latched all_older hold_lowered greatest_risk hold_after
    tick_then n h = λ i. with_fault (with_hold (with_tracks s (older_then n i)) (hold_next i)) (fault_next i)
      where
        risk_next : greatest_risk (all_older (station_at n)) ≡ risk_at r (suc n)
        risk_next = ap (λ (l : List Track). greatest_risk (with_tracks s l)) (older_then n) ∙ risk_then (suc n) h

        hold_next :
            cond (greatest_risk (all_older (station_at n))) c.t4 (lowered (greatest_risk (station_at n)) (hold_at n))
            ≡ hold_at (suc n)
        hold_next = ap₂ (λ (after before : Bool). cond after c.t4 (lowered before (hold_at n))) risk_next
            (risk_then n (omega arith))

        late_next : any (late c) (live (all_older (station_at n))) ≡ leb r.late (suc n)
        late_next = ap (λ (l : List Track). any (late c) (live (with_tracks s l))) (older_then n) ∙ late_then (suc n) h

        fault_next : fault_at n || any (late c) (live (all_older (station_at n))) ≡ fault_at (suc n)
        fault_next =
            ap (λ (b : Bool). fault_at n || b) late_next
            ∙ latch s.fault (ltb 0 n) (leb r.late n) (leb r.late (suc n)) (λ k.
            le-leb r.late (suc n) (omega (arith, leb-true r.late n k)))
            ∙ ap (λ (b : Bool). s.fault || (b && leb r.late (suc n))) (sym (lt-ltb 0 (suc n) (omega arith)))

    pub ticks_are : (n : ℕ) → n < 65536 → ticks n s ≡ station_at n
    unfolding ticks hold_after
    ticks_are zero h = λ i. with_fault (with_tracks s (now_then i)) (sym (or-false s.fault) i)
    ticks_are (suc n) h = ap tick (ticks_are n (omega arith)) ∙ tick_then n h

-- what the code puts together
pub ticks_made : (s : Station) (n j hold : ℕ) (r : Timetable) (l : List Track) (fault : Bool)
    → length s.tracks ≡ 4 → n < 65536
    → j ≡ min s.settings.tracks 4
    → Timed s.settings (take j s.tracks) r
    → l ≡ map (later_track n) (take j s.tracks)
    → hold ≡ hold_after (risk_at r) s.settings.t4 s.hold n
    → fault ≡ (s.fault || (ltb 0 n && leb r.late n))
    → with_fault (with_hold (with_tracks s (l ++ drop j s.tracks)) hold) fault ≡ ticks n s
ticks_made s n j hold r l fault len k ej e el eh ef =
    (λ i. with_fault (with_hold (with_tracks s (later_in_place i)) (eh i)) (ef i))
    ∙ sym (ticks_are s r (subst (λ (x : List Track). Timed s.settings x r) same e) n k)
  where
    same : take j s.tracks ≡ live s
    same = take_least s.tracks j s.settings.tracks 4 len ej

    later_in_place : l ++ drop j s.tracks ≡ changed (later_track n) s.settings.tracks s.tracks
    later_in_place =
        ap₂ ◌++◌ (el ∙ ap (map (later_track n)) same) (drop_least s.tracks j s.settings.tracks 4 len ej)
