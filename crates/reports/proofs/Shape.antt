-- Document 01, "What the station is": settings within their limits, four tracks, and five
-- islands on each. No report changes that.
-- Assumes nothing.
use Prim.Native.Nat.{ℕ, zero, suc}
use mathlib.Core.Path.{◌≡◌, refl, ◌∙◌}
use mathlib.Core.Bool.{Bool, true, false, cond, not}
use mathlib.Core.List.{List, map}
use lib.Dec.{eqb}
use lib.ListN.{length, length-map, length-set}
use lib.Seq.{length_front}
use Rattle.reports.proofs.Accepted.{after_any}
use Rattle.reports.proofs.FiveIslands.{Five, five_named, five_older}
use Rattle.rules.specs.Answers.{station_after}
use Rattle.rules.specs.Kinds.{Kind, clock, detector_failed, detector_restored, head_condition}
use Rattle.rules.specs.Kinds.{island_free, island_occupied, kind_of, no_kind, normalise}
use Rattle.rules.specs.Reports.{acted, all_older, fault_latched, hold_lowered, hold_set, older_track, tick, ticks}
use Rattle.rules.specs.Reports.{with_named}
use Rattle.rules.specs.Station.{fresh_station, least_settings, live, made, settings_answer}
use Rattle.rules.specs.Station.{with_condition, with_track, within_limits}
use Rattle.rules.specs.Words.{◌if◌then◌}
use Rattle.rules.specs.declared.Island.{Island}
use Rattle.rules.specs.declared.Report.{Report}
use Rattle.rules.specs.declared.Settings.{Settings}
use Rattle.rules.specs.declared.Station.{Station}
use Rattle.rules.specs.declared.Track.{Track}

pub record Shape (c : Settings) (l : List Track) : Type 0 where
  pub within : within_limits c ≡ true
  pub four : length l ≡ 4
  pub five : Five l

abbrev pub Shaped : Station → Type 0
Shaped s = Shape s.settings s.tracks

pub shaped_named : (s : Station) (r : Report) (i : Island) → Shaped s → Shaped (with_named s r i)
unfolding with_track
shaped_named s r i h =
    record {
      within = h.within;
      four = length-set s.tracks r.a _ ∙ h.four;
      five = five_named s r.a r.b i h.five;
    }

pub shaped_older : (s : Station) → Shaped s → Shaped (all_older s)
unfolding all_older
shaped_older s h =
    record {
      within = h.within;
      four = length_front s.tracks (map older_track (live s)) s.settings.tracks (length-map (live s) older_track)
          ∙ h.four;
      five = five_older s h.five;
    }

shaped_ticks : (n : ℕ) (s : Station) → Shaped s → Shaped (ticks n s)
unfolding ticks tick hold_set fault_latched all_older hold_lowered
shaped_ticks zero s h = h
shaped_ticks (suc n) s h = shaped_older (ticks n s) (shaped_ticks n s h)

shaped_acted : (s : Station) (r : Report) (k : Kind) → Shaped s → Shaped (acted k s r)
unfolding acted hold_set with_condition
shaped_acted s r island_occupied h = shaped_named s r _ h
shaped_acted s r island_free h = shaped_named s r _ h
shaped_acted s r clock h = shaped_ticks r.value s h
shaped_acted s r detector_failed h = shaped_named s r _ h
shaped_acted s r detector_restored h = shaped_named s r _ h
shaped_acted s r head_condition h = h
shaped_acted s r normalise h = h
shaped_acted s r no_kind h = h

pub shaped_after : (s : Station) (r : Report) → Shaped s → Shaped (station_after s r)
shaped_after s r h = after_any Shaped s r h (λ _. shaped_acted s r (kind_of r.kind) h)

pub shaped_fresh : (c : Settings) → within_limits c ≡ true → Shaped (fresh_station c)
unfolding fresh_station Five
shaped_fresh c w = record { within = w; four = refl; five = (refl, (refl, (refl, (refl, tt)))) }

within_least : within_limits least_settings ≡ true
unfolding within_limits
within_least = refl

-- A refused making has the least settings, which are within their limits.
pub shaped_made : (c : Settings) → Shaped (made c).station
unfolding made settings_answer ◌if◌then◌
shaped_made c = go (within_limits c) refl
  where
    go : (w : Bool) → within_limits c ≡ w
        → Shaped (fresh_station (cond (eqb (cond (not (within_limits c)) 8 0) 0) c least_settings))
    go true e = rw e (shaped_fresh c e)
    go false e = rw e (shaped_fresh least_settings within_least)
