-- What a timetable means, track by track.
-- Assumes nothing.
use Prim.Native.Nat.{ℕ, zero, suc, ◌+◌, ◌≤◌, ◌<◌, max, zero-le}
use native.Mathlib.Nat.{add-zero}
use native.Mathlib.Omega.{arith}
use mathlib.Core.Path.{◌≡◌, refl, sym, ap, ap₂, subst, ◌∙◌}
use mathlib.Core.Bool.{Bool, true, false, cond, ◌&&◌, ◌||◌, or-false, or-true, and-false}
use mathlib.Core.List.{List, []}
use borrow.Author.Tests.{le-leb, lt-leb, le-ltb}
use lib.Dec.{leb}
use lib.ListN.{length, get_or, take}
use Rattle.clock.proofs.FreeTracks.{no_fresh, no_late, no_later, no_present}
use Rattle.clock.proofs.Turned.{below_greater, from_both, from_lesser, turning}
use Rattle.clock.specs.Ages.{later_track}
use Rattle.clock.specs.Timetable.{Timed, with_turns}
use Rattle.clock.specs.Turns.{Turning, never, turns_of}
use Rattle.clock.specs.declared.timing.Timetable.{Timetable}
use Rattle.clock.specs.declared.turning.Turns.{Turns}
use Rattle.islands.proofs.UpperLimits.{timers}
use Rattle.islands.proofs.Below.{any_more, count_more}
use Rattle.rules.specs.Aspect.{present, some_fresh}
use Rattle.rules.specs.Reports.{late}
use Rattle.rules.specs.Station.{some_occupied}
use Rattle.rules.specs.Words.{count}
use Rattle.rules.specs.declared.Settings.{Settings}
use Rattle.rules.specs.declared.Track.{Track}

-- ---- one track more

one_more : (k : ℕ) (b : Bool) → leb 1 (k + cond b 1 0) ≡ leb 1 k || b
one_more k true = le-leb 1 (k + 1) (omega arith) ∙ sym (or-true (leb 1 k))
one_more k false = ap (leb 1) (add-zero k) ∙ sym (or-false (leb 1 k))

two_more : (k : ℕ) (b : Bool) → leb 2 (k + cond b 1 0) ≡ leb 2 k || leb 1 k && b
two_more zero true = refl
two_more (suc zero) true = refl
two_more (suc (suc k)) true =
    le-leb 2 (suc (suc k) + 1) (omega arith)
    ∙ sym (ap (λ (x : Bool). x || leb 1 (suc (suc k)) && true) (le-leb 2 (suc (suc k)) (omega arith)))
two_more k false =
    ap (leb 2) (add-zero k) ∙ sym (ap (λ (x : Bool). leb 2 k || x) (and-false (leb 1 k)) ∙ or-false (leb 2 k))

pub timed_none : (c : Settings) → Timed c [] (record { fresh = 0; first = never; second = never; late = never })
timed_none c =
    record {
      fresh = λ n. sym (le-ltb n 0 zero-le);
      first = λ n h. sym (lt-leb never n h);
      second = λ n h. sym (lt-leb never n h);
      late = λ n h. sym (lt-leb never n h);
    }

pub timed_more : (c : Settings) (l : List Track) (j : ℕ) (d : Track) (r : Timetable) (u : Turns)
    → j < length l
    → Timed c (take j l) r
    → Turning c (get_or l j d) u
    → Timed c (take (j + 1) l) (with_turns r u)
timed_more c l j d r u h e t =
    record {
      fresh = λ n. any_more (λ x. some_fresh c (later_track n x)) l j d h ∙ ap₂ ◌||◌ (e.fresh n) (t.fresh n)
          ∙ below_greater n r.fresh u.fresh;
      first =
          λ n k.
          ap (leb 1) (count_more (λ x. present c (later_track n x)) l j d h)
          ∙ one_more (count (λ x. present c (later_track n x)) (take j l)) (present c (later_track n (get_or l j d)))
          ∙ ap₂ ◌||◌ (e.first n k) (t.present n k)
          ∙ from_lesser n r.first u.present;
      second =
          λ n k.
          ap (leb 2) (count_more (λ x. present c (later_track n x)) l j d h)
          ∙ two_more (count (λ x. present c (later_track n x)) (take j l)) (present c (later_track n (get_or l j d)))
          ∙ ap₂ ◌||◌ (e.second n k) (ap₂ ◌&&◌ (e.first n k) (t.present n k) ∙ from_both n r.first u.present)
          ∙ from_lesser n r.second (max r.first u.present);
      late = λ n k. any_more (λ x. late c (later_track n x)) l j d h ∙ ap₂ ◌||◌ (e.late n k) (t.late n k)
          ∙ from_lesser n r.late u.late;
    }

-- a track with no island occupied adds nothing
pub timed_skip : (c : Settings) (l : List Track) (j : ℕ) (d : Track) (r : Timetable)
    → j < length l
    → some_occupied (get_or l j d) ≡ false
    → Timed c (take j l) r
    → Timed c (take (j + 1) l) r
timed_skip c l j d r h o e =
    record {
      fresh = λ n. any_more (λ x. some_fresh c (later_track n x)) l j d h
          ∙ or_nothing _ _ (ap (some_fresh c) (no_later t o n) ∙ no_fresh t o c) ∙ e.fresh n;
      first = λ n k. ap (leb 1) (uncounted n) ∙ e.first n k;
      second = λ n k. ap (leb 2) (uncounted n) ∙ e.second n k;
      late = λ n k. any_more (λ x. late c (later_track n x)) l j d h
          ∙ or_nothing _ _ (ap (late c) (no_later t o n) ∙ no_late t o c) ∙ e.late n k;
    }
  where
    t : Track
    t = get_or l j d

    or_nothing : (a b : Bool) → b ≡ false → a || b ≡ a
    or_nothing a b z = ap (λ (x : Bool). a || x) z ∙ or-false a

    uncounted : (n : ℕ)
        → count (λ x. present c (later_track n x)) (take (j + 1) l) ≡ count (λ x. present c (later_track n x))
        (take j l)
    uncounted n =
        count_more (λ x. present c (later_track n x)) l j d h
        ∙ ap (λ (b : Bool). count (λ x. present c (later_track n x)) (take j l) + cond b 1 0)
        (ap (present c) (no_later t o n) ∙ no_present t o c)
        ∙ add-zero (count (λ x. present c (later_track n x)) (take j l))

-- as the code goes on
pub timed_next : (c : Settings) (l : List Track) (j : ℕ) (d : Track) (r v : Timetable) (u : Turns)
    → c.t1 ≤ 65535
    → c.t2 ≤ 65535
    → c.t3 ≤ 65535
    → c.t5 ≤ 65535
    → j < length l
    → Timed c (take j l) r
    → u ≡ turns_of c (get_or l j d)
    → v ≡ with_turns r u
    → Timed c (take (j + 1) l) v
timed_next c l j d r v u h1 h2 h3 h5 h e eu ev =
    subst (Timed c (take (j + 1) l)) (sym ev)
    (timed_more c l j d r u h e (subst (Turning c (get_or l j d)) (sym eu)
    (turning c (timers c h1 h2 h3) h5 (get_or l j d))))
