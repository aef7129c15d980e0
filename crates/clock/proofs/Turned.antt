-- The turns of a track mean what `Turning` says.
-- Assumes nothing.
use Prim.Native.Nat.{ℕ, ◌-◌, ◌+◌, ◌≤◌, ◌<◌, min, max, zero-le}
use native.Mathlib.Decide.{dec_le}
use native.Mathlib.Nat.{lt_of_not-le}
use native.Mathlib.Omega.{arith}
use mathlib.Core.Path.{◌≡◌, sym, ap, ap₂, ◌∙◌}
use mathlib.Core.Bool.{Bool, true, false, cond, not, ◌&&◌, ◌||◌, or-false, or-true, and-false, and-true}
use mathlib.Core.List.{List, [], ◌∷◌, map}
use borrow.Author.Tests.{le-leb, lt-leb, lt-ltb, le-ltb}
use lib.Dec.{leb, ltb, leb-zero}
use lib.ListN.{length}
use Rattle.islands.proofs.Islands.{is_five}
use Rattle.clock.proofs.Ages.{aged, later_is, reach, same_test}
use Rattle.clock.specs.Ages.{later, later_track}
use Rattle.clock.specs.Turns.{Turning, all_turns, never, no_turns, together, turns_in, turns_of}
use Rattle.clock.specs.declared.turning.Turns.{Turns}
use Rattle.rules.specs.Aspect.{fresh_approaching, held, present, some_fresh}
use Rattle.rules.specs.Reports.{late}
use Rattle.rules.specs.Station.{Zone, advance, approaching, crossing, going_away}
use Rattle.rules.specs.Station.{is_warning, island_at, timer, warning, zones}
use Rattle.rules.specs.Words.{any_with}
use Rattle.rules.specs.declared.Island.{Island}
use Rattle.rules.specs.declared.Settings.{Settings}
use Rattle.rules.specs.declared.Track.{Track}

-- ---- an island's tests after n ticks, by what it is now

module _ (n a timer : ℕ) (h : timer ≤ 65535) where
  held_from : leb timer (aged n a) ≡ leb (timer - a) n
  held_from = reach n a timer h ∙ same_test timer (a + n) (timer - a) n (λ k. omega arith) (λ k. omega arith)

  fresh_until : not (leb timer (aged n a)) ≡ ltb n (timer - a)
  fresh_until = ap not held_from ∙ go (dec_le (timer - a) n)
    where
      go : Dec (timer - a ≤ n) → not (leb (timer - a) n) ≡ ltb n (timer - a)
      go (yes k) = ap not (le-leb (timer - a) n k) ∙ sym (le-ltb n (timer - a) k)
      go (no k) = ap not (lt-leb (timer - a) n (lt_of_not-le k)) ∙ sym (lt-ltb n (timer - a) (lt_of_not-le k))

  fresh_turn : (o l : Bool)
      → o && not (leb timer (cond o (aged n a) a)) && (o && not l) ≡ ltb n (cond (o && not l) (timer - a) 0)
  fresh_turn true true = and-false (not (leb timer (aged n a))) ∙ sym (le-ltb n 0 zero-le)
  fresh_turn true false = and-true (not (leb timer (aged n a))) ∙ fresh_until
  fresh_turn false l = sym (le-ltb n 0 zero-le)

  module _ (soon : n < 65536) where
    present_turn : (o l w : Bool)
        → o && not l || o && leb timer (cond o (aged n a) a) || w && (o && l)
        ≡ leb (cond (o && not l || w && (o && l)) 0 (cond o (timer - a) never)) n
    present_turn true true true = or-true (leb timer (aged n a)) ∙ sym (leb-zero n)
    present_turn true true false = or-false (leb timer (aged n a)) ∙ held_from
    present_turn true false w = sym (leb-zero n)
    present_turn false l true = sym (lt-leb never n soon)
    present_turn false l false = sym (lt-leb never n soon)

    late_turn : (o w : Bool) → w && o && leb timer (cond o (aged n a) a) ≡ leb (cond (w && o) (timer - a) never) n
    late_turn true true = held_from
    late_turn true false = sym (lt-leb never n soon)
    late_turn false true = sym (lt-leb never n soon)
    late_turn false false = sym (lt-leb never n soon)

-- ---- islands together

pub from_both : (n a b : ℕ) → leb a n && leb b n ≡ leb (max a b) n
from_both n a b = go (dec_le a n) (dec_le b n)
  where
    go : Dec (a ≤ n) → Dec (b ≤ n) → leb a n && leb b n ≡ leb (max a b) n
    go (yes h) (yes k) = ap₂ ◌&&◌ (le-leb a n h) (le-leb b n k) ∙ sym (le-leb (max a b) n (omega arith))
    go (yes h) (no k) = ap₂ ◌&&◌ (le-leb a n h) (lt-leb b n (lt_of_not-le k))
        ∙ sym (lt-leb (max a b) n (omega (arith, lt_of_not-le k)))
    go (no h) d = ap (λ (x : Bool). x && leb b n) (lt-leb a n (lt_of_not-le h))
        ∙ sym (lt-leb (max a b) n (omega (arith, lt_of_not-le h)))

abbrev counts_in : Settings → Zone → Island → Bool
counts_in c z i = approaching i || held c z i || is_warning z && going_away i

abbrev late_in : Settings → Zone → Island → Bool
late_in c z i = is_warning z && i.occupied && leb c.t5 i.age

pub below_greater : (n a b : ℕ) → ltb n a || ltb n b ≡ ltb n (max a b)
below_greater n a b = go (dec_le a n) (dec_le b n)
  where
    go : Dec (a ≤ n) → Dec (b ≤ n) → ltb n a || ltb n b ≡ ltb n (max a b)
    go (yes h) (yes k) = ap₂ ◌||◌ (le-ltb n a h) (le-ltb n b k) ∙ sym (le-ltb n (max a b) (omega arith))
    go (yes h) (no k) = ap₂ ◌||◌ (le-ltb n a h) (lt-ltb n b (lt_of_not-le k))
        ∙ sym (lt-ltb n (max a b) (omega (arith, lt_of_not-le k)))
    go (no h) d = ap (λ (x : Bool). x || ltb n b) (lt-ltb n a (lt_of_not-le h))
        ∙ sym (lt-ltb n (max a b) (omega (arith, lt_of_not-le h)))

pub from_lesser : (n a b : ℕ) → leb a n || leb b n ≡ leb (min a b) n
from_lesser n a b = go (dec_le a n) (dec_le b n)
  where
    go : Dec (a ≤ n) → Dec (b ≤ n) → leb a n || leb b n ≡ leb (min a b) n
    go (yes h) d = ap (λ (x : Bool). x || leb b n) (le-leb a n h) ∙ sym (le-leb (min a b) n (omega arith))
    go (no h) (yes k) = ap₂ ◌||◌ (lt-leb a n (lt_of_not-le h)) (le-leb b n k) ∙ sym (le-leb (min a b) n (omega arith))
    go (no h) (no k) =
        ap₂ ◌||◌ (lt-leb a n (lt_of_not-le h)) (lt-leb b n (lt_of_not-le k))
        ∙ sym (lt-leb (min a b) n (omega (arith, lt_of_not-le h, lt_of_not-le k)))

module _ (c : Settings) (n : ℕ) where
  -- some island of two lists side by side passes a test after n ticks exactly when the turn of them all says so
  some_fresh_lem : ((z : Zone) → timer c z ≤ 65535) → (zs : List Zone) (l : List Island)
      → any_with (fresh_approaching c) zs (map (later n) l) ≡ ltb n (all_turns c zs l).fresh
  some_fresh_lem h [] l = sym (le-ltb n 0 zero-le)
  some_fresh_lem h (z ∷ zs) [] = sym (le-ltb n 0 zero-le)
  some_fresh_lem h (z ∷ zs) (i ∷ l) =
      ap₂ ◌||◌ (ap (fresh_approaching c z) (later_is n i)
      ∙ fresh_turn n i.age (timer c z) (h z) i.occupied i.leaving) (some_fresh_lem h zs l)
      ∙ below_greater n _ _

  module _ (soon : n < 65536) where
    some_present : ((z : Zone) → timer c z ≤ 65535) → (zs : List Zone) (l : List Island)
        → any_with (counts_in c) zs (map (later n) l) ≡ leb (all_turns c zs l).present n
    some_present h [] l = sym (lt-leb never n soon)
    some_present h (z ∷ zs) [] = sym (lt-leb never n soon)
    some_present h (z ∷ zs) (i ∷ l) =
        ap₂ ◌||◌
        (ap (counts_in c z) (later_is n i)
        ∙ present_turn n i.age (timer c z) (h z) soon i.occupied i.leaving (is_warning z))
        (some_present h zs l)
        ∙ from_lesser n _ _

    some_late : c.t5 ≤ 65535 → (zs : List Zone) (l : List Island)
        → any_with (late_in c) zs (map (later n) l) ≡ leb (all_turns c zs l).late n
    some_late h [] l = sym (lt-leb never n soon)
    some_late h (z ∷ zs) [] = sym (lt-leb never n soon)
    some_late h (z ∷ zs) (i ∷ l) =
        ap₂ ◌||◌ (ap (late_in c z) (later_is n i) ∙ late_turn n i.age c.t5 h soon i.occupied (is_warning z))
        (some_late h zs l)
        ∙ from_lesser n _ _

pub turning : (c : Settings) → ((z : Zone) → timer c z ≤ 65535) → c.t5 ≤ 65535 → (t : Track)
    → Turning c t (turns_of c t)
unfolding some_fresh present late later_track turns_of
turning c h h5 t =
    record {
      fresh = λ n. some_fresh_lem c n h zones t.islands;
      present = λ n soon. some_present c n soon h zones t.islands;
      late = λ n soon. some_late c n soon h5 zones t.islands;
    }

-- ---- the five islands, one after the other

together_assoc : (a b d : Turns) → together (together a b) d ≡ together a (together b d)
together_assoc a b d = λ k. record {
  fresh = fresh_assoc k;
  present = least_assoc a.present b.present d.present k;
  late = least_assoc a.late b.late d.late k;
}
  where
    fresh_assoc : max (max a.fresh b.fresh) d.fresh ≡ max a.fresh (max b.fresh d.fresh)
    fresh_assoc = omega arith

    least_assoc : (x y z : ℕ) → min (min x y) z ≡ min x (min y z)
    least_assoc x y z = omega arith

-- no island's turns add nothing to those of one
alone : (timer t5 : ℕ) (w : Bool) (i : Island) → timer ≤ 65535 → t5 ≤ 65535
    → together (turns_in timer t5 w i) no_turns ≡ turns_in timer t5 w i
alone timer t5 w i h h5 = λ k. record {
  fresh = none_greater (turns_in timer t5 w i).fresh k;
  present = ends (approaching i || w && going_away i) i.occupied k;
  late = ends_late (w && i.occupied) k;
}
  where
    none_greater : (x : ℕ) → max x 0 ≡ x
    none_greater x = omega arith

    ends : (p o : Bool) → min (cond p 0 (cond o (timer - i.age) never)) never ≡ cond p 0 (cond o (timer - i.age) never)
    ends true o = omega arith
    ends false true = omega arith
    ends false false = omega arith

    ends_late : (p : Bool) → min (cond p (t5 - i.age) never) never ≡ cond p (t5 - i.age) never
    ends_late true = omega arith
    ends_late false = omega arith

in_a_row : (v w x y z : Turns)
    → together (together (together (together v w) x) y) z ≡ together v (together w (together x (together y z)))
in_a_row v w x y z =
    together_assoc (together (together v w) x) y z
    ∙ together_assoc (together v w) x (together y z)
    ∙ together_assoc v w (together x (together y z))

pub turns_of_seen : (c : Settings) (t : Track) → length t.islands ≡ 5 → c.t1 ≤ 65535 → c.t5 ≤ 65535
    → (r1 r2 r3 r4 : Turns)
    → r1 ≡ together (turns_in c.t1 c.t5 false (island_at t 0)) (turns_in c.t2 c.t5 true (island_at t 1))
    → r2 ≡ together r1 (turns_in c.t3 c.t5 false (island_at t 2))
    → r3 ≡ together r2 (turns_in c.t2 c.t5 true (island_at t 3))
    → r4 ≡ together r3 (turns_in c.t1 c.t5 false (island_at t 4))
    → r4 ≡ turns_of c t
unfolding turns_of
turns_of_seen c t len h1 h5 r1 r2 r3 r4 e1 e2 e3 e4 =
    rw (e4, e3, e2, e1)
    (in_a_row (in_zone advance 0) (in_zone warning 1) (in_zone crossing 2) (in_zone warning 3) (in_zone advance 4)
    ∙ ap (λ (x : Turns). together (in_zone advance 0) (together (in_zone warning 1) (together (in_zone crossing 2)
    (together (in_zone warning 3) x)))) (sym (alone c.t1 c.t5 false (island_at t 4) h1 h5))
    ∙ ap (turns_of c) (sym (is_five t len)))
  where
    in_zone : Zone → ℕ → Turns
    in_zone z k = turns_in (timer c z) c.t5 (is_warning z) (island_at t k)
