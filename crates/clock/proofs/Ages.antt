-- Ages n ticks later, and tracks n ticks later.
-- Assumes nothing.
use Prim.Native.Nat.{ℕ, zero, suc, ◌+◌, ◌≤◌, ◌<◌, min}
use native.Mathlib.Decide.{dec_le}
use native.Mathlib.Nat.{add-zero, lt_of_not-le}
use native.Mathlib.Omega.{arith}
use mathlib.Core.Path.{◌≡◌, refl, sym, ap, ap₂, ◌∙◌}
use mathlib.Core.Bool.{Bool, true, false, cond}
use mathlib.Core.List.{List, [], ◌∷◌, map}
use borrow.Author.Tests.{le-leb, lt-leb}
use lib.Dec.{leb}
use lib.ListN.{length, get_or, set}
use Rattle.islands.proofs.Below.{changed, changed_next}
use Rattle.clock.specs.Ages.{later, later_track}
use Rattle.rules.specs.Reports.{older, older_track}
use Rattle.rules.specs.declared.Island.{Island}
use Rattle.rules.specs.declared.Track.{Track}

-- two tests of one order
pub same_test : (a b c d : ℕ) → (a ≤ b → c ≤ d) → (c ≤ d → a ≤ b) → leb a b ≡ leb c d
same_test a b c d f g = go (dec_le a b)
  where
    go : Dec (a ≤ b) → leb a b ≡ leb c d
    go (yes h) = le-leb a b h ∙ sym (le-leb c d (f h))
    go (no h) = lt-leb a b (lt_of_not-le h) ∙ sym (lt-leb c d (lt_of_not-le (λ k. h (g k))))

-- ---- an age after n ticks

abbrev pub aged : ℕ → ℕ → ℕ
aged zero a = a
aged (suc n) a = min 65535 (aged n a + 1)

-- an island, of another age
abbrev pub of_age : Island → ℕ → Island
of_age i a = record { occupied = i.occupied; leaving = i.leaving; failed = i.failed; age = a }

abbrev pub after : ℕ → Island → Island
after n i = of_age i (cond i.occupied (aged n i.age) i.age)

step : (o : Bool) (m a : ℕ) → cond o (min 65535 (cond o m a + 1)) (cond o m a) ≡ cond o (min 65535 (m + 1)) a
step true m a = refl
step false m a = refl

start : (i : Island) → after 0 i ≡ i
start i = ap (of_age i) (same i.occupied)
  where
    same : (o : Bool) → cond o i.age i.age ≡ i.age
    same true = refl
    same false = refl

pub later_is : (n : ℕ) (i : Island) → later n i ≡ after n i
unfolding later older
later_is zero i = sym (start i)
later_is (suc n) i =
    ap older (later_is n i) ∙ ap (of_age i) (step i.occupied (aged n i.age) i.age)

aged_some : (n a : ℕ) → aged (suc n) a ≡ min 65535 (a + suc n)
aged_some zero a = omega arith
aged_some (suc n) a = omega (arith, aged_some n a)

-- an age that the code can hold
pub aged_is : (n a : ℕ) → a ≤ 65535 → aged n a ≡ min 65535 (a + n)
aged_is zero a h = omega arith
aged_is (suc n) a h = aged_some n a

-- in one step, as the code takes it
pub later_occupied : (n : ℕ) (i : Island) (a : ℕ) → i.occupied ≡ true → i.age ≤ 65535 → a ≡ min (i.age + n) 65535
    → of_age i a ≡ later n i
later_occupied n i a o h e = ap (of_age i) (e ∙ turned ∙ sym (aged_is n i.age h) ∙ picked) ∙ sym (later_is n i)
  where
    turned : min (i.age + n) 65535 ≡ min 65535 (i.age + n)
    turned = omega arith

    picked : aged n i.age ≡ cond i.occupied (aged n i.age) i.age
    picked = ap (λ (b : Bool). cond b (aged n i.age) i.age) (sym o)

pub later_free : (n : ℕ) (i : Island) → i.occupied ≡ false → i ≡ later n i
later_free n i o = ap (λ (b : Bool). of_age i (cond b (aged n i.age) i.age)) (sym o) ∙ sym (later_is n i)

-- one island more in a list whose first are n ticks later
module _ (n k : ℕ) (l m : List Island) (d : Island) (h : k < length l) (h' : k < length m)
    (e : m ≡ changed (later n) k l) where
  pub occupied_next : (a : ℕ) → (get_or m k d).occupied ≡ true → (get_or m k d).age ≤ 65535
      → a ≡ min ((get_or m k d).age + n) 65535 → set m k (of_age (get_or m k d) a) ≡ changed (later n) (k + 1) l
  occupied_next a o b g =
      changed_next (later n) k l m d (of_age (get_or m k d) a) h h' e (later_occupied n (get_or m k d) a o b g)

  pub free_next : (get_or m k d).occupied ≡ false → set m k (get_or m k d) ≡ changed (later n) (k + 1) l
  free_next o = changed_next (later n) k l m d (get_or m k d) h h' e (later_free n (get_or m k d) o)

-- a timer is reached by an age that has stopped exactly when it would be by one that had not
pub reach : (n a timer : ℕ) → timer ≤ 65535 → leb timer (aged n a) ≡ leb timer (a + n)
reach zero a timer h = ap (leb timer) (sym (add-zero a))
reach (suc n) a timer h =
    ap (leb timer) (aged_some n a)
    ∙ same_test timer (min 65535 (a + suc n)) timer (a + suc n) (λ k. omega arith) (λ k. omega arith)

-- ---- tracks later

track_now : (t : Track) → later_track 0 t ≡ t
unfolding later_track later
track_now t = ap (λ (l : List Island). record { islands = l }) (now t.islands)
  where
    now : (l : List Island) → map (later 0) l ≡ l
    now [] = refl
    now (i ∷ l) = ap (λ (m : List Island). i ∷ m) (now l)

track_older : (n : ℕ) (t : Track) → older_track (later_track n t) ≡ later_track (suc n) t
unfolding later_track later older_track
track_older n t = ap (λ (l : List Island). record { islands = l }) (next t.islands)
  where
    next : (l : List Island) → map older (map (later n) l) ≡ map (later (suc n)) l
    next [] = refl
    next (i ∷ l) = ap (λ (m : List Island). older (later n i) ∷ m) (next l)

pub tracks_now : (l : List Track) → map (later_track 0) l ≡ l
tracks_now [] = refl
tracks_now (t ∷ l) = ap₂ ◌∷◌ (track_now t) (tracks_now l)

pub tracks_older : (n : ℕ) (l : List Track) → map older_track (map (later_track n) l) ≡ map (later_track (suc n)) l
tracks_older n [] = refl
tracks_older n (t ∷ l) = ap₂ ◌∷◌ (track_older n t) (tracks_older n l)
