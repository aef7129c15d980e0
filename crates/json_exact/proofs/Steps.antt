-- Steps, one after the other: `runs` and `collects` take exactly what steps have, if each step takes exactly what it
-- has. So strings, arrays and objects need one law, and as much fuel as there are octets is enough.
-- Assumes nothing.
use Prim.Native.Nat.{ℕ, zero, suc, ◌≤◌, ◌<◌}
use native.Mathlib.Omega.{arith}
use mathlib.Core.List.{List, [], ◌++◌, append-nil}
use mathlib.Core.Path.{◌≡◌, refl, sym, ap, ap₂, subst, ◌∙◌}
use lib.ListN.{drop, length}
use Rattle.rules_json.specs.Reader.{Step, collects, fails, goes_on, last, runs, said_after, size_after}
use Rattle.json_exact.proofs.Sizes.{further_left, further_takes}
use Rattle.json_exact.proofs.Splits.{Left, Part, Takes, takes}

-- steps that turn and then one that ends, with what they say
pub data Steps {A : Type 0} (End Turn : List A → Part) : List A → List ℕ → List ℕ → Type 0 where
  end : {x : List A} {s u : List ℕ} → End x s u → Steps End Turn x s u
  turn : {x xs : List A} {s m u : List ℕ} → Turn x s m → Steps End Turn xs m u → Steps End Turn (x ++ xs) s u

-- what a step that is taken has at the head of s
abbrev pub Fits : {A : Type 0} → (List A → Part) → (List A → Part) → List A → List ℕ → Step → Type 0
Fits End Turn x s fails = Unit
Fits End Turn x s (last n) = Takes (End x) n s
Fits End Turn x s (goes_on n) = Takes (Turn x) n s

module _ {A : Type 0} (step : List ℕ → Step) (says : List ℕ → List A) where
  -- a step of so many octets, with what it says
  pub record Stepped (kind : ℕ → Step) (x : List A) (s u : List ℕ) : Type 0 where
    pub size : ℕ
    pub is : step s ≡ kind size
    pub left : Left size s u
    pub said : says s ≡ x
    pub shorter : length u < length s

  pub record Laws (End Turn : List A → Part) : Type 0 where
    pub fits : (s : List ℕ) → Fits End Turn (says s) s (step s)
    pub at_end : {x : List A} {s u : List ℕ} → End x s u → Stepped last x s u
    pub at_turn : {x : List A} {s u : List ℕ} → Turn x s u → Stepped goes_on x s u

module _ {A : Type 0} {step : List ℕ → Step} {says : List ℕ → List A} {End Turn : List A → Part}
    (laws : Laws step says End Turn) where
  abbrev Run : List A → Part
  Run = Steps End Turn

  abbrev sizes : ℕ → List ℕ → ℕ → ℕ
  sizes k s n = runs step k (drop n s)

  abbrev values : ℕ → List ℕ → ℕ → List A
  values k s n = collects step says k (drop n s)

  abbrev Sound : ℕ → List ℕ → Type 0
  Sound k s = (runs step k s ≡ 0 → ⊥) → Takes (Run (collects step says k s)) (runs step k s) s

  pub runs_sound : (k : ℕ) (s : List ℕ) → Sound k s
  runs_sound zero s some = absurd (some refl)
  runs_sound (suc k) s some = go (step s) (laws.fits s) (λ l. runs_sound k l) some
    where
      go : (st : Step) → Fits End Turn (says s) s st → ((l : List ℕ) → Sound k l) → (size_after st (sizes k s) ≡ 0 → ⊥)
          → Takes (Run (says s ++ said_after st (values k s))) (size_after st (sizes k s)) s
      go fails w next z = absurd (z refl)
      go (last n) w next z =
          takes (Run (says s ++ [])) w.left
          (subst (λ (x : List A). Run x s (drop n s)) (sym (append-nil (says s))) (end w.part))
      go (goes_on n) w next z =
          further_takes (Run (says s ++ values k s n)) (Run (values k s n)) w.left (next (drop n s))
          (λ u r. turn w.part r) z

  pub shorter_steps : {x : List A} {s u : List ℕ} → Run x s u → length u < length s
  shorter_steps (end e) = (laws.at_end e).shorter
  shorter_steps (turn t r) = let less = (laws.at_turn t).shorter in let rest = shorter_steps r in omega arith

  abbrev After : ℕ → List A → List ℕ → List ℕ → Step → Type 0
  After k x s u st = Left (size_after st (sizes k s)) s u × (says s ++ said_after st (values k s) ≡ x)

  pub runs_complete : {x : List A} {s u : List ℕ} → Run x s u → (k : ℕ) → length s ≤ k
      → Left (runs step k s) s u × (collects step says k s ≡ x)
  runs_complete (end e) zero fuel = let w = laws.at_end e in let z : ⊥ = omega (arith, w.shorter) in absurd z
  runs_complete (end {x} {s} {u} e) (suc k) fuel =
      let w = laws.at_end e in
      subst (After k x s u) (sym w.is) (w.left, append-nil (says s) ∙ w.said)
  runs_complete (turn t r) zero fuel = let w = laws.at_turn t in let z : ⊥ = omega (arith, w.shorter) in absurd z
  runs_complete (turn {x} {xs} {s} {m} {u} t r) (suc k) fuel =
      let w = laws.at_turn t in
      let (left, said) = runs_complete r k (omega (arith, w.shorter)) in
      subst (After k (x ++ xs) s u) (sym w.is) (
        further_left (runs step k) w.left left (shorter_steps r),
        ap₂ (λ (p q : List A). p ++ q) w.said (ap (collects step says k) w.left.rest ∙ said),
      )
