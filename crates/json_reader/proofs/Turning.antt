-- What steps take from a text on, with as many steps as the text has octets: more would take no more.
-- Assumes nothing.
use mathlib.Core.Path.{◌≡◌, refl, sym, ap}
use mathlib.Core.List.{List, [], ◌∷◌}
use Prim.Native.Nat.{ℕ, zero, suc, ◌≤◌}
use native.Mathlib.Omega.{arith}
use lib.ListN.{drop, length, length-drop}
use Rattle.rules_json.specs.Reader.{Step, fails, last, goes_on, further, runs, size_after}

pub through : (List ℕ → Step) → List ℕ → ℕ
through step s = runs step (length s) s

-- a step that goes on takes something
abbrev pub Grows : Step → Type 0
Grows fails = Unit {0}
Grows (last n) = Unit {0}
Grows (goes_on n) = 1 ≤ n

same_after : (x : Step) → Grows x → (f g : ℕ → ℕ) → ((n : ℕ) → 1 ≤ n → f n ≡ g n) → size_after x f ≡ size_after x g
same_after fails h f g e = refl
same_after (last n) h f g e = refl
same_after (goes_on n) h f g e = ap (further n) (e n h)

shorter : (s : List ℕ) (n k : ℕ) → 1 ≤ n → length s ≤ suc k → length (drop n s) ≤ k
shorter s n k h l = omega (arith, length-drop n s)

pub record Turning (step : List ℕ → Step) : Type 0 where
  pub none : step [] ≡ fails
  pub grows : (s : List ℕ) → Grows (step s)

module _ {step : List ℕ → Step} (turning : Turning step) where
  nothing : (k : ℕ) (s : List ℕ) → length s ≤ 0 → runs step k s ≡ 0
  nothing zero s h = refl
  nothing (suc k) [] h = ap (λ x. size_after x (λ n. runs step k (drop n []))) turning.none
  nothing (suc k) (b ∷ s) h = absurd (omega arith)

  enough : (k m : ℕ) (s : List ℕ) → length s ≤ k → length s ≤ m → runs step k s ≡ runs step m s
  enough zero m s h l = sym (nothing m s h)
  enough (suc k) zero s h l = nothing (suc k) s l
  enough (suc k) (suc m) s h l =
      same_after (step s) (turning.grows s) _ _
      (λ n one. enough k m (drop n s) (shorter s n k one h) (shorter s n m one l))

  pub through_enough : (k : ℕ) (s : List ℕ) → length s ≤ k → runs step k s ≡ through step s
  unfolding through
  through_enough k s h = enough k (length s) s h (omega arith)

  -- the first step, and those behind it
  pub unrolled : (s : List ℕ) → through step s ≡ size_after (step s) (λ n. through step (drop n s))
  unfolding through
  unrolled [] = sym (ap (λ x. size_after x (λ n. through step (drop n []))) turning.none)
  unrolled (b ∷ s) =
      same_after (step (b ∷ s)) (turning.grows (b ∷ s)) _ _
      (λ n one. through_enough (length s) (drop n (b ∷ s)) (shorter (b ∷ s) n (length s) one (omega arith)))
