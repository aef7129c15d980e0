-- What steps say from a text on, with more steps than the text has octets: still more would say no more.
-- Assumes nothing.
use Prim.Native.Nat.{ℕ, zero, suc, ◌≤◌, ◌<◌}
use mathlib.Core.List.{List, [], ◌∷◌, ◌++◌}
use mathlib.Core.Path.{◌≡◌, ap, refl, sym, ◌∙◌}
use native.Mathlib.Omega.{arith}
use lib.ListN.{drop, length, length-drop}
use Rattle.json_reader.proofs.Turning.{Grows, Turning}
use Rattle.rules_json.specs.Reader.{Step, collects, fails, goes_on, last, said_after}

module _ {A : Type 0} where
  unfoldable pub told : (List ℕ → Step) → (List ℕ → List A) → List ℕ → List A
  told step says s = collects step says (suc (length s)) s

  same_after : (x : Step) → Grows x → (f g : ℕ → List A) → ((n : ℕ) → 1 ≤ n → f n ≡ g n) →
      said_after x f ≡ said_after x g
  same_after fails h f g e = refl
  same_after (last n) h f g e = refl
  same_after (goes_on n) h f g e = e n h

  module _ {step : List ℕ → Step} (turning : Turning step) (says : List ℕ → List A) where
    -- what the steps behind the first one say
    behind_first : (k m : ℕ) (s : List ℕ)
        → ((n : ℕ) → 1 ≤ n → collects step says k (drop n s) ≡ collects step says m (drop n s))
        → collects step says (suc k) s ≡ collects step says (suc m) s
    behind_first k m s h = ap (λ l. says s ++ l) (same_after (step s) (turning.grows s) _ _ h)

    at_end : (k : ℕ) → collects step says (suc k) [] ≡ says [] ++ []
    at_end k = ap (λ x. says [] ++ said_after x (λ n. collects step says k (drop n []))) turning.none

    enough : (k m : ℕ) (s : List ℕ) → length s < k → length s < m → collects step says k s ≡ collects step says m s
    enough zero m s h l = absurd (omega arith)
    enough (suc k) zero s h l = absurd (omega arith)
    enough (suc k) (suc m) [] h l = at_end k ∙ sym (at_end m)
    enough (suc k) (suc m) (b ∷ s) h l =
        behind_first k m (b ∷ s)
        (λ n one. enough k m (drop n (b ∷ s)) (omega (arith, length-drop n (b ∷ s)))
        (omega (arith, length-drop n (b ∷ s))))

    pub told_enough : (k : ℕ) (s : List ℕ) → length s < k → collects step says k s ≡ told step says s
    unfolding told
    told_enough k s h = enough k (suc (length s)) s h (omega arith)

    -- the first step, and those behind it
    pub unrolled : (s : List ℕ) (x : Step) → step s ≡ x
        → told step says s ≡ says s ++ said_after x (λ n. told step says (drop n s))
    unfolding told
    unrolled [] x e =
        at_end 0
        ∙ sym (ap (λ y. says [] ++ said_after y (λ n. told step says (drop n []))) (sym e ∙ turning.none))
    unrolled (b ∷ s) x e =
        ap (λ l. says (b ∷ s) ++ l)
        (same_after (step (b ∷ s)) (turning.grows (b ∷ s)) _ _
        (λ n one. told_enough (suc (length s)) (drop n (b ∷ s)) (omega (arith, length-drop n (b ∷ s))))
        ∙ ap (λ y. said_after y (λ n. told step says (drop n (b ∷ s)))) e)
