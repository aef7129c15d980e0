-- Octets of a class at the head of a text: `leading` counts exactly those that the rules `*class` and `1*class` take.
-- Assumes nothing.
use Prim.Native.Nat.{ℕ, zero, suc, ◌<◌}
use mathlib.Core.Bool.{Bool, true, false, cond}
use mathlib.Core.List.{List, [], ◌∷◌}
use mathlib.Core.Path.{◌≡◌, refl, sym, ap, subst, ◌∙◌}
use lib.ListN.{drop, length}
use Rattle.rules_json.specs.Abnf.{at_least_one, many, one, times}
use Rattle.rules_json.specs.Reader.{at, leading}
use native.Mathlib.Omega.{arith}
use Rattle.json_exact.proofs.Splits.{Left, Spans, Takes, by_test, cut, join, left_cons, left_none, no_longer}
use Rattle.json_exact.proofs.Splits.{of_class, recast, single, spelled}

pub data Run (class : ℕ → Bool) : List ℕ → List ℕ → Type 0 where
  stop : {s : List ℕ} → Run class s s
  more : {b : ℕ} {s u : List ℕ} → class b ≡ true → Run class s u → Run class (b ∷ s) u

-- ---- the rules

module _ {class : ℕ → Bool} where
  pub run_on : {s m u : List ℕ} → Run class s m → Run class m u → Run class s u
  run_on stop r = r
  run_on (more h q) r = more h (run_on q r)

  pub many_of : {s u : List ℕ} → Run class s u → Spans (many (one class)) s u
  many_of stop = record { text = []; split = refl; of = (0, refl) }
  many_of (more {b} h r) =
      let w = many_of r in
      record {
        text = b ∷ w.text;
        split = ap {B = List ℕ} (λ l. b ∷ l) w.split;
        of = (suc w.of.0, (b ∷ [], w.text, refl, (b, refl, h), w.of.1));
      }

  run_times : (n : ℕ) (s u : List ℕ) → Spans (times n (one class)) s u → Run class s u
  run_times zero s u w = subst (λ (l : List ℕ). Run class l u) (sym (spelled {word = []} w)) stop
  run_times (suc n) s u w =
      let (m, p, q) = cut (one class) (times n (one class)) w in
      let (b, e, h) = single p in
      subst (λ (l : List ℕ). Run class l u) (sym e) (more h (run_times n m u q))

  pub run_of : {s u : List ℕ} → Spans (many (one class)) s u → Run class s u
  run_of {s} {u} w = run_times w.of.0 s u (recast w w.of.1)

-- ---- the count

module _ (class : ℕ → Bool) where
  pub taken : (s : List ℕ) → Takes (Run class) (leading class s) s
  taken [] = record { left = left_none; part = stop }
  taken (b ∷ s) =
      by_test (λ t. Takes (Run class) (cond t (suc (leading class s)) 0) (b ∷ s)) (class b)
      (λ e. let w = taken s in record { left = left_cons b w.left; part = more e w.part })
      (λ e. record { left = left_none; part = stop })

  -- what stands behind them is not of the class
  pub ended : class 0 ≡ false → (s : List ℕ) → class (at (drop (leading class s) s) 0) ≡ false
  ended z [] = z
  ended z (b ∷ s) =
      by_test (λ t. class (at (drop (cond t (suc (leading class s)) 0) (b ∷ s)) 0) ≡ false)
      (class b) (λ e. ended z s) (λ e. e)

  none_leading : (s : List ℕ) → class (at s 0) ≡ false → leading class s ≡ 0
  none_leading [] e = refl
  none_leading (b ∷ s) e = ap (λ (t : Bool). cond t (suc (leading class s)) 0) e

  -- and no other count has this
  pub all_leading : {s u : List ℕ} → Run class s u → class (at u 0) ≡ false → Left (leading class s) s u
  all_leading {u} stop e = subst (λ (n : ℕ). Left n u u) (sym (none_leading u e)) left_none
  all_leading (more {b} {s} {u} h r) e =
      subst (λ (t : Bool). Left (cond t (suc (leading class s)) 0) (b ∷ s) u) (sym h) (left_cons b (all_leading r e))

  -- ---- one of them or more

  some_of : {s u : List ℕ} → Run class s u → length u < length s → Spans (at_least_one (one class)) s u
  some_of stop less = let z : ⊥ = omega arith in absurd z
  some_of (more {b} h r) less = join (of_class b refl h) (many_of r)

  pub at_least_one_lem : (s : List ℕ) → (leading class s ≡ 0 → ⊥)
      → Takes (Spans (at_least_one (one class))) (leading class s) s
  at_least_one_lem s some =
      let w = taken s in
      record { left = w.left; part = some_of w.part (omega (arith, w.left.count)) }

  pub run_of_some : {s u : List ℕ} → Spans (at_least_one (one class)) s u
      → Run class s u × (class (at s 0) ≡ true) × (length u < length s)
  run_of_some {s} {u} w =
      let (m, p, q) = cut (one class) (many (one class)) w in
      let (b, e, h) = single p in (
        subst (λ (l : List ℕ). Run class l u) (sym e) (more h (run_of q)),
        ap (λ (l : List ℕ). class (at l 0)) e ∙ h,
        omega (arith, no_longer q, ap length e),
      )
