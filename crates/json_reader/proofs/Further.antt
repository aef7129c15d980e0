-- Octets and more of them: none where there are none first, or no more.
-- Assumes nothing.
use Prim.Native.Nat.{ℕ}
use mathlib.Core.Bool.{Bool, cond}
use mathlib.Core.Path.{◌≡◌, ap}
use borrow.Author.Tests.{eq-eqb, ne_eqb}
use lib.Dec.{eqb}

pub cond_none : (m k : ℕ) → m ≡ 0 → cond (eqb m 0) 0 k ≡ 0
cond_none m k h = ap (λ (t : Bool). cond t 0 k) (eq-eqb m 0 h)

pub cond_some : (m k : ℕ) → (m ≡ 0 → ⊥) → cond (eqb m 0) 0 k ≡ k
cond_some m k h = ap (λ (t : Bool). cond t 0 k) (ne_eqb m 0 h)
