-- What the definitions say of a kind, by its number: the numbers 0 to 7, and every number above them.
-- Assumes nothing.
use Prim.Native.Nat.{ℕ, zero, suc, ◌<◌}
use native.Mathlib.Omega.{arith}
use mathlib.Core.Path.{◌≡◌, refl}
use mathlib.Core.Bool.{false}
use borrow.Author.Tests.{ne_eqb}
use lib.Dec.{eqb}
use Rattle.rules.specs.Answers.{blocked}
use Rattle.rules.specs.Kinds.{kind_of}
use Rattle.rules.specs.declared.Station.{Station}

-- the eighth number after k
abbrev pub past : ℕ → ℕ
past k = suc (suc (suc (suc (suc (suc (suc (suc k)))))))

pub by_number : (P : ℕ → Type 0) → P 0 → P 1 → P 2 → P 3 → P 4 → P 5 → P 6 → P 7 → ((k : ℕ) → P (past k))
    → (k : ℕ) → P k
by_number P a b c d e f g h more zero = a
by_number P a b c d e f g h more (suc zero) = b
by_number P a b c d e f g h more (suc (suc zero)) = c
by_number P a b c d e f g h more (suc (suc (suc zero))) = d
by_number P a b c d e f g h more (suc (suc (suc (suc zero)))) = e
by_number P a b c d e f g h more (suc (suc (suc (suc (suc zero))))) = f
by_number P a b c d e f g h more (suc (suc (suc (suc (suc (suc zero)))))) = g
by_number P a b c d e f g h more (suc (suc (suc (suc (suc (suc (suc zero))))))) = h
by_number P a b c d e f g h more (suc (suc (suc (suc (suc (suc (suc (suc k)))))))) = more k

pub other : (k j : ℕ) → j < 8 → eqb (past k) j ≡ false
other k j h = ne_eqb (past k) j (λ e. omega arith)

-- Only normalise is blocked.
pub not_blocked : (s : Station) (k : ℕ) → (k ≡ 7 → ⊥) → blocked (kind_of k) s ≡ false
unfolding kind_of
not_blocked s =
    by_number (λ k. (k ≡ 7 → ⊥) → blocked (kind_of k) s ≡ false)
    (λ a. refl)
    (λ a. refl)
    (λ a. refl)
    (λ a. refl)
    (λ a. refl)
    (λ a. refl)
    (λ a. refl)
    (λ a. absurd (a refl))
    (λ k a. refl)
