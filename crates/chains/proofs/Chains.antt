-- Tests in an order: what the first that refuses gives, and what is left when one passes.
-- Assumes nothing.
use Prim.Native.Nat.{ℕ, suc, ◌<◌}
use native.Mathlib.Omega.{arith}
use mathlib.Core.Logic.{◌⊎◌, inl, inr}
use mathlib.Core.Path.{◌≡◌, refl, sym, ap, ◌∙◌}
use mathlib.Core.Bool.{Bool, true, false, false≢true, true≢false, cond, ◌&&◌, ◌||◌}
use borrow.Author.Tests.{eq-eqb, eqb-false, eqb-true, ne_eqb}
use lib.Dec.{eqb}
use Rattle.std.proofs.lemmas.Bool.Decides.{nat_tests}
use Rattle.rules.specs.Answered.{refusal_number}
use Rattle.rules.specs.Words.{◌if◌then◌, ◌▷◌}
use Rattle.rules.specs.declared.Refusal.{Refusal}

-- the tests in their order as nested choices, for `grind`
pub then_is : (n : ℕ) (t : Bool) (m : ℕ) → (n if t then m) ≡ cond t n m
unfolding ◌if◌then◌
then_is n t m = refl

pub ruleset in_order = (then_is, nat_tests)

pub refuses : (n m : ℕ) (t : Bool) → t ≡ true → n ≡ (n if t then m)
unfolding ◌if◌then◌
refuses n m t e = sym (ap (λ (b : Bool). cond b n m) e)

pub passes : (x n m : ℕ) (t : Bool) → t ≡ false → x ≡ m → x ≡ (n if t then m)
unfolding ◌if◌then◌
passes x n m t e h = h ∙ sym (ap (λ (b : Bool). cond b n m) e)

-- no refusal has the number 0
refused : (e : Refusal) → eqb (refusal_number e) 0 ≡ false
refused Refusal.NoSuchKind = refl
refused Refusal.BadField = refl
refused Refusal.NoSuchTrack = refl
refused Refusal.NoSuchIsland = refl
refused Refusal.NoSuchHead = refl
refused Refusal.AlreadySo = refl
refused Refusal.NotClear = refl
refused Refusal.OutsideLimits = refl
refused Refusal.NotARegister = refl
refused Refusal.OtherVersion = refl
refused Refusal.CutEntry = refl
refused Refusal.NoRoom = refl
refused Refusal.NoSuchRow = refl
refused Refusal.NotJson = refl
refused Refusal.BadMember = refl

-- groups of tests: the first one's refusal is handed on, and where it refuses nothing, the second decides
module _ (x y : ℕ) where
  pub handed_on : (e : Refusal) → x ≡ refusal_number e → x ▷ y ≡ refusal_number e
  unfolding ◌▷◌
  handed_on e h = ap (λ (n : ℕ). cond (eqb n 0) y n) h ∙ ap (λ (b : Bool). cond b y (refusal_number e)) (refused e)

  pub goes_on : x ≡ 0 → x ▷ y ≡ y
  unfolding ◌▷◌
  goes_on h = ap (λ (b : Bool). cond b y x) (eq-eqb x 0 h)

pub ruleset groups = (handed_on, goes_on)

-- the same of groups of tests, where v is what was worked out of the first group
pub group_refuses : (v x y : ℕ) → v ≡ x → (v ≡ 0 → ⊥) → v ≡ (x ▷ y)
unfolding ◌▷◌
group_refuses v x y e h = e ∙ sym (ap (λ (b : Bool). cond b y x) (ne_eqb x 0 (λ q. h (e ∙ q))))

pub group_passes : (v x y z : ℕ) → v ≡ x → v ≡ 0 → z ≡ y → z ≡ (x ▷ y)
unfolding ◌▷◌
group_passes v x y z e h k = k ∙ sym (ap (λ (b : Bool). cond b y x) (eq-eqb x 0 (sym e ∙ h)))

-- groups of tests that answer the same, the second wherever the first refuses nothing
pub same_order : (x x' y y' : ℕ) → x ≡ x' → (x ≡ 0 → y ≡ y') → x ▷ y ≡ x' ▷ y'
unfolding ◌▷◌
same_order x x' y y' e f = go (eqb x 0) refl ∙ ap (λ (n : ℕ). cond (eqb n 0) y' n) e
  where
    go : (b : Bool) → eqb x 0 ≡ b → cond (eqb x 0) y x ≡ cond (eqb x 0) y' x
    go true q = rw q (f (eqb-true x 0 q))
    go false q = rw q

-- an answer of 0 says that both groups refuse nothing
pub both_done : (x y : ℕ) → x ▷ y ≡ 0 → (x ≡ 0) × (y ≡ 0)
unfolding ◌▷◌
both_done x y e = go (eqb x 0) refl e
  where
    go : (b : Bool) → eqb x 0 ≡ b → cond b y x ≡ 0 → (x ≡ 0) × (y ≡ 0)
    go true q z = (eqb-true x 0 q, z)
    go false q z = absurd (eqb-false x 0 q z)

-- an answer of 0 says that a test that would refuse did not
pub passed : (n : ℕ) (t : Bool) (rest : ℕ) → (suc n if t then rest) ≡ 0 → (t ≡ false) × (rest ≡ 0)
unfolding ◌if◌then◌
passed n true rest e = let z : ⊥ = omega arith in absurd z
passed n false rest e = (refl, e)

-- both of two tests hold
pub both : (p q : Bool) → p && q ≡ true → (p ≡ true) × (q ≡ true)
both true q e = (refl, e)
both false q e = absurd (false≢true e)

-- one of two tests holds
pub either : {A B : Type 0} (p q : Bool) → (p ≡ true → A) → (q ≡ true → B) → p || q ≡ true → A ⊎ B
either true q f g e = inl (f refl)
either false q f g e = inr (g e)

-- neither of two tests holds
pub neither : (p q : Bool) → p || q ≡ false → (p ≡ false) × (q ≡ false)
neither true q e = absurd (true≢false e)
neither false q e = (refl, e)

-- of two outcomes, the one for an answer of 0, and the other
pub where_done : {A : Type 0} (n : ℕ) (x y : A) → n ≡ 0 → cond (eqb n 0) x y ≡ x
where_done {A} n x y e = ap {B = A} (λ (b : Bool). cond b x y) (eq-eqb n 0 e)

pub where_refused : {A : Type 0} (n : ℕ) (x y : A) → (n ≡ 0 → ⊥) → cond (eqb n 0) x y ≡ y
where_refused {A} n x y h = ap {B = A} (λ (b : Bool). cond b x y) (ne_eqb n 0 h)

-- what is so of each number is so of the answer
pub test_so : (P : ℕ → Type 0) (n m : ℕ) (t : Bool) → P n → P m → P (n if t then m)
unfolding ◌if◌then◌
test_so P n m true h g = h
test_so P n m false h g = g

pub group_so : (P : ℕ → Type 0) (x y : ℕ) → P x → P y → P (x ▷ y)
unfolding ◌▷◌
group_so P x y h g = go (eqb x 0)
  where
    go : (t : Bool) → P (cond t y x)
    go true = g
    go false = h

-- so a bound on each is a bound on it
pub test_below : (k n m : ℕ) (t : Bool) → n < k → m < k → (n if t then m) < k
test_below k = test_so (λ n. n < k)

pub group_below : (k x y : ℕ) → x < k → y < k → (x ▷ y) < k
group_below k = group_so (λ n. n < k)
