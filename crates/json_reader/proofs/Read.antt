-- Past what was read: none where none were.
-- Assumes nothing.
use Prim.Native.Nat.{ℕ, zero, suc, ◌+◌}
use mathlib.Core.Bool.{Bool, cond, false, true}
use mathlib.Core.Path.{◌≡◌, ap, refl, sym}
use native.Mathlib.Nat.{add-zero}
use native.Mathlib.Omega.{arith}
use Rattle.std.specs.Prelude.{None, Some, unwrap_or}
use Rattle.std.specs.Bool.{then_some}
use Rattle.json_reader.proofs.Further.{cond_some}
use Rattle.rules_json.specs.Reader.{further, past}

module _ (p : ℕ) where
  pub past_none : {n : ℕ} → n ≡ 0 → past p n ≡ None
  unfolding past
  past_none h = ap (past p) h

  pub past_some : {n r : ℕ} → (n ≡ 0 → ⊥) → r ≡ p + n → past p n ≡ Some r
  unfolding past
  past_some {n = zero} h e = absurd (h refl)
  past_some {n = suc n} h e = ap Some (sym e)

  -- so many octets where a test holds
  pub past_if : (n : ℕ) (t : Bool) → past p (cond t (suc n) 0) ≡ then_some t (p + suc n)
  unfolding past
  past_if n true = refl
  past_if n false = refl

  pub past_further : (n m : ℕ) → past p (further n m) ≡ past (p + n) m
  unfolding past
  past_further n zero = refl
  past_further n (suc m) =
      let more = cond_some (suc m) (n + suc m) (λ e. omega arith) in
      past_some (λ e. omega (arith, more)) (omega (arith, more))

  -- what was read, by what came back

  pub none_read : (n : ℕ) → None ≡ past p n → n ≡ 0
  unfolding past
  none_read zero e = refl
  none_read (suc n) e = absurd (cc)

  pub some_read : (n r : ℕ) → Some r ≡ past p n → (r ≡ p + n) × (n ≡ 0 → ⊥)
  unfolding past
  some_read zero r e = absurd (cc)
  some_read (suc n) r e = (cc, λ h. omega arith)

  pub read_or_not : (n : ℕ) → unwrap_or (past p n) p ≡ p + n
  unfolding past
  read_or_not zero = sym (add-zero p)
  read_or_not (suc n) = refl
