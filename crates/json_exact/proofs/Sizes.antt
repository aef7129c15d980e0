-- A size that a reader tells of a text, and the parts that it is made of: one part and then another, with 0 where the
-- other is missing.
-- Assumes nothing.
use Prim.Native.Nat.{ℕ, ◌+◌, ◌<◌}
use native.Mathlib.Omega.{arith}
use mathlib.Core.Bool.{Bool, false, cond, ◌||◌}
use mathlib.Core.List.{List}
use mathlib.Core.Path.{◌≡◌, refl, sym, subst}
use borrow.Author.Tests.{eqb-false, ne_eqb}
use lib.Dec.{eqb}
use lib.ListN.{drop, length}
use Rattle.rules_json.specs.Grammar.{blank, digit, e}
use Rattle.rules_json.specs.Reader.{at, further}
use Rattle.json_exact.proofs.Splits.{Left, Part, Takes, chosen, left_add, neither, takes}

-- ---- one part and then another

pub nonzero : {n : ℕ} {s u : List ℕ} → Left n s u → length u < length s → eqb n 0 ≡ false
nonzero {n} h less = ne_eqb n 0 (λ z. omega arith)

pub further_takes : {n k : ℕ} {s m : List ℕ} (C D : Part) → Left n s m → ((k ≡ 0 → ⊥) → Takes D k m)
    → ((u : List ℕ) → D m u → C s u) → (further n k ≡ 0 → ⊥) → Takes C (further n k) s
further_takes {n} {k} {s} C D h next whole =
    chosen (λ l. Takes C l s) (eqb k 0) 0 (n + k) (λ _ z. absurd (z refl))
    (λ e _. let w = next (eqb-false k 0 e) in takes C (left_add h w.left) (whole _ w.part))

pub left_then : {n : ℕ} {s m u : List ℕ} (size : List ℕ → ℕ) → Left n s m → Left (size m) m u
    → Left (n + size (drop n s)) s u
left_then {n} {s} {u} size h j =
    subst (λ (l : List ℕ). Left (n + size l) s u) (sym h.rest) (left_add h j)

pub past : {n k : ℕ} {s m u : List ℕ} → Left n s m → length m < length s → Left k s u → Left (cond (eqb n 0) 0 k) s u
past {k} {s} {u} h less j = subst (λ (t : Bool). Left (cond t 0 k) s u) (sym (nonzero h less)) j

pub further_left : {n : ℕ} {s m u : List ℕ} (size : List ℕ → ℕ) → Left n s m → Left (size m) m u → length u < length m
    → Left (further n (size (drop n s))) s u
further_left {n} {s} {m} {u} size h j less =
    subst (λ (l : List ℕ). Left (cond (eqb (size l) 0) 0 (n + size l)) s u) (sym h.rest)
    (subst (λ (t : Bool). Left (cond t 0 (n + size m)) s u) (sym (nonzero j less)) (left_add h j))

-- ---- a reader that takes exactly some parts

-- an octet that goes on a number
abbrev pub goes_on : ℕ → Bool
goes_on b = digit b || eqb b 0x2E || e b

abbrev pub Ends : List ℕ → Type 0
Ends u = goes_on (at u 0) ≡ false

-- an octet that may stand where an item may, and begins none
abbrev pub no_value : ℕ → Bool
no_value b = blank b || eqb b 0x5D || eqb b 0x7D

pub unblank : (b : ℕ) → no_value b ≡ false → blank b ≡ false
unblank b h = (neither (blank b) (eqb b 0x5D) (neither (blank b || eqb b 0x5D) (eqb b 0x7D) h).0).0

pub record Exact {A : Type 0} (C : A → Part) (size : List ℕ → ℕ) (said : List ℕ → A) : Type 0 where
  pub sound : (s : List ℕ) → (size s ≡ 0 → ⊥) → Takes (C (said s)) (size s) s
  pub complete : {x : A} {s u : List ℕ} → C x s u → Ends u → Left (size s) s u × (said s ≡ x)
  pub begins : {x : A} {s u : List ℕ} → C x s u → (no_value (at s 0) ≡ false) × (length u < length s)
