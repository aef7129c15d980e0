-- RFC 8259, section 3: `value_size` and `value_said` take exactly the values of the rules, without the blanks outside.
-- Assumes nothing.
use Prim.Native.Nat.{ℕ, zero, suc, ◌<◌}
use mathlib.Core.Bool.{false, cond, ◌||◌}
use mathlib.Core.List.{List}
use mathlib.Core.Path.{◌≡◌, refl, ap}
use borrow.Author.Tests.{eqb-true}
use lib.Dec.{eqb}
use lib.ListN.{length}
use Rattle.rules_json.specs.Abnf.{Rule}
use Rattle.rules_json.specs.Grammar.{DeepValue, ScalarRule, ValueRule, blank}
use Rattle.rules_json.specs.Reader.{at, bracketed_said, bracketed_size, member_said, member_size, scalar_said}
use Rattle.rules_json.specs.Reader.{scalar_size}
use Rattle.rules_json.specs.Reader.{value_said, value_size}
use Rattle.rules_json.specs.Tree.{Scalar, Tree, Value, array, object, scalar}
use Rattle.json_exact.proofs.Bracketed.{Bracket, Bracketed, bracketed_complete, bracketed_shorter}
use Rattle.json_exact.proofs.Bracketed.{bracketed_sound}
use Rattle.json_exact.proofs.Leading.{stop}
use Rattle.json_exact.proofs.Members.{MemberPart, member_exact}
use Rattle.json_exact.proofs.Rules.{Cores, Padded, bracketed_inward, bracketed_outward, member_cores}
use Rattle.json_exact.proofs.Scalars.{scalar_begins, scalar_complete, scalar_sound}
use Rattle.json_exact.proofs.Sizes.{Ends, Exact, no_value, unblank}
use Rattle.json_exact.proofs.Splits.{Left, Part, Spans, Takes, chosen_said, neither}

-- ---- values, where the values inside are known

module _ {A : Type 0} (C : A → Part) where
  abbrev pub ValuePart : Value A → Part
  ValuePart (scalar x) = Spans (ScalarRule x)
  ValuePart (object members) = Bracketed (MemberPart C) 0x7D 0x7B members
  ValuePart (array values) = Bracketed C 0x5D 0x5B values

brace : Bracket 0x7D
brace =
    record {
      no_blank = refl;
      no_comma = refl;
      no_number = refl;
      no_item = λ b h. (neither (blank b || eqb b 0x5D) (eqb b 0x7D) h).1;
    }

square : Bracket 0x5D
square =
    record {
      no_blank = refl;
      no_comma = refl;
      no_number = refl;
      no_item = λ b h. (neither (blank b) (eqb b 0x5D) (neither (blank b || eqb b 0x5D) (eqb b 0x7D) h).0).1;
    }

-- a scalar begins with none of these
scalar_tests : (x : Scalar) {s u : List ℕ} → Spans (ScalarRule x) s u
    → (no_value (at s 0) ≡ false) × (eqb (at s 0) 0x7B ≡ false) × (eqb (at s 0) 0x5B ≡ false)
scalar_tests x {s} w =
    let b = at s 0 in
    let (front, bracket) = neither (no_value b || eqb b 0x7B) (eqb b 0x5B) (scalar_begins x w).0 in
    let (begins, curly) = neither (no_value b) (eqb b 0x7B) front in
    (begins, curly, bracket)

module _ {A : Type 0} {C : A → Part} {size : List ℕ → ℕ} {said : List ℕ → A} (exact : Exact C size said) where
  abbrev size_of : List ℕ → ℕ
  size_of s =
      cond (eqb (at s 0) 0x7B) (bracketed_size 0x7D (member_size size) s)
      (cond (eqb (at s 0) 0x5B) (bracketed_size 0x5D size s) (scalar_size s))

  abbrev said_of : List ℕ → Value A
  said_of s =
      cond (eqb (at s 0) 0x7B) (object (bracketed_said 0x7D (member_size size) (member_said said) s))
      (cond (eqb (at s 0) 0x5B) (array (bracketed_said 0x5D size said s)) (scalar (scalar_said s)))

  value_sound : (s : List ℕ) → (size_of s ≡ 0 → ⊥) → Takes (ValuePart C (said_of s)) (size_of s) s
  value_sound s =
      chosen_said R (eqb (at s 0) 0x7B) _ _ _ _
      (λ e. bracketed_sound (member_exact exact) 0x7A 0x7C brace s (eqb-true (at s 0) 0x7B e))
      (λ _. chosen_said R (eqb (at s 0) 0x5B) _ _ _ _
      (λ e. bracketed_sound exact 0x5A 0x5C square s (eqb-true (at s 0) 0x5B e))
      (λ _. scalar_sound s))
    where
      R : Value A → ℕ → Type 0
      R x n = Takes (ValuePart C x) n s

  value_complete : (x : Value A) {s u : List ℕ} → ValuePart C x s u → Ends u → Left (size_of s) s u × (said_of s ≡ x)
  value_complete (scalar x) w end =
      let (left, is) = scalar_complete x w end in
      let (_, curly, bracket) = scalar_tests x w in
      (rw (curly, bracket) left, rw (curly, bracket) (ap scalar is))
  value_complete (object members) w end =
      let (left, is) = bracketed_complete (member_exact exact) 0x7A 0x7C brace w in
      let curly = ap (λ (l : List ℕ). eqb (at l 0) 0x7B) w.opened in
      (rw curly left, rw curly (ap object is))
  value_complete (array values) w end =
      let (left, is) = bracketed_complete exact 0x5A 0x5C square w in
      let curly = ap (λ (l : List ℕ). eqb (at l 0) 0x7B) w.opened in
      let bracket = ap (λ (l : List ℕ). eqb (at l 0) 0x5B) w.opened in
      (rw (curly, bracket) left, rw (curly, bracket) (ap array is))

  value_begins : (x : Value A) (s u : List ℕ) → ValuePart C x s u → (no_value (at s 0) ≡ false) × (length u < length s)
  value_begins (scalar x) s u w = ((scalar_tests x w).0, (scalar_begins x w).1)
  value_begins (object members) s u w =
      let less = bracketed_shorter (member_exact exact) 0x7A 0x7C brace w in
      (ap (λ (l : List ℕ). no_value (at l 0)) w.opened, less)
  value_begins (array values) s u w =
      let less = bracketed_shorter exact 0x5A 0x5C square w in
      (ap (λ (l : List ℕ). no_value (at l 0)) w.opened, less)

  value_exact : Exact (ValuePart C) size_of said_of
  value_exact =
      record {
        sound = value_sound;
        complete = λ {x} w end. value_complete x w end;
        begins = λ {x} {s} {u} w. value_begins x s u w;
      }

-- ---- the rules

module _ {A : Type 0} {P : A → Rule} {C : A → Part} (cores : Cores P C) where
  value_inward : (x : Value A) {s u : List ℕ} → Spans (ValueRule P x) s u → Padded (ValuePart C x) s u
  value_inward (scalar x) {s} {u} w = record { from = s; to = u; before = stop; part = w; after = stop }
  value_inward (object members) w = bracketed_inward (member_cores cores) 0x7D 0x7B w
  value_inward (array values) w = bracketed_inward cores 0x5D 0x5B w

  value_outward : (x : Value A) {s u : List ℕ} → ValuePart C x s u → Spans (ValueRule P x) s u
  value_outward (scalar x) w = w
  value_outward (object members) w = bracketed_outward (member_cores cores) 0x7D 0x7B w
  value_outward (array values) w = bracketed_outward cores 0x5D 0x5B w

-- ---- values of every depth

abbrev pub Core : (deep : ℕ) → Tree deep → Part
Core zero x = Spans (ScalarRule x)
Core (suc deep) x = ValuePart (Core deep) x

pub exact : (deep : ℕ) → Exact (Core deep) (value_size deep) (value_said deep)
unfolding value_size value_said
exact zero =
    record {
      sound = scalar_sound;
      complete = λ {x} w end. scalar_complete x w end;
      begins = λ {x} w. ((scalar_tests x w).0, (scalar_begins x w).1);
    }
exact (suc deep) = value_exact (exact deep)

pub cores : (deep : ℕ) → Cores (DeepValue deep) (Core deep)
cores zero =
    record {
      inward = λ {x} {s} {u} w. record { from = s; to = u; before = stop; part = w; after = stop };
      outward = λ w. w;
      unblank = λ {x} {s} {u} w. unblank (at s 0) (scalar_tests x w).0;
    }
cores (suc deep) =
    record {
      inward = λ {x} w. value_inward (cores deep) x w;
      outward = λ {x} w. value_outward (cores deep) x w;
      unblank = λ {x} {s} {u} w. unblank (at s 0) (value_begins (exact deep) x s u w).0;
    }
