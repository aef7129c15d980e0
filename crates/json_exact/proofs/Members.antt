-- RFC 8259, section 4: `member_size` and `member_said` take exactly a name, a separator and a value, if the reader of a
-- value takes exactly a value.
-- Assumes nothing.
use Prim.Native.Nat.{ℕ, ◌+◌, ◌<◌}
use native.Mathlib.Omega.{arith}
use mathlib.Core.Bool.{false}
use mathlib.Core.List.{List}
use mathlib.Core.Path.{◌≡◌, refl, ap, ◌∙◌}
use borrow.Author.Tests.{eq-eqb, eqb-false, eqb-true}
use lib.Dec.{eqb}
use lib.ListN.{drop, length}
use Rattle.rules_json.specs.Grammar.{String}
use Rattle.rules_json.specs.Reader.{at, blanks, member_said, member_size, name_size, separator_size, string_size}
use Rattle.rules_json.specs.Reader.{string_units}
use Rattle.rules_json.specs.Tree.{Member}
use Rattle.json_exact.proofs.Blanks.{Separated, all_blanks, at_left, blanks_taken, separated_left}
use Rattle.json_exact.proofs.Blanks.{separated_shorter, separated_sound}
use Rattle.json_exact.proofs.Sizes.{Ends, Exact, further_left, further_takes, no_value, past}
use Rattle.json_exact.proofs.Splits.{Left, Part, Spans, Takes, chosen}
use Rattle.json_exact.proofs.Strings.{string_complete, string_sound}

-- ---- a name with its separator

separator_sound : (s : List ℕ) → (separator_size s ≡ 0 → ⊥) → Takes (Separated 0x3A) (separator_size s) s
separator_sound s =
    let n = blanks s in
    chosen (λ k. Takes (Separated 0x3A) k s) (eqb (at s n) 0x3A) (n + 1 + blanks (drop (n + 1) s)) 0
    (λ q _. let before = blanks_taken s in
    let w = separated_sound 0x39 before.left before.part (eqb-true (at s n) 0x3A q) in
    record { left = w.left; part = w.part }) (λ _ z. absurd (z refl))

separator_complete : {s u : List ℕ} → Separated 0x3A s u → Left (separator_size s) s u
separator_complete {s} w =
    let left = all_blanks w.before refl in
    rw (eq-eqb (at s (blanks s)) 0x3A (at_left left)) (separated_left w left)

pub record Named (units s u : List ℕ) : Type 0 where
  pub rest : List ℕ
  pub string : Spans (String units) s rest
  pub separator : Separated 0x3A rest u

name_sound : (s : List ℕ) → (name_size s ≡ 0 → ⊥) → Takes (Named (string_units s)) (name_size s) s
unfolding name_size
name_sound s =
    let rest = drop (string_size s) s in
    chosen (λ n. Takes (Named (string_units s)) n s) (eqb (string_size s) 0) 0 _ (λ _ z. absurd (z refl))
    (λ some. let w = string_sound s (eqb-false (string_size s) 0 some) in
    further_takes (Named (string_units s)) (Separated 0x3A) w.left (separator_sound rest)
    (λ u p. record { rest = rest; string = w.part; separator = p }))

name_complete : {units s u : List ℕ} → Named units s u → Left (name_size s) s u
unfolding name_size
name_complete n =
    let q = string_complete n.string in
    let separator = separator_complete n.separator in
    past q.left q.shorter (further_left separator_size q.left separator (separated_shorter n.separator))

name_shorter : {units s u : List ℕ} → Named units s u → length u < length s
name_shorter n = omega (arith, (string_complete n.string).shorter, separated_shorter n.separator)

-- ---- a member

pub record MemberPart {A : Type 0} (C : A → Part) (m : Member A) (s u : List ℕ) : Type 0 where
  pub first : List ℕ
  pub named : Named m.name s first
  pub inner : C m.value first u

module _ {A : Type 0} {C : A → Part} {size : List ℕ → ℕ} {said : List ℕ → A} (exact : Exact C size said) where
  member_sound : (s : List ℕ) → (member_size size s ≡ 0 → ⊥)
      → Takes (MemberPart C (member_said said s)) (member_size size s) s
  member_sound s =
      let rest = drop (name_size s) s in
      let M = MemberPart C (member_said said s) in
      chosen (λ n. Takes M n s) (eqb (name_size s) 0) 0 _ (λ _ z. absurd (z refl))
      (λ some. let w = name_sound s (eqb-false (name_size s) 0 some) in
      further_takes M (C (said rest)) w.left (exact.sound rest)
      (λ u p. record { first = rest; named = w.part; inner = p }))

  member_complete : {m : Member A} {s u : List ℕ} → MemberPart C m s u → Ends u
      → Left (member_size size s) s u × (member_said said s ≡ m)
  member_complete {m} {s} w end =
      let name = name_complete w.named in
      let (left, value) = exact.complete w.inner end in
      let same = ap said name.rest ∙ value in
      let units = (string_complete w.named.string).said in (
        past name (name_shorter w.named) (further_left size name left (exact.begins w.inner).1),
        λ i. record { name = units i; value = same i },
      )

  member_begins : {m : Member A} {s u : List ℕ} → MemberPart C m s u
      → (no_value (at s 0) ≡ false) × (length u < length s)
  member_begins {m} {s} {u} w =
      let less : length u < length s = omega (arith, name_shorter w.named, (exact.begins w.inner).1) in
      (ap no_value (string_complete w.named.string).head, less)

  pub member_exact : Exact (MemberPart C) (member_size size) (member_said said)
  member_exact = record { sound = member_sound; complete = member_complete; begins = member_begins }
