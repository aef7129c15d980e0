-- Values by the octet at their head, and the members of an object.
-- Assumes nothing.
use mathlib.Core.Path.{◌≡◌, refl, sym, ap, ◌∙◌}
use mathlib.Core.List.{List, [], ◌∷◌}
use Prim.Native.Nat.{ℕ, zero, suc, ◌+◌, ◌-◌, ◌≤◌}
use native.Mathlib.Omega.{arith}
use lib.ListN.{drop}
use Rattle.rules_json.specs.Reader.{at, bracketed_size, digits, int_size, past}
use Rattle.rules_json.specs.Reader.{member_size, name_size, number_size, scalar_size, value_size}
use Rattle.json_reader.proofs.Behind.{here, not_here}
use Rattle.json_reader.proofs.Further.{cond_none, cond_some}
use Rattle.json_reader.proofs.Places.{first_behind, text_behind}
use Rattle.json_reader.proofs.Read.{none_read, past_further, past_none, some_read}
use Rattle.std.specs.Prelude.{None, Some}

-- ---- values

no_scalar : (b : ℕ) → ((s : List ℕ) → scalar_size (b ∷ s) ≡ 0) → (s : List ℕ) → at s 0 ≡ b → scalar_size s ≡ 0
unfolding scalar_size number_size int_size digits
no_scalar b h [] e = refl
no_scalar b h (a ∷ s) e = ap (λ k. scalar_size (k ∷ s)) e ∙ h s

module _ (text : List ℕ) (place : ℕ) where
  pub scalar_value : (deep : ℕ) → (at text place ≡ 0x7B → ⊥) → (at text place ≡ 0x5B → ⊥)
      → value_size deep (drop place text) ≡ scalar_size (drop place text)
  unfolding value_size
  scalar_value zero h k = refl
  scalar_value (suc deep) h k = rw (not_here text place 0x7B h, not_here text place 0x5B k)

  module _ (deep inside : ℕ) (h : (1 ≤ deep) × (inside ≡ deep - 1)) where
    deeper : deep ≡ suc inside
    deeper = omega arith

    pub list_value : at text place ≡ 0x5B
        → value_size deep (drop place text) ≡ bracketed_size 0x5D (value_size inside) (drop place text)
    unfolding value_size
    list_value e =
        ap (λ d. value_size d (drop place text)) deeper
        ∙ rw (not_here text place 0x7B (λ h. omega arith), here text place 0x5B e) refl

    pub object_value : at text place ≡ 0x7B
        → value_size deep (drop place text) ≡ bracketed_size 0x7D (member_size (value_size inside)) (drop place text)
    unfolding value_size
    object_value e = ap (λ d. value_size d (drop place text)) deeper ∙ rw (here text place 0x7B e) refl

  module _ (deep : ℕ) (shallow : 1 ≤ deep → ⊥) where
    none : deep ≡ 0
    none = omega arith

    pub no_list : at text place ≡ 0x5B → None ≡ past place (value_size deep (drop place text))
    unfolding value_size scalar_size number_size int_size digits
    no_list e =
        sym (past_none place (rw none (no_scalar 0x5B (λ s. refl) (drop place text) (first_behind text place ∙ e))))

    pub no_object : at text place ≡ 0x7B → None ≡ past place (value_size deep (drop place text))
    unfolding value_size scalar_size number_size int_size digits
    no_object e =
        sym (past_none place (rw none (no_scalar 0x7B (λ s. refl) (drop place text) (first_behind text place ∙ e))))

-- ---- members: a name, and what stands behind it

module _ (inner : List ℕ → ℕ) (text : List ℕ) (place : ℕ) where
  pub no_name : None ≡ past place (name_size (drop place text))
      → None ≡ past place (member_size inner (drop place text))
  no_name e = sym (past_none place (cond_none _ _ (none_read place (name_size (drop place text)) e)))

  -- past a member where it is past its value
  pub member : (value : ℕ) → Some value ≡ past place (name_size (drop place text))
      → past value (inner (drop value text)) ≡ past place (member_size inner (drop place text))
  member value e =
      let (name, some) = some_read place (name_size (drop place text)) value e in
      ap (λ k. past k (inner (drop k text))) name
      ∙ ap (λ s. past (place + name_size (drop place text)) (inner s))
      (sym (text_behind text place (name_size (drop place text))))
      ∙ sym (past_further place (name_size (drop place text)) _)
      ∙ ap (past place) (sym (cond_some _ _ some))
