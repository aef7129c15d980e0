-- Past the name in front of a member's value, its separator and their blanks.
-- Assumes nothing.
use mathlib.Core.Path.{◌≡◌, sym, ap, refl, ◌∙◌}
use mathlib.Core.List.{List}
use Prim.Native.Nat.{ℕ, ◌+◌}
use native.Mathlib.Omega.{arith}
use borrow.Author.Tests.{eq-eqb, ne_eqb}
use lib.ListN.{drop}
use Rattle.std.specs.Prelude.{None, Some}
use Rattle.rules_json.specs.Reader.{at, blanks, name_size, past, separator_size, string_size}
use Rattle.json_reader.proofs.Further.{cond_none, cond_some}
use Rattle.json_reader.proofs.Places.{measured_behind, octet_behind, text_behind}
use Rattle.json_reader.proofs.Quoted.{no_string}
use Rattle.json_reader.proofs.Read.{none_read, past_further, past_none, past_some, some_read}
use Rattle.json_reader.specs.Places.{next_from}

module _ (p : ℕ) (text : List ℕ) where
  found : at (drop p text) (blanks (drop p text)) ≡ (next_from text p).octet
  found = octet_behind text p (blanks (drop p text))

  no_separator : ((next_from text p).octet ≡ 0x3A → ⊥) → past p (separator_size (drop p text)) ≡ None
  no_separator h =
      past_none p (rw (ne_eqb (at (drop p text) (blanks (drop p text))) 0x3A (λ k. h (sym found ∙ k))) refl)

  separator : (next_from text p).octet ≡ 0x3A → (r : ℕ)
      → r ≡ (next_from text p).place + 1 + blanks (drop ((next_from text p).place + 1) text)
      → past p (separator_size (drop p text)) ≡ Some r
  separator h r q =
      let size : separator_size (drop p text)
      ≡ blanks (drop p text) + 1 + blanks (drop (blanks (drop p text) + 1) (drop p text)) =
      rw (eq-eqb (at (drop p text) (blanks (drop p text))) 0x3A (found ∙ h)) refl in
      let behind =
      measured_behind text p blanks (blanks (drop p text) + 1) ((next_from text p).place + 1) r (omega arith) q in
      past_some p (λ z. omega (arith, size, z)) (omega (arith, size, behind))

  no_string_named : None ≡ past p (string_size (drop p text)) → past p (name_size (drop p text)) ≡ None
  unfolding name_size
  no_string_named h = past_none p (cond_none _ _ (none_read p (string_size (drop p text)) h))

  pub unquoted : (at text p ≡ 0x22 → ⊥) → past p (name_size (drop p text)) ≡ None
  unquoted h = no_string_named (sym (no_string text p h))

  pub unended : None ≡ past p (string_size (drop p text)) → past p (name_size (drop p text)) ≡ None
  unended h = no_string_named h

module _ (p end : ℕ) (text : List ℕ) (h : Some end ≡ past p (string_size (drop p text))) where
  named : past p (name_size (drop p text)) ≡ past end (separator_size (drop end text))
  unfolding name_size
  named =
      let (size, some) = some_read p (string_size (drop p text)) end h in
      ap (past p) (cond_some _ _ some)
      ∙ past_further p (string_size (drop p text)) _
      ∙ ap (λ s. past (p + string_size (drop p text)) (separator_size s))
      (text_behind text p (string_size (drop p text)))
      ∙ ap (λ k. past k (separator_size (drop k text))) (sym size)

  pub unseparated : ((next_from text end).octet ≡ 0x3A → ⊥) → past p (name_size (drop p text)) ≡ None
  unseparated k = named ∙ no_separator end text k

  pub separated : (next_from text end).octet ≡ 0x3A → (r : ℕ)
      → r ≡ (next_from text end).place + 1 + blanks (drop ((next_from text end).place + 1) text)
      → past p (name_size (drop p text)) ≡ Some r
  separated k r q = named ∙ separator end text k r q

pub ruleset names = (unquoted, unended, unseparated, separated)
