-- Strings, literals and numbers by the octet at their head.
-- Assumes nothing.
use mathlib.Core.Path.{◌≡◌, ap, refl, ◌∙◌}
use mathlib.Core.Bool.{cond}
use mathlib.Core.List.{List}
use Prim.Native.Nat.{ℕ}
use borrow.Author.Tests.{ne_eqb}
use lib.Dec.{eqb}
use lib.ListN.{drop}
use Rattle.rules_json.specs.Abnf.{octets}
use Rattle.rules_json.specs.Reader.{at, number_size, past, scalar_size, string_size, word_size}
use Rattle.json_reader.proofs.Places.{first_behind}

module _ (place : ℕ) (text : List ℕ) where
  abbrev scalar_by : ℕ → ℕ
  scalar_by b =
      cond (eqb b 0x22) (string_size (drop place text))
      (cond (eqb b 0x66) (word_size (octets "false") (drop place text))
      (cond (eqb b 0x6E) (word_size (octets "null") (drop place text))
      (cond (eqb b 0x74) (word_size (octets "true") (drop place text)) (number_size (drop place text)))))

  scalar_is : {b : ℕ} → at text place ≡ b → past place (scalar_size (drop place text)) ≡ past place (scalar_by b)
  unfolding scalar_size
  scalar_is h = ap (λ b. past place (scalar_by b)) (first_behind text place ∙ h)

  pub string_here : at text place ≡ 0x22
      → past place (scalar_size (drop place text)) ≡ past place (string_size (drop place text))
  string_here h = scalar_is h

  pub false_here : at text place ≡ 0x66
      → past place (scalar_size (drop place text)) ≡ past place (word_size (octets "false") (drop place text))
  false_here h = scalar_is h

  pub null_here : at text place ≡ 0x6E
      → past place (scalar_size (drop place text)) ≡ past place (word_size (octets "null") (drop place text))
  null_here h = scalar_is h

  pub true_here : at text place ≡ 0x74
      → past place (scalar_size (drop place text)) ≡ past place (word_size (octets "true") (drop place text))
  true_here h = scalar_is h

  pub number_here : (at text place ≡ 0x22 → ⊥) → (at text place ≡ 0x66 → ⊥) → (at text place ≡ 0x6E → ⊥)
      → (at text place ≡ 0x74 → ⊥)
      → past place (scalar_size (drop place text)) ≡ past place (number_size (drop place text))
  unfolding scalar_size
  number_here quote f n t =
      ap (λ b. past place (scalar_by b)) (first_behind text place)
      ∙ rw (ne_eqb (at text place) 0x22 quote, ne_eqb (at text place) 0x66 f)
      (rw (ne_eqb (at text place) 0x6E n, ne_eqb (at text place) 0x74 t) refl)

pub ruleset scalars = (string_here, false_here, null_here, true_here, number_here)
