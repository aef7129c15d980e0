-- Places of a text: what stands from a place on, and that an octet which a rule takes stands in the text.
-- Assumes nothing.
use Prim.Native.Nat.{ℕ, ◌+◌, ◌<◌}
use mathlib.Core.Bool.{Bool, false, false≢true, true}
use mathlib.Core.List.{List}
use mathlib.Core.Path.{◌≡◌, ap, sym, ◌∙◌}
use native.Mathlib.Nat.{add-zero}
use borrow.Author.Tests.{ltb-false, ltb-true}
use lib.Dec.{ltb}
use lib.ListN.{get_or-eq_default, drop, length}
use lib.Seq.{drop-drop, get_or-drop}
use Rattle.json_reader.proofs.Cases.{by_test}
use Rattle.rules_json.specs.Reader.{at}

module _ (text : List ℕ) (p : ℕ) where
  pub octet_behind : (k : ℕ) → at (drop p text) k ≡ at text (p + k)
  octet_behind k = get_or-drop p text k 0

  pub first_behind : at (drop p text) 0 ≡ at text p
  first_behind = octet_behind 0 ∙ ap (at text) (add-zero p)

  pub text_behind : (k : ℕ) → drop k (drop p text) ≡ drop (p + k) text
  text_behind k = drop-drop k p text

  -- what is measured n octets behind a place
  pub measured_behind : (f : List ℕ → ℕ) (n q r : ℕ) → q ≡ p + n → r ≡ q + f (drop q text)
      → r ≡ (p + n) + f (drop n (drop p text))
  measured_behind f n q r e h = h ∙ ap (λ k. k + f (drop k text)) e ∙ ap (λ l. (p + n) + f l) (sym (text_behind n))

  pub in_text : (at text p ≡ 0 → ⊥) → p < length text
  in_text h =
      by_test (ltb p (length text)) (ltb-true _ _) (λ e. absurd (h (get_or-eq_default text 0 (ltb-false _ _ e))))

  pub taken_in_text : (class : ℕ → Bool) → class 0 ≡ false → class (at text p) ≡ true → p < length text
  taken_in_text class none h = in_text (λ z. false≢true (sym none ∙ ap class (sym z) ∙ h))
