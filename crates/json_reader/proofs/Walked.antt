-- From item to item: what each outcome of behind means for the whole.
-- Assumes nothing.
use Prim.Native.Nat.{ℕ, ◌+◌, ◌<◌}
use mathlib.Core.Bool.{Bool, cond, false}
use mathlib.Core.List.{List}
use mathlib.Core.Path.{◌≡◌, ap, refl, subst, sym, ◌∙◌}
use native.Mathlib.Omega.{arith}
use borrow.Author.Tests.{eq-eqb, eqb-true}
use lib.Dec.{eqb}
use lib.ListN.{drop}
use Rattle.std.specs.Prelude.{None, Option, Some}
use Rattle.json_reader.proofs.Bracketed.{Item, Walking, begins, breaks, closes, empty, goes_on_lem}
use Rattle.json_reader.proofs.Cases.{by_test}
use Rattle.json_reader.proofs.Read.{some_read}
use Rattle.json_reader.specs.Places.{behind, next_from}
use Rattle.json_reader.specs.declared.octets.Next.{Next}
use Rattle.json_reader.specs.declared.values.After.{After}
use Rattle.rules_json.specs.Reader.{at, blanks, bracketed_size, past}

-- the octet that stands next
module _ (text : List ℕ) (from : ℕ) (n : Next) (e : n ≡ next_from text from) where
  place_is : n.place ≡ from + blanks (drop from text)
  place_is = ap (λ m. m.place) e

  pub octet_is : n.octet ≡ at text n.place
  octet_is = ap (λ m. m.octet) e ∙ sym (ap (at text) place_is)

-- ---- behind the opening bracket

module _ (close : ℕ) (item : List ℕ → ℕ) (text : List ℕ) (start : ℕ) (n : Next) (e : n ≡ next_from text (start + 1))
    (whole : ℕ) (is : whole ≡ bracketed_size close item (drop start text)) where
  pub none_inside : n.octet ≡ close → Some (n.place + 1) ≡ past start whole
  none_inside h =
      empty close item text start _ whole _ (place_is text _ n e) (octet_is text _ n e) is h

  pub first_inside : eqb 0 close ≡ false → (n.octet ≡ close → ⊥) → Walking close item text (past start whole) n.place
  first_inside apart h =
      begins close item text start _ whole _ (place_is text _ n e) (octet_is text _ n e) is apart h

-- ---- behind an item

module _ (text : List ℕ) (end close : ℕ) where
  abbrev next : Next
  next = next_from text end

  abbrev by : Bool → Bool → Option After
  by closed more =
      cond closed (Some (After.End (next.place + 1)))
      (cond more (Some (After.Item (next_from text (next.place + 1)))) None)

  behind_is : {t u : Bool} → eqb next.octet close ≡ t → eqb next.octet 0x2C ≡ u → behind text end close ≡ by t u
  unfolding behind
  behind_is e f = λ i. by (e i) (f i)

  -- nothing that may stand there
  pub neither_found : None ≡ behind text end close → (next.octet ≡ close → ⊥) × (next.octet ≡ 0x2C → ⊥)
  neither_found e =
      by_test (eqb next.octet close) (λ h. absurd (let f = e ∙ behind_is h refl in cc))
      (λ h. by_test (eqb next.octet 0x2C) (λ k. absurd (let f = e ∙ behind_is h k in cc))
      (λ k. (λ x. absurd (let f = sym h ∙ eq-eqb _ _ x in cc), λ x. absurd (let f = sym k ∙ eq-eqb _ _ x in cc))))

  -- the closing bracket
  pub end_found : (r : ℕ) → Some (After.End r) ≡ behind text end close → (next.octet ≡ close) × (r ≡ next.place + 1)
  end_found r e =
      by_test (eqb next.octet close) (λ h. (eqb-true _ _ h, let f = e ∙ behind_is h refl in cc))
      (λ h. by_test (eqb next.octet 0x2C) (λ k. absurd (let f = e ∙ behind_is h k in cc))
      (λ k. absurd (let f = e ∙ behind_is h k in cc)))

  -- another item
  pub item_found : (n : Next) → Some (After.Item n) ≡ behind text end close
      → (next.octet ≡ close → ⊥) × (next.octet ≡ 0x2C) × (n ≡ next_from text (next.place + 1))
  item_found n e =
      by_test (eqb next.octet close) (λ h. absurd (let f = e ∙ behind_is h refl in cc))
      (λ h. by_test (eqb next.octet 0x2C)
      (λ k. (λ x. absurd (let f = sym h ∙ eq-eqb _ _ x in cc), eqb-true _ _ k, let f = e ∙ behind_is h k in cc))
      (λ k. absurd (let f = e ∙ behind_is h k in cc)))

  module _ {item : List ℕ → ℕ} {whole : Option ℕ} {place : ℕ} (w : Walking close item text whole place)
      (read : Some end ≡ past place (item (drop place text))) where
    here : Item item text place next.place next.octet
    here = record { end = end; read = read; skips = refl; octet = refl }

    pub neither : None ≡ behind text end close → None ≡ whole
    neither e = let found = neither_found e in breaks w here found.0 found.1

    pub ended : (r : ℕ) → Some (After.End r) ≡ behind text end close → Some r ≡ whole
    ended r e = let found = end_found r e in ap Some found.1 ∙ closes w here found.0

    pub another : (n : Next) → Some (After.Item n) ≡ behind text end close
        → Walking close item text whole n.place × (n.octet ≡ at text n.place) × (place < n.place)
    another n e =
        let (other, comma, is) = item_found n e in
        let on = goes_on_lem w here other _ refl comma in
        let (size, some) = some_read place (item (drop place text)) end read in (
          subst (λ m. Walking close item text whole m.place) (sym is) on,
          ap (λ m. m.octet) is ∙ sym (ap (λ m. at text m.place) is),
          omega (arith, ap (λ m. m.place) is),
        )
