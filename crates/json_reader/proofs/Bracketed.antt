-- Lists and objects alike: items between brackets.
-- Assumes nothing.
use mathlib.Core.Path.{◌≡◌, refl, sym, ap, ◌∙◌}
use mathlib.Core.Bool.{Bool, cond, false, true}
use mathlib.Core.List.{List, []}
use Prim.Native.Nat.{ℕ, ◌+◌, ◌≤◌}
use native.Mathlib.Nat.{add_assoc}
use native.Mathlib.Omega.{arith}
use borrow.Author.Tests.{eq-eqb, ne_eqb}
use lib.Dec.{eqb}
use lib.ListN.{drop, length}
use Rattle.std.specs.Prelude.{None, Option, Some}
use Rattle.rules_json.specs.Reader.{
  Step,
  at,
  behind,
  blanks,
  bracketed_size,
  fails,
  goes_on,
  item_step,
  last,
  opening,
}
use Rattle.json_reader.proofs.Ending.{ending, ending_fails, ending_last, ending_on, ending_over, whole_ending}
use Rattle.json_reader.proofs.Places.{measured_behind, octet_behind}
use Rattle.json_reader.proofs.Read.{none_read, past_some, some_read}
use Rattle.json_reader.proofs.Turning.{Grows, Turning}
use Rattle.rules_json.specs.Reader.{past}

either_fails : (t : Bool) → cond t fails fails ≡ fails
either_fails true = refl
either_fails false = refl

goes_forth : (none closes more : Bool) (n m : ℕ)
    → Grows (cond none fails (cond closes (last (n + 1)) (cond more (goes_on (n + 1 + m)) fails)))
goes_forth true closes more n m = tt
goes_forth false true more n m = tt
goes_forth false false true n m = omega arith
goes_forth false false false n m = tt

pub turning : (close : ℕ) (item : List ℕ → ℕ) → eqb 0 close ≡ false → Turning (item_step close item)
turning close item apart = record {
  none = rw apart (either_fails (eqb (item []) 0));
  grows = λ s.
      let n = item s + blanks (drop (item s) s) in
      goes_forth (eqb (item s) 0) (eqb (at s n) close) (eqb (at s n) 0x2C) n (blanks (drop (n + 1) s));
}

-- the items from a place on end where the whole does
pub record Walking (close : ℕ) (item : List ℕ → ℕ) (text : List ℕ) (whole : Option ℕ) (place : ℕ) : Type 0 where
  pub apart : eqb 0 close ≡ false
  pub ends : ending (item_step close item) text place ≡ whole

-- an item at a place, blanks, and the octet next to them
pub record Item (item : List ℕ → ℕ) (text : List ℕ) (place next found : ℕ) : Type 0 where
  pub end : ℕ
  pub read : Some end ≡ past place (item (drop place text))
  pub skips : next ≡ end + blanks (drop end text)
  pub octet : found ≡ at text next

-- ---- the opening bracket

module _ (close : ℕ) (item : List ℕ → ℕ) (text : List ℕ) (start place whole found : ℕ)
    (p : place ≡ start + 1 + blanks (drop (start + 1) text))
    (octet : found ≡ at text place) (is : whole ≡ bracketed_size close item (drop start text)) where
  pub opened : place ≡ start + opening (drop start text)
  opened = measured_behind text start blanks 1 (start + 1) place refl p ∙ add_assoc start 1 _

  pub first_item : at (drop start text) (opening (drop start text)) ≡ found
  first_item = octet_behind text start (opening (drop start text)) ∙ ap (at text) (sym opened) ∙ sym octet

  pub empty : found ≡ close → Some (place + 1) ≡ past start whole
  unfolding bracketed_size
  empty e =
      let size : whole ≡ opening (drop start text) + 1 =
      rw (is, eq-eqb (at (drop start text) (opening (drop start text))) close (first_item ∙ e)) refl in
      sym (past_some start (λ z. omega (arith, size, z)) (omega (arith, opened, size)))

  pub begins : eqb 0 close ≡ false → (found ≡ close → ⊥) → Walking close item text (past start whole) place
  unfolding bracketed_size
  begins apart h = record {
    apart = apart;
    ends =
        ap (ending (item_step close item) text) opened
        ∙ whole_ending (turning close item apart) text start (opening (drop start text)) whole
        (rw (is, ne_eqb (at (drop start text) (opening (drop start text))) close (λ e. h (sym first_item ∙ e))));
  }

-- ---- item by item

module _ {close : ℕ} {item : List ℕ → ℕ} {text : List ℕ} {whole : Option ℕ} {place : ℕ}
    (w : Walking close item text whole place) where
  steps : Turning (item_step close item)
  steps = turning close item w.apart

  pub no_item : None ≡ past place (item (drop place text)) → None ≡ whole
  no_item e =
      let none = none_read place (item (drop place text)) e in
      sym (ending_fails steps text place (rw none)) ∙ w.ends

  pub over : length text ≤ place → None ≡ whole
  over h = sym (ending_over steps text place h) ∙ w.ends

  module _ {next found : ℕ} (i : Item item text place next found) where
    size : (i.end ≡ place + item (drop place text)) × (item (drop place text) ≡ 0 → ⊥)
    size = some_read place (item (drop place text)) i.end i.read

    abbrev taken : ℕ
    taken = item (drop place text) + blanks (drop (item (drop place text)) (drop place text))

    next_is : next ≡ place + taken
    next_is =
        measured_behind text place blanks (item (drop place text)) i.end next size.0 i.skips
        ∙ add_assoc place _ _

    found_is : at (drop place text) taken ≡ found
    found_is = octet_behind text place taken ∙ ap (at text) (sym next_is) ∙ sym i.octet

    by_next : {x : Step} → behind close (drop place text) taken ≡ x → item_step close item (drop place text) ≡ x
    by_next e = rw (ne_eqb (item (drop place text)) 0 size.1) e

    pub last_step : found ≡ close → item_step close item (drop place text) ≡ last (taken + 1)
    last_step e = by_next (rw (eq-eqb (at (drop place text) taken) close (found_is ∙ e)))

    pub closes : found ≡ close → Some (next + 1) ≡ whole
    closes e =
        ap Some (omega (arith, next_is)) ∙ sym (ending_last steps text place (taken + 1) (omega arith) (last_step e))
        ∙ w.ends

    module _ (h : found ≡ close → ⊥) where
      not_closed : eqb (at (drop place text) taken) close ≡ false
      not_closed = ne_eqb (at (drop place text) taken) close (λ e. h (sym found_is ∙ e))

      pub breaks : (found ≡ 0x2C → ⊥) → None ≡ whole
      breaks k =
          sym (ending_fails steps text place
          (by_next (rw (not_closed, ne_eqb (at (drop place text) taken) 0x2C (λ e. k (sym found_is ∙ e))))))
          ∙ w.ends

      abbrev step : ℕ
      step = taken + 1 + blanks (drop (taken + 1) (drop place text))

      pub another_step : found ≡ 0x2C → item_step close item (drop place text) ≡ goes_on step
      another_step e = by_next (rw (not_closed, eq-eqb (at (drop place text) taken) 0x2C (found_is ∙ e)))

      module _ (after : ℕ) (q : after ≡ next + 1 + blanks (drop (next + 1) text)) where
        pub after_is : after ≡ place + step
        after_is =
            omega (arith, measured_behind text place blanks (taken + 1) (next + 1) after (omega (arith, next_is)) q)

        pub goes_on_lem : found ≡ 0x2C → Walking close item text whole after
        goes_on_lem e = record {
          apart = w.apart;
          ends =
              ap (ending (item_step close item) text) after_is
              ∙ sym (ending_on steps text place step (another_step e))
              ∙ w.ends;
        }
