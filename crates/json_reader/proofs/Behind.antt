-- What stands behind a place: its first octet, and the part of the text that the code hands on.
-- Assumes nothing.
use mathlib.Core.Path.{◌≡◌, sym, ◌∙◌}
use mathlib.Core.Bool.{false, true}
use mathlib.Core.List.{List}
use Prim.Native.Nat.{ℕ, ◌-◌}
use native.Mathlib.Omega.{arith}
use borrow.Author.Tests.{eq-eqb, ne_eqb}
use lib.Dec.{eqb}
use lib.ListN.{drop, length, length-drop, take}
use lib.Seq.{take_all}
use Rattle.rules_json.specs.Reader.{at}
use Rattle.json_reader.proofs.Places.{first_behind}

module _ (text : List ℕ) (place : ℕ) where
  pub part_behind : take (length text - place) (drop place text) ≡ drop place text
  part_behind = take_all (length text - place) (drop place text) (omega (arith, length-drop place text))

  module _ (b : ℕ) where
    pub here : at text place ≡ b → eqb (at (drop place text) 0) b ≡ true
    here e = eq-eqb (at (drop place text) 0) b (first_behind text place ∙ e)

    pub not_here : (at text place ≡ b → ⊥) → eqb (at (drop place text) 0) b ≡ false
    not_here h = ne_eqb (at (drop place text) 0) b (λ e. h (sym (first_behind text place) ∙ e))
