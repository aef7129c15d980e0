-- Where steps end in a text: past the last of them, or nowhere if one of them fails.
-- Assumes nothing.
use mathlib.Core.Path.{◌≡◌, sym, ap, ◌∙◌}
use mathlib.Core.List.{List}
use Prim.Native.Nat.{ℕ, ◌≤◌, ◌+◌}
use native.Mathlib.Omega.{arith}
use lib.ListN.{drop, drop_of_length-le, length, length-drop}
use Rattle.std.specs.Prelude.{None, Option, Some}
use Rattle.rules_json.specs.Reader.{Step, fails, further, goes_on, last, past, runs, size_after}
use Rattle.json_reader.proofs.Places.{text_behind}
use Rattle.json_reader.proofs.Read.{past_further, past_none, past_some}
use Rattle.json_reader.proofs.Turning.{Turning, through, through_enough, unrolled}

module _ (step : List ℕ → Step) (text : List ℕ) where
  -- where the steps from a place on end
  abbrev pub ending : ℕ → Option ℕ
  ending place = past place (through step (drop place text))

  moved : (place n m : ℕ) → m ≡ further n (through step (drop n (drop place text)))
      → past place m ≡ ending (place + n)
  moved place n m e =
      ap (past place) e
      ∙ past_further place n (through step (drop n (drop place text)))
      ∙ ap (λ s. past (place + n) (through step s)) (text_behind text place n)

module _ {step : List ℕ → Step} (turning : Turning step) (text : List ℕ) where
  -- the whole, where n octets stand in front of the first step
  pub whole_ending : (start n whole : ℕ)
      → whole ≡ further n (runs step (length (drop start text)) (drop n (drop start text)))
      → ending step text (start + n) ≡ past start whole
  whole_ending start n whole e =
      let turned =
      through_enough turning (length (drop start text)) (drop n (drop start text))
      (omega (arith, length-drop n (drop start text))) in
      sym (moved step text start n whole (e ∙ ap (further n) turned))

  module _ (place : ℕ) where
    by_step : {x : Step} → step (drop place text) ≡ x
        → through step (drop place text) ≡ size_after x (λ n. through step (drop n (drop place text)))
    by_step e =
        unrolled turning (drop place text) ∙ ap (λ y. size_after y (λ n. through step (drop n (drop place text)))) e

    pub ending_fails : step (drop place text) ≡ fails → ending step text place ≡ None
    ending_fails e = past_none place (by_step e)

    pub ending_last : (n : ℕ) → 1 ≤ n → step (drop place text) ≡ last n → ending step text place ≡ Some (place + n)
    ending_last n h e =
        let size = by_step e in
        past_some place (λ z. omega (arith, size)) (omega (arith, size))

    pub ending_on : (n : ℕ) → step (drop place text) ≡ goes_on n → ending step text place ≡ ending step text (place + n)
    ending_on n e = moved step text place n (through step (drop place text)) (by_step e)

    pub ending_over : length text ≤ place → ending step text place ≡ None
    ending_over h = ending_fails (ap step (drop_of_length-le text h) ∙ turning.none)
