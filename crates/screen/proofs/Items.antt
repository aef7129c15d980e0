-- Items of a list or of an object, at places of a text: what they say.
-- Assumes nothing.
use Prim.Native.Nat.{ℕ, ◌+◌, ◌≤◌, ◌<◌}
use mathlib.Core.Bool.{false}
use mathlib.Core.List.{List, [], ◌∷◌}
use mathlib.Core.Path.{◌≡◌, ap, refl, sym, ◌∙◌}
use native.Mathlib.Omega.{arith}
use borrow.Author.Tests.{eq-eqb, ne_eqb}
use lib.Dec.{eqb}
use lib.ListN.{drop, length, length-drop}
use Rattle.json_reader.proofs.Bracketed.{Item, Walking, after_is, another_step, first_item, last_step, opened, turning}
use Rattle.json_reader.proofs.Places.{text_behind}
use Rattle.std.specs.Prelude.{Option}
use Rattle.rules_json.specs.Reader.{at, blanks, bracketed_said, item_step, opening}
use Rattle.screen.proofs.Telling.{told, told_enough, unrolled}

module _ {A : Type 0} (close : ℕ) (item : List ℕ → ℕ) (says : List ℕ → A) (text : List ℕ) where
  -- what the items from a place on say
  pub said_from : ℕ → List A
  said_from place = told (item_step close item) (λ s. says s ∷ []) (drop place text)

  -- there is one at least
  pub said_some : (place : ℕ) → 1 ≤ length (said_from place)
  unfolding said_from told
  said_some place = omega arith

  pub said_first : (place : ℕ) → (rest : List A) × (said_from place ≡ says (drop place text) ∷ rest)
  unfolding said_from told
  said_first place = (_, refl)

  pub said_none : (start place found : ℕ) → place ≡ start + 1 + blanks (drop (start + 1) text) → found ≡ at text place
      → found ≡ close → bracketed_said close item says (drop start text) ≡ []
  unfolding bracketed_said
  said_none start place found p o e =
      let head = drop start text in
      rw (eq-eqb (at head (opening head)) close (first_item close item text start place _ found p o refl ∙ e))

  pub said_begins : (start place found : ℕ) → start < length text → place ≡ start + 1 + blanks (drop (start + 1) text)
      → found ≡ at text place
      → eqb 0 close ≡ false → (found ≡ close → ⊥) → bracketed_said close item says (drop start text) ≡ said_from place
  unfolding bracketed_said said_from
  said_begins start place found within p o apart h =
      let head = drop start text in
      rw (ne_eqb (at head (opening head)) close
      (λ e. h (sym (first_item close item text start place _ found p o refl) ∙ e)))
      (told_enough (turning close item apart) (λ s. says s ∷ []) (length head) (drop (opening head) head)
      (omega (arith, length-drop (opening head) head, length-drop start text))
      ∙ ap (told (item_step close item) (λ s. says s ∷ []))
      (text_behind text start (opening head)
      ∙ ap (λ k. drop k text) (sym (opened close item text start place _ found p o refl))))

module _ {A : Type 0} {close : ℕ} {item : List ℕ → ℕ} {text : List ℕ} {whole : Option ℕ} {place : ℕ} (says : List ℕ → A)
    (w : Walking close item text whole place) {next found : ℕ} (i : Item item text place next found) where
  pub said_last : found ≡ close → said_from close item says text place ≡ says (drop place text) ∷ []
  unfolding said_from
  said_last e = unrolled (turning close item w.apart) (λ s. says s ∷ []) (drop place text) _ (last_step w i e)

  pub said_on : (found ≡ close → ⊥) → found ≡ 0x2C → (after : ℕ) → after ≡ next + 1 + blanks (drop (next + 1) text)
      → said_from close item says text place ≡ says (drop place text) ∷ said_from close item says text after
  unfolding said_from
  said_on h e after q =
      unrolled (turning close item w.apart) (λ s. says s ∷ []) (drop place text) _ (another_step w i h e)
      ∙ ap (λ s. says (drop place text) ∷ told (item_step close item) (λ s. says s ∷ []) s)
      (text_behind text place _ ∙ ap (λ k. drop k text) (sym (after_is w i h after q)))
