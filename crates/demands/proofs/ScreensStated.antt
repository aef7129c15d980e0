-- Document 02, request 1: 15 and 16 to a text that is read, and 16 and 12 to a message that is written, each exactly
-- in its case.
-- Assumes nothing.
use Prim.Native.Nat.{ℕ}
use mathlib.Core.Path.{◌≡◌, refl, sym, ap, ◌∙◌}
use mathlib.Core.Bool.{Bool, true, false, true≢false}
use mathlib.Core.List.{List, [], ◌∷◌}
use lib.ListN.{length}
use Rattle.demands.proofs.Exactly.{below, exactly, group, in_words, isnt, ◌on◌}
use Rattle.demands.proofs.ScreensExactly.{lacks}
use Rattle.demands.proofs.ScreensRead.{said, takes, whole}
use Rattle.demands.specs.Exactly.{GivenExactly, otherwise, ◌when◌then◌}
use Rattle.demands.specs.Screens.{Lacking, Readable, Says}
use Rattle.demands.specs.Stated.{of_receiving, of_writing}
use Rattle.rules.specs.Screen.{is_taken, members_of, message_fits, ours, reading_answer}
use Rattle.rules.specs.Screen.{received, writing_answer, written, written_of}
use Rattle.rules.specs.declared.Message.{Message}
use Rattle.rules_json.specs.Tree.{Tree}

pub stated_writing : (m : Message) (b : List ℕ) → GivenExactly (of_writing m (length b))
    (written_of m (length b)).answer
unfolding written_of writing_answer
stated_writing m b = exactly (group (16 on isnt (message_fits m) ∷ 12 on below (length b) (length (written m)) ∷ []))
    refl

module _ (s : List ℕ) where
  not_taken : is_taken s ≡ false → Readable s → ⊥
  not_taken e t = true≢false (sym ((takes s).1 t) ∙ e)

  is_taken_lem : (Readable s → ⊥) → is_taken s ≡ false
  is_taken_lem h = go (is_taken s) refl
    where
      go : (t : Bool) → is_taken s ≡ t → is_taken s ≡ false
      go true e = absurd (h ((takes s).0 e))
      go false e = e

  -- 16, as the definition tests it
  tested : GivenExactly (15 when (Readable s → ⊥) then 16 when whole (ours s) ≡ false then otherwise 0)
      (received s).answer
  unfolding received reading_answer
  tested = exactly (group (15 on in_words (isnt (is_taken s)) not_taken is_taken_lem ∷ 16 on isnt (whole (ours s)) ∷
      []))
      refl

  -- and in the request's words, of a text that is taken
  abbrev Short : Type 0
  Short = (x : Tree 8) × Says x s × Lacking (members_of x)

  same_whole : (x : Tree 8) → Says x s → whole (ours s) ≡ whole (members_of x)
  same_whole x t = ap (λ (y : Tree 8). whole (members_of y)) (said s x t)

  of_words_lem : Short → whole (ours s) ≡ false
  of_words_lem (x, t, l) = same_whole x t ∙ (lacks x s t).1 l

  surely : ((Readable s → ⊥) → ⊥) → Readable s
  surely h = go (is_taken s) refl
    where
      go : (t : Bool) → is_taken s ≡ t → Readable s
      go true q = (takes s).0 q
      go false q = absurd (h (not_taken q))

  in_words_of : ((Readable s → ⊥) → ⊥) → whole (ours s) ≡ false → Short
  in_words_of h e = let (x, t) = surely h in (x, t, (lacks x s t).0 (sym (same_whole x t) ∙ e))

  pub stated_receiving : GivenExactly (of_receiving s) (received s).answer
  stated_receiving =
      let fifteen = tested.0 in
      let sixteen = tested.1.0 in
      let done = tested.1.1 in (
        fifteen,
        (
          (λ e. let h = sixteen.0 e in (h.0, in_words_of h.0.1 h.1), λ h. sixteen.1 (h.0, of_words_lem h.1)),
          (
            λ e. let h = done.0 e in (h.0, λ w. h.1 (of_words_lem w)),
            λ h. done.1 (h.0, λ e. h.1 (in_words_of h.0.1 e)),
          ),
        ),
      )

  -- what is answered with 0 is taken, and lacks none of ours
  pub done_taken : (received s).answer ≡ 0 → (x : Tree 8) × Says x s × (whole (members_of x) ≡ true)
  done_taken z =
      let (passed, none) = stated_receiving.1.1.0 z in
      let (x, t) = surely passed.1 in
      (x, t, not_false_true (whole (members_of x)) (λ e. none (x, t, (lacks x s t).0 e)))
    where
      not_false_true : (b : Bool) → (b ≡ false → ⊥) → b ≡ true
      not_false_true true h = refl
      not_false_true false h = absurd (h refl)
