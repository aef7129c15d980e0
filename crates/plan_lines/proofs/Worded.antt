-- Words one after the other: blanks, then a word, then the words behind it.
-- Assumes nothing.
use Prim.Native.Nat.{ℕ, suc}
use native.Mathlib.Omega.{arith}
use mathlib.Core.Bool.{Bool, cond, false, not, true}
use mathlib.Core.List.{List, [], ◌∷◌}
use mathlib.Core.Path.{◌≡◌, ap, ap₂, refl, subst, sym, ◌∙◌}
use lib.ListN.{drop, length, take}
use Rattle.std.specs.List.{prefix_len}
use Rattle.plan_lines.specs.Leading.{not_blank}
use Rattle.plan_lines.proofs.Pieces.{first_piece, leading, leading_is}
use Rattle.rules.specs.Screen.{is_empty}
use Rattle.rules_plan.specs.Words.{blank, filtered, pieces, words}

-- of bytes that are parted by any test
module _ (p : ℕ → Bool) where
  abbrev words_by : List ℕ → List (List ℕ)
  words_by l = filtered (λ word. not (is_empty word)) (pieces p l)

  abbrev other : ℕ → Bool
  other b = not (p b)

  abbrev behind : List ℕ → List ℕ
  behind l = drop (leading p l) l

  past : (l : List ℕ) → words_by (drop (leading other l) l) ≡ words_by (drop (suc (leading other l)) l)
  unfolding leading pieces
  past [] = refl
  past (b ∷ l) = by_test (p b) refl (past l)
    where
      by_test : (t : Bool) → p b ≡ t
          → words_by (drop (leading other l) l) ≡ words_by (drop (suc (leading other l)) l)
          → words_by (drop (leading other (b ∷ l)) (b ∷ l)) ≡ words_by (drop (suc (leading other (b ∷ l))) (b ∷ l))
      by_test true e f = simp e
      by_test false e f = rw e f

  blanks_aside : (l : List ℕ) → words_by (behind l) ≡ words_by l
  unfolding leading pieces
  blanks_aside [] = refl
  blanks_aside (b ∷ l) = by_test (p b) refl (blanks_aside l)
    where
      by_test : (t : Bool) → p b ≡ t → words_by (behind l) ≡ words_by l → words_by (behind (b ∷ l)) ≡ words_by (b ∷ l)
      by_test true q f = rw q f
      by_test false q f = simp q

  no_word : (l : List ℕ) → leading other (behind l) ≡ 0 → words_by l ≡ []
  unfolding leading pieces
  no_word [] e = refl
  no_word (b ∷ l) e = by_test (p b) refl e (no_word l)
    where
      by_test : (t : Bool) → p b ≡ t → leading other (behind (b ∷ l)) ≡ 0
          → (leading other (behind l) ≡ 0 → words_by l ≡ []) → words_by (b ∷ l) ≡ []
      by_test true q e f = rw q (f (rw q at e))
      by_test false q e f = let z : ⊥ = omega (arith, simp q at e) in absurd z

  -- the words of a text are one that begins a part of it, and those behind it there
  abbrev First : List ℕ → List ℕ → Type 0
  First l part = words_by l ≡ take (leading other part) part ∷ words_by (drop (leading other part) part)

  here : (b : ℕ) (l : List ℕ) → p b ≡ false → First (b ∷ l) (b ∷ l)
  unfolding leading
  here b l e =
      ap (filtered (λ word. not (is_empty word))) (first_piece p (b ∷ l) (λ z. omega arith))
      ∙ rw e (ap (λ ws. (b ∷ take (leading other l) l) ∷ ws) (sym (rw e at (past (b ∷ l)))))

  first_word : (l : List ℕ) → (leading other (behind l) ≡ 0 → ⊥) → First l (behind l)
  unfolding leading pieces
  first_word [] h = absurd (h refl)
  first_word (b ∷ l) h = by_test (p b) refl h (first_word l) (here b l)
    where
      by_test : (t : Bool) → p b ≡ t → (leading other (behind (b ∷ l)) ≡ 0 → ⊥)
          → ((leading other (behind l) ≡ 0 → ⊥) → First l (behind l)) → (p b ≡ false → First (b ∷ l) (b ∷ l))
          → First (b ∷ l) (behind (b ∷ l))
      by_test true q h f g = rw q (f (rw q at h))
      by_test false q h f g =
          subst (λ t. First (b ∷ l) (drop (cond t (suc (leading p l)) 0) (b ∷ l))) (sym q) (g q)

-- ---- the words of a line

module _ (line : List ℕ) where
  abbrev past_blanks : List ℕ
  past_blanks = drop (leading blank line) line

  module _ (blanks size : ℕ) (b : blanks ≡ prefix_len blank line)
      (s : size ≡ prefix_len not_blank (drop blanks line)) where
    abbrev spoken : List ℕ
    spoken = drop blanks line

    spoken_is : spoken ≡ past_blanks
    spoken_is = ap (λ n. drop n line) (b ∙ leading_is blank line)

    size_is : size ≡ leading not_blank past_blanks
    size_is = s ∙ leading_is not_blank spoken ∙ ap (leading not_blank) spoken_is

    -- the first word and what is behind it, or neither
    module _ (word behind : List ℕ) (w : word ≡ take size spoken) (h : behind ≡ drop size spoken)
        (bound : length word ≡ size) where
      pub words_none : length word ≡ 0 → (words line ≡ []) × (words behind ≡ [])
      unfolding words
      words_none e =
          let none = no_word blank line (sym size_is ∙ sym bound ∙ e) in (
            none,
            ap words (h ∙ ap (λ n. drop n spoken) (sym bound ∙ e) ∙ spoken_is) ∙ blanks_aside blank line ∙ none,
          )

      pub words_first : (length word ≡ 0 → ⊥) → words line ≡ word ∷ words behind
      unfolding words
      words_first z =
          first_word blank line (λ e. z (bound ∙ size_is ∙ e))
          ∙ sym (ap₂ (λ a b. a ∷ words b) (w ∙ ap₂ take size_is spoken_is) (h ∙ ap₂ drop size_is spoken_is))
