-- The words behind a name, one after the other, each as a number. (Not for belief.)
use Rattle.std.specs.Prelude.{ℕ, ⊤, ◌≡◌, List, [], ◌∷◌, Result}
use Rattle.rules.specs.Words.{◌▷◌}
use Rattle.rules_plan.specs.Answered.{fault_of}
use Rattle.rules_plan.specs.Lines.{words_fault}
use Rattle.rules_plan.specs.declared.Fault.{Fault}

module _ {A : Type 0} where
  -- all but the first
  abbrev pub rest : List A → List A
  rest [] = []
  rest (x ∷ xs) = xs

-- what is wrong with the words that have been read, or else with those that are left
abbrev pub left : List ℕ → Result ⊤ Fault → List (List ℕ) → ℕ
left mosts understood words = fault_of understood ▷ words_fault mosts words

-- a word has been read where a number up to a most is meant
abbrev pub reads : ℕ → Result ⊤ Fault → List (List ℕ) → Result ⊤ Fault → List (List ℕ) → Type 0
reads most before words now behind = (mosts : List ℕ) → left mosts now behind ≡ left (most ∷ mosts) before words
