-- The number of a word among names, where each stands with what it means. (Not for belief: it is told by rules_plan's
-- place_among.)
use Rattle.std.specs.Prelude.{ℕ, cond, List, [], ◌∷◌, map}
use Rattle.std.specs.Borrow.{Bor}
use Rattle.std.specs.Char.{to_ascii_lowercase}
use Rattle.rules.specs.Screen.{same}
use Rattle.rules_plan.specs.Answered.{word_number}
use Rattle.rules_plan.specs.Words.{other_word}
use Rattle.rules_plan.specs.declared.Word.{Word}

abbrev pub in_lower : List ℕ → List ℕ
in_lower word = map to_ascii_lowercase word

unfoldable pub number_among : List (Bor (List ℕ) × Word) → List ℕ → ℕ
number_among [] word = other_word
number_among (name ∷ others) word =
    cond (same (in_lower word) (in_lower name.0.now)) (word_number name.1) (number_among others word)
