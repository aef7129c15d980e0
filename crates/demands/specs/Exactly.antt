-- Document 01, "The numbers it answers": "given exactly when", and "Order". Numbers with their cases,
-- in the order in which they are tested.
use Rattle.std.specs.Prelude.{ℕ, ◌↔◌, ◌≡◌, Bool, cond, List, [], ◌∷◌, eqb}
use Rattle.rules.specs.Words.{any}

infixr 20 ◌when◌then◌
-- A number with its case, before others; and the number for where no case holds. No number stands twice in a list.
pub data Cases : Type 1 where
  ◌when◌then◌ : ℕ → Type 0 → Cases → Cases
  otherwise : ℕ → Cases

-- A number is answered exactly when its case holds and none before it does, and the last one
-- exactly when no case holds.
abbrev pub GivenAfter : Type 0 → Cases → ℕ → Type 0
GivenAfter none_before (n when case then rest) answer =
    (answer ≡ n ↔ (none_before × case)) × GivenAfter (none_before × (case → ⊥)) rest answer
GivenAfter none_before (otherwise n) answer = answer ≡ n ↔ none_before

abbrev pub GivenExactly : Cases → ℕ → Type 0
GivenExactly cases answer = GivenAfter Unit cases answer

-- ---- what follows (proofs/Exactly): the answer is one of these numbers, and is given in its stated case only

abbrev pub numbers_of : Cases → List ℕ
numbers_of (n when case then rest) = n ∷ numbers_of rest
numbers_of (otherwise n) = n ∷ []

abbrev pub one_of : List ℕ → ℕ → Bool
one_of numbers n = any (eqb n) numbers

-- the case of a number (of the last number, and of one that is not there, nothing is said)
abbrev pub CaseOf : ℕ → Cases → Type 0
CaseOf k (n when case then rest) = cond (eqb n k) case (CaseOf k rest)
CaseOf k (otherwise n) = Unit
