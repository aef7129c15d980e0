-- What a row is, and how a row that is wrong is found.
use Rattle.std.specs.Prelude.{ℕ, Bool, true, false, cond, ◌&&◌, List, [], ◌∷◌, ◌++◌, map, eqb}
use Rattle.rules.specs.Words.{any}

-- A row: the number of its name (3 for C3), what is got, and what is due.
pub record Row : Type 0 where
  pub name : ℕ
  pub got : ℕ
  pub due : ℕ

abbrev pub row : ℕ → ℕ → ℕ → Row
row name got due = record { name = name; got = got; due = due }

-- rows of one name, each of them due the same number
abbrev pub each : ℕ → ℕ → List ℕ → List Row
each name due l = map (λ got. row name got due) l

-- the same numbers in the same order
abbrev pub same : List ℕ → List ℕ → Bool
same [] [] = true
same [] (d ∷ due) = false
same (g ∷ got) [] = false
same (g ∷ got) (d ∷ due) = eqb g d && same got due

-- several numbers against those due, in one row: 1 where they are the same
abbrev pub rows : ℕ → List ℕ → List ℕ → List Row
rows name got due = row name (cond (same got due) 1 0) 1 ∷ []

-- ---- a row that is wrong

-- the name of the first row where what is got is not what is due, and 0 where there is none
abbrev pub first_wrong : List Row → ℕ
first_wrong [] = 0
first_wrong (r ∷ rs) = cond (eqb r.got r.due) (first_wrong rs) r.name

-- the rows of a name, and those of no name that is listed
abbrev pub named : ℕ → List Row → List Row
named n [] = []
named n (r ∷ rs) = cond (eqb r.name n) (r ∷ named n rs) (named n rs)

abbrev pub others : List ℕ → List Row → List Row
others names [] = []
others names (r ∷ rs) = cond (any (λ n. eqb r.name n) names) (others names rs) (r ∷ others names rs)

-- ---- lists of rows, and of numbers

abbrev pub all_rows : List (List Row) → List Row
all_rows [] = []
all_rows (l ∷ ls) = l ++ all_rows ls

abbrev pub together : List (List ℕ) → List ℕ
together [] = []
together (l ∷ ls) = l ++ together ls

-- 1 where it is so, and 0 where not
abbrev pub digits : List Bool → List ℕ
digits l = map (λ b. cond b 1 0) l
