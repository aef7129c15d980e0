-- Words that document 01 uses throughout: "some", "any", "at least two"; bytes put at a place; the first test that
-- refuses; from a least to a most number.
use Rattle.std.specs.Prelude.{ℕ, suc, ◌+◌, Bool, false, cond, ◌&&◌, ◌||◌, List, [], ◌∷◌, ◌++◌, eqb, leb, drop, length, take}

-- ---- of a list

module _ {A : Type 0} where
  -- some element passes the test
  abbrev pub any : (A → Bool) → List A → Bool
  any p [] = false
  any p (x ∷ xs) = p x || any p xs

  -- how many elements pass the test
  abbrev pub count : (A → Bool) → List A → ℕ
  count p [] = 0
  count p (x ∷ xs) = cond (p x) (suc (count p xs)) (count p xs)

module _ {A B : Type 0} where
  -- some pair of elements at one place of two lists passes the test
  abbrev pub any_with : (A → B → Bool) → List A → List B → Bool
  any_with p [] ys = false
  any_with p (x ∷ xs) [] = false
  any_with p (x ∷ xs) (y ∷ ys) = p x y || any_with p xs ys

-- ---- of bytes

-- b with these bytes from a place on, and no other byte touched
abbrev pub put : ℕ → List ℕ → List ℕ → List ℕ
put at bytes b = take at b ++ (bytes ++ drop (at + length bytes) b)

-- ---- tests in an order

infixr 20 ◌if◌then◌
infixr 15 ◌▷◌
-- n where the test holds, and otherwise what the tests after it give
unfoldable pub ◌if◌then◌ : ℕ → Bool → ℕ → ℕ
n if t then rest = cond t n rest

-- the first group's number, and where that is 0 the next group's
unfoldable pub ◌▷◌ : ℕ → ℕ → ℕ
x ▷ y = cond (eqb x 0) y x

-- ---- limits

-- x is from least to most
abbrev pub within : ℕ → ℕ → ℕ → Bool
within least most x = leb least x && leb x most
