-- What a text says.
use Rattle.std.specs.Prelude.{ℕ, zero, suc, List}

-- A number is its text: the RFC sets no limit to it. A string is its code units, after escapes.
pub data Scalar : Type 0 where
  false_literal : Scalar
  null_literal : Scalar
  true_literal : Scalar
  number : List ℕ → Scalar
  string : List ℕ → Scalar

-- a member of an object, where a value says an A
pub record Member (A : Type 0) : Type 0 where
  pub name : List ℕ
  pub value : A

-- a value, where the values inside it say an A each
pub data Value (A : Type 0) : Type 0 where
  scalar : Scalar → Value A
  object : List (Member A) → Value A
  array : List A → Value A

-- what a text says in which objects and arrays stand at most so deep, each inside the other
abbrev pub Tree : ℕ → Type 0
Tree zero = Scalar
Tree (suc deep) = Value (Tree deep)
