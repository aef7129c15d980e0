-- RFC 5234: how the rules of RFC 8259 are put together. A rule is the texts that it has, and a text is a list of octets.
use Prim.Native.Char.{code}
use Rattle.std.specs.Prelude.{ℕ, zero, suc, Bool, true, ◌&&◌, List, [], ◌∷◌, ◌++◌, ◌⊎◌, ◌≡◌, leb}
use Prim.Native.String.{String, char_at, len}

abbrev pub Rule : Type 1
Rule = List ℕ → Type 0

-- ---- octets

-- n octets of a text of ASCII from a place on
abbrev pub octets_from : ℕ → ℕ → String → List ℕ
octets_from zero place text = []
octets_from (suc n) place text = code (char_at text place) ∷ octets_from n (suc place) text

-- the octets of a text of ASCII
abbrev pub octets : String → List ℕ
octets text = octets_from (len text) 0 text

-- %xLEAST-MOST
abbrev pub within : ℕ → ℕ → ℕ → Bool
within least most b = leb least b && leb b most

-- ---- rules

-- these octets
abbrev pub these : List ℕ → Rule
these word s = s ≡ word

-- one octet of a class
abbrev pub one : (ℕ → Bool) → Rule
one class s = (b : ℕ) × (s ≡ b ∷ []) × (class b ≡ true)

infixr 30 ◌then◌
infixr 25 ◌or◌
-- concatenation
abbrev pub ◌then◌ : Rule → Rule → Rule
(p then q) s = (t : List ℕ) × (u : List ℕ) × (s ≡ t ++ u) × p t × q u

-- alternatives
abbrev pub ◌or◌ : Rule → Rule → Rule
(p or q) s = p s ⊎ q s

-- [ p ]
abbrev pub optional : Rule → Rule
optional p = these [] or p

-- ---- one after another

-- n of it
abbrev pub times : ℕ → Rule → Rule
times zero p = these []
times (suc n) p = p then times n p

-- *p
abbrev pub many : Rule → Rule
many p s = (n : ℕ) × times n p s

-- 1*p
abbrev pub at_least_one : Rule → Rule
at_least_one p = p then many p

module _ {A : Type 0} where
  -- a text for each of these, in their order
  abbrev pub row : (A → Rule) → List A → Rule
  row p [] = these []
  row p (x ∷ xs) = p x then row p xs
