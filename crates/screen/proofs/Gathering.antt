-- A list whose values all give something, value by value: what was gathered, and what is left.
-- Assumes nothing.
use Prim.Native.Nat.{ℕ, suc, ◌+◌}
use mathlib.Core.Bool.{Bool, false, true}
use mathlib.Core.List.{List, [], ◌∷◌, ◌++◌}
use mathlib.Core.Option.{Option, none, some}
use mathlib.Core.Path.{◌≡◌, ap, refl, sym, ◌∙◌}
use native.Mathlib.Nat.{zero-add}
use native.Mathlib.Omega.{arith}
use lib.ListN.{length, length-append}
use lib.Seq.{append_snoc}
use Rattle.rules.specs.Screen.{and_then, each, list_of, provided}
use Rattle.rules_json.specs.Tree.{Value, array, object, scalar}

module _ {A B : Type 0} (how_many : ℕ → Bool) (f : A → Option B) where
  -- what the list gives, where the values up to here gave something each
  pub outcome : List B → List A → Option (List B)
  outcome had left = and_then (each f left) (λ ys. provided (how_many (length had + length left)) (had ++ ys))

  pub gathers_begins : (left : List A) → outcome [] left ≡ list_of how_many f (array left)
  unfolding outcome
  gathers_begins left = ap (λ n. and_then (each f left) (λ ys. provided (how_many n) ys)) (zero-add (length left))

  pub gathers_none : (had : List B) (x : A) (left : List A) → f x ≡ none → outcome had (x ∷ left) ≡ none
  unfolding outcome
  gathers_none had x left e = rw e

  pub gathers_on : (had : List B) (x : A) (left : List A) (y : B) → f x ≡ some y
      → outcome had (x ∷ left) ≡ outcome (had ++ y ∷ []) left
  unfolding outcome
  gathers_on had x left y e = rw e (by_rest (each f left))
    where
      by_rest : (rest : Option (List B))
          → and_then (and_then rest (λ ys. some (y ∷ ys)))
          (λ ys. provided (how_many (length had + suc (length left))) (had ++ ys))
          ≡ and_then rest (λ ys. provided (how_many (length (had ++ y ∷ []) + length left)) (had ++ y ∷ [] ++ ys))
      by_rest none = refl
      by_rest (some ys) =
          let size : length had + suc (length left) ≡ length (had ++ y ∷ []) + length left =
          omega (arith, length-append had (y ∷ [])) in
          λ i. provided (how_many (size i)) (sym (append_snoc had y ys) i)

  pub gathers_last : (had : List B) (x : A) (y : B) → f x ≡ some y
      → outcome had (x ∷ []) ≡ provided (how_many (length had + 1)) (had ++ y ∷ [])
  unfolding outcome
  gathers_last had x y e = rw e

  pub gathers_too_many : (had : List B) (left : List A) → how_many (length had + length left) ≡ false
      → outcome had left ≡ none
  unfolding outcome
  gathers_too_many had left e = rw e (by_rest (each f left))
    where
      by_rest : (rest : Option (List B)) → and_then rest (λ ys. provided false (had ++ ys)) ≡ none
      by_rest none = refl
      by_rest (some ys) = refl

  -- ---- as many as told

  each_long : (xs : List A) (ys : List B) → each f xs ≡ some ys → length xs ≡ length ys
  each_long [] ys e = let same : [] ≡ ys = cc in ap length same
  each_long (x ∷ xs) ys e = by_first (f x) (each f xs) (each_long xs) e
    where
      by_first : (first : Option B) (rest : Option (List B)) → ((zs : List B) → rest ≡ some zs → length xs ≡ length zs)
          → and_then first (λ y. and_then rest (λ zs. some (y ∷ zs))) ≡ some ys → length (x ∷ xs) ≡ length ys
      by_first none rest h e = let z : ◌≡◌ {A = ℕ} 0 1 = cc in absurd (omega arith)
      by_first (some y) none h e = let z : ◌≡◌ {A = ℕ} 0 1 = cc in absurd (omega arith)
      by_first (some y) (some zs) h e = let same : y ∷ zs ≡ ys = cc in ap suc (h zs refl) ∙ ap length same

  pub as_many : (v : Value A) (ys : List B) → list_of how_many f v ≡ some ys → how_many (length ys) ≡ true
  as_many (scalar x) ys e = let z : ◌≡◌ {A = ℕ} 0 1 = cc in absurd (omega arith)
  as_many (object members) ys e = let z : ◌≡◌ {A = ℕ} 0 1 = cc in absurd (omega arith)
  as_many (array xs) ys e = by_rest (each f xs) (each_long xs) (how_many (length xs)) refl e
    where
      by_rest : (rest : Option (List B)) → ((zs : List B) → rest ≡ some zs → length xs ≡ length zs) → (t : Bool)
          → how_many (length xs) ≡ t
          → and_then rest (λ zs. provided t zs) ≡ some ys → how_many (length ys) ≡ true
      by_rest none h t q e = let z : ◌≡◌ {A = ℕ} 0 1 = cc in absurd (omega arith)
      by_rest (some zs) h false q e = let z : ◌≡◌ {A = ℕ} 0 1 = cc in absurd (omega arith)
      by_rest (some zs) h true q e = let same : zs ≡ ys = cc in ap how_many (sym (h zs refl ∙ ap length same)) ∙ q
