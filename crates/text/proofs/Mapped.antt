-- An array's `map`: a list each of whose elements is what a function gives of the one at its place.
use Prim.Native.Nat.{ℕ, ◌<◌}
use native.Mathlib.Omega.{arith}
use mathlib.Core.Path.{◌≡◌, sym, ◌∙◌}
use mathlib.Core.List.{List, map}
use lib.ListN.{get_or, length, length-map}
use Rattle.std.proofs.lemmas.List.{get_or-map, same_lists}

pub mapped :
    {A B : Type 0} (f : A → B) (e : A) (xs : List A) (ys : List B) (n : ℕ) → length xs ≡ n → length ys ≡ n
    → ((k : ℕ) (d : B) → k < n → get_or ys k d ≡ f (get_or xs k e))
    → ys ≡ map f xs
mapped f e xs ys n long same each =
    same_lists ys (map f xs) (same ∙ sym (length-map xs f ∙ long))
    (λ k d h. each k d (omega arith) ∙ sym (get_or-map f xs k e d (omega arith)))
