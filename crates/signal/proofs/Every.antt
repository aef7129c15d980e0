-- A rule at every list of so many Booleans, by one test that is computed over them all.
use mathlib.Core.Path.{◌≡◌}
use mathlib.Core.Bool.{Bool, true, false, ◌&&◌, and-eq-true_iff}
use mathlib.Core.List.{List, [], ◌∷◌}
use Prim.Native.Nat.{ℕ, zero, suc}
use lib.ListN.{length}

-- the test passes at each list of n Booleans
abbrev every_list : (List Bool → Bool) → ℕ → Bool
every_list f zero = f []
every_list f (suc n) = every_list (λ bs. f (true ∷ bs)) n && every_list (λ bs. f (false ∷ bs)) n

split : (f : List Bool → Bool) (n : ℕ) → every_list f (suc n) ≡ true → (b : Bool) →
    every_list (λ bs. f (b ∷ bs)) n ≡ true
split f n t true = ((and-eq-true_iff (every_list (λ bs. f (true ∷ bs)) n) (every_list (λ bs. f (false ∷ bs)) n)).0 t).0
split f n t false = ((and-eq-true_iff (every_list (λ bs. f (true ∷ bs)) n) (every_list (λ bs. f (false ∷ bs)) n)).0 t).1

pub at_list : (f : List Bool → Bool) (bs : List Bool) → every_list f (length bs) ≡ true → f bs ≡ true
at_list f [] t = t
at_list f (b ∷ bs) t = at_list (λ cs. f (b ∷ cs)) bs (split f (length bs) t b)
