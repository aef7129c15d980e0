-- The zone digits, one track after the other.
-- Assumes nothing.
use Prim.Native.Nat.{ℕ, ◌+◌, ◌<◌}
use mathlib.Core.Path.{◌≡◌, refl, sym, ap, ◌∙◌}
use mathlib.Core.Bool.{Bool, true, false, cond, ◌||◌}
use mathlib.Core.List.{List, [], ◌∷◌, map}
use lib.ListN.{length, get_or, take}
use Rattle.islands.proofs.Below.{any_more}
use Rattle.rules.specs.Station.{island_at}
use Rattle.rules.specs.Words.{any}
use Rattle.rules.specs.declared.Track.{Track}

abbrev stands : ℕ → Track → Bool
stands k t = (island_at t k).occupied

abbrev pub zone_digits : List Track → List ℕ
zone_digits l = map (λ k. cond (any (λ t. (island_at t k).occupied) l) 0 1) (0 ∷ 1 ∷ 2 ∷ 3 ∷ 4 ∷ [])

pub one_zone_more : (l : List Track) (j : ℕ) (d : Track) → j < length l
    → map (λ k. cond (island_at (get_or l j d) k).occupied 0 (get_or (zone_digits (take j l)) k 1))
    (0 ∷ 1 ∷ 2 ∷ 3 ∷ 4 ∷ [])
    ≡ zone_digits (take (j + 1) l)
one_zone_more l j d h = λ i. digit 0 i ∷ digit 1 i ∷ digit 2 i ∷ digit 3 i ∷ digit 4 i ∷ []
  where
    either : (a b : Bool) → cond {A = ℕ} b 0 (cond a 0 1) ≡ cond (a || b) 0 1
    either true true = refl
    either true false = refl
    either false true = refl
    either false false = refl

    digit : (k : ℕ)
        → cond {A = ℕ} (stands k (get_or l j d)) 0 (cond (any (stands k) (take j l)) 0 1)
        ≡ cond (any (stands k) (take (j + 1) l)) 0 1
    digit k =
        either (any (stands k) (take j l)) (stands k (get_or l j d))
        ∙ ap (λ (b : Bool). cond b 0 1) (sym (any_more (stands k) l j d h))
