-- What is seen of the tracks, one track after the other.
-- Assumes nothing.
use Prim.Native.Nat.{ℕ, ◌+◌, ◌<◌}
use mathlib.Core.Path.{◌≡◌, refl, ap, ◌∙◌}
use mathlib.Core.Bool.{Bool, true, false, ◌||◌}
use mathlib.Core.List.{List, [], ◌∷◌}
use lib.ListN.{length, get_or, take}
use Rattle.std.specs.List.{list_any}
use Rattle.islands.proofs.Below.{any_more, count_more}
use Rattle.islands.specs.Signs.{signs_of}
use Rattle.rules.specs.Aspect.{fresh_advance, fresh_near, present, some_fresh, some_held}
use Rattle.rules.specs.Words.{any}
use Rattle.rules.specs.declared.Settings.{Settings}
use Rattle.rules.specs.declared.Track.{Track}
use Rattle.station.specs.Survey.{survey_of, with_signs}

pub one_more : (c : Settings) (l : List Track) (j : ℕ) (d : Track) → j < length l
    → survey_of c (take (j + 1) l) ≡ with_signs (survey_of c (take j l)) (signs_of c (get_or l j d))
unfolding survey_of signs_of
one_more c l j d h = λ k.
    record {
      fresh = any_more (some_fresh c) l j d h k;
      present = count_more (present c) l j d h k;
      near = any_more (fresh_near c) l j d h k;
      ahead = any_more (fresh_advance c) l j d h k;
      held = any_more (some_held c) l j d h k;
    }

module _ {A : Type 0} where
  -- either of two tests, of each element
  pub any_of_two : (p q : A → Bool) (l : List A) → list_any (λ x. p x || q x) l ≡ any p l || any q l
  any_of_two p q [] = refl
  any_of_two p q (x ∷ xs) =
      ap (λ (b : Bool). (p x || q x) || b) (any_of_two p q xs) ∙ regrouped (p x) (q x) (any p xs) (any q xs)
    where
      regrouped : (a b c d : Bool) → (a || b) || (c || d) ≡ (a || c) || (b || d)
      regrouped true b c d = refl
      regrouped false true true d = refl
      regrouped false true false d = refl
      regrouped false false c d = refl
