-- When a message is within its ranges, as the code tests it.
-- Assumes nothing.
use Prim.Native.Nat.{ℕ, ◌*◌, ◌≤◌}
use mathlib.Core.Path.{◌≡◌, ap, sym, ◌∙◌}
use mathlib.Core.Bool.{Bool, true, false, ◌||◌, or-false}
use mathlib.Core.List.{List, [], ◌∷◌, ◌++◌}
use borrow.Author.Tests.{leb-true, not-true}
use lib.Dec.{ltb}
use lib.ListN.{take}
use Rattle.chains.proofs.Chains.{both}
use Rattle.islands.proofs.Below.{any_append}
use Rattle.rules.specs.Screen.{message_fits}
use Rattle.rules.specs.Words.{any}
use Rattle.rules.specs.declared.Message.{Message}

-- what a message that is has
pub record Fits (m : Message) : Type 0 where
  pub station : m.station ≤ 65535
  pub aspect : m.aspect ≤ 5
  pub least : 1 ≤ m.tracks
  pub most : m.tracks ≤ 4
  pub digits : any (ltb 1) (take (5 * m.tracks) m.digits) ≡ false

pub fits_so : (m : Message) → message_fits m ≡ true → Fits m
unfolding message_fits
fits_so m e =
    let digits = both _ _ (both _ _ e).0 in
    let tracks = both _ _ digits.0 in
    let limits = both _ _ tracks.1 in
    let numbers = both _ _ tracks.0 in
    record {
      station = leb-true m.station 65535 numbers.0;
      aspect = leb-true m.aspect 5 numbers.1;
      least = leb-true 1 m.tracks limits.0;
      most = leb-true m.tracks 4 limits.1;
      digits = not-true _ digits.1;
    }

-- ---- one more digit, as the code looks at them

pub one_more : (most : ℕ) (l : List ℕ) (found : Bool) (digit : ℕ) → found ≡ any (ltb most) l
    → found || ltb most digit ≡ any (ltb most) (l ++ digit ∷ [])
one_more most l found digit e =
    ap (λ b. b || ltb most digit) e ∙ ap (λ b. any (ltb most) l || b) (sym (or-false (ltb most digit)))
    ∙ sym (any_append (ltb most) l (digit ∷ []))
