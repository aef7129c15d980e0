-- Document 02, request 1: the digits of a message, five for each track and 0 for each that is not there.
-- Assumes nothing.
use Prim.Native.Nat.{ℕ, zero, suc, ◌+◌, ◌-◌, ◌*◌, ◌≤◌}
use native.Mathlib.Omega.{arith}
use mathlib.Core.Path.{◌≡◌, refl, sym, ap, ◌∙◌}
use mathlib.Core.Bool.{Bool, false, or_assoc, ◌||◌}
use mathlib.Core.List.{List, [], ◌∷◌, ◌++◌, append_assoc}
use borrow.Author.Tests.{le-ltb, ltb-false}
use lib.Dec.{ltb}
use lib.ListN.{drop, length, length-append, length-drop, length-take, replicate, take, take-append-drop}
use lib.Seq.{drop_at, length-take-le, take-add, take_at}
use Rattle.chains.proofs.Chains.{neither}
use Rattle.demands.specs.Screens.{All, Five}
use Rattle.rules.specs.Screen.{fives, padded}
use Rattle.rules.specs.Words.{any}
use Rattle.rules_json.specs.Grammar.{joined}

pub any_append : (p : ℕ → Bool) (s t : List ℕ) → any p (s ++ t) ≡ any p s || any p t
any_append p [] t = refl
any_append p (x ∷ s) t = ap (λ (b : Bool). p x || b) (any_append p s t) ∙ sym (or_assoc (p x) (any p s) (any p t))

-- ---- five digits for each track

-- none is above the most
pub none_above : (most : ℕ) (l : List ℕ) → any (ltb most) l ≡ false → All (λ d. d ≤ most) l
none_above most [] e = tt
none_above most (d ∷ l) e =
    let h = neither (ltb most d) (any (ltb most) l) e in
    (ltb-false most d h.0, none_above most l h.1)

more_fives : (n : ℕ) (l : List ℕ) → take (5 * suc n) l ≡ take 5 l ++ take (5 * n) (drop 5 l)
more_fives n l = let e : 5 * suc n ≡ 5 + 5 * n = omega arith in ap (λ (k : ℕ). take k l) e ∙ take-add 5 (5 * n) l

pub all_five : (n : ℕ) (l : List ℕ) → 5 * n ≤ length l → any (ltb 1) (take (5 * n) l) ≡ false → All Five (fives n l)
all_five zero l h e = tt
all_five (suc n) l h e =
    let apart = neither (any (ltb 1) (take 5 l)) (any (ltb 1) (take (5 * n) (drop 5 l)))
    (sym (any_append (ltb 1) (take 5 l) (take (5 * n) (drop 5 l))) ∙ ap (any (ltb 1)) (sym (more_fives n l)) ∙ e) in (
      (length-take-le 5 l (omega arith), none_above 1 (take 5 l) apart.0),
      all_five n (drop 5 l) (rw length-drop (omega arith)) apart.1,
    )

pub joined_fives : (n : ℕ) (l : List ℕ) → joined (fives n l) ≡ take (5 * n) l
joined_fives zero l = refl
joined_fives (suc n) l = ap (λ (s : List ℕ). take 5 l ++ s) (joined_fives n (drop 5 l)) ∙ sym (more_fives n l)

pub count_fives : (n : ℕ) (l : List ℕ) → length (fives n l) ≡ n
count_fives zero l = refl
count_fives (suc n) l = ap (λ (k : ℕ). suc k) (count_fives n (drop 5 l))

-- zeros, and nothing else
zeros : (l : List ℕ) → any (ltb 0) l ≡ false → l ≡ replicate (length l) 0
zeros [] e = refl
zeros (d ∷ l) e =
    let h = neither (ltb 0 d) (any (ltb 0) l) e in
    let none : d ≡ 0 = omega (arith, ltb-false 0 d h.0) in
    λ i. none i ∷ zeros l h.1 i

-- five digits for each track, and 0 for each that is not there, are the array as it was
pub padded_back : (n : ℕ) (l : List ℕ) → length l ≡ 20 → any (ltb 0) (drop n l) ≡ false → padded (take n l) ≡ l
padded_back n l e h =
    ap (λ (s : List ℕ). take n l ++ s) (ap (λ (k : ℕ). replicate k 0) count ∙ sym (zeros (drop n l) h))
    ∙ take-append-drop n l
  where
    count : 20 - length (take n l) ≡ length (drop n l)
    count = omega (arith, length-take n l, length-drop n l)

-- ---- and back: five digits for each track, one after the other

all_below_lem : (most : ℕ) (l : List ℕ) → All (λ d. d ≤ most) l → any (ltb most) l ≡ false
all_below_lem most [] h = refl
all_below_lem most (d ∷ l) h = λ i. le-ltb most d h.0 i || all_below_lem most l h.1 i

pub joined_few : (l : List (List ℕ)) → All Five l → any (ltb 1) (joined l) ≡ false
joined_few [] h = refl
joined_few (five ∷ l) h =
    any_append (ltb 1) five (joined l) ∙ λ i. all_below_lem 1 five h.0.1 i || joined_few l h.1 i

pub joined_count : (l : List (List ℕ)) → All Five l → length (joined l) ≡ 5 * length l
joined_count [] h = refl
joined_count (five ∷ l) h = omega (arith, length-append five (joined l), h.0.0, joined_count l h.1)

pub fives_again : (l : List (List ℕ)) (rest : List ℕ) → All Five l → fives (length l) (joined l ++ rest) ≡ l
fives_again [] rest h = refl
fives_again (five ∷ l) rest h =
    let split = append_assoc five (joined l) rest in
    let front = ap (take 5) split ∙ take_at five (joined l ++ rest) 5 h.0.0 in
    let back = ap (drop 5) split ∙ drop_at five (joined l ++ rest) 5 h.0.0 in
    (λ i. front i ∷ fives (length l) (back i)) ∙ ap {B = List (List ℕ)} (λ k. five ∷ k) (fives_again l rest h.1)
