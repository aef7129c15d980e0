-- Laws of "any" and "how many" over the first j elements of a list: what a loop that goes through them needs.
-- Assumes nothing.
use Prim.Native.Nat.{ℕ, zero, suc, ◌+◌, ◌≤◌, ◌<◌, min}
use native.Mathlib.Nat.{zero-add}
use native.Mathlib.Decide.{dec_le}
use native.Mathlib.Numerals.{add-one}
use native.Mathlib.Omega.{arith}
use mathlib.Core.Path.{◌≡◌, refl, sym, ap, ap₂, ◌∙◌}
use mathlib.Core.Bool.{Bool, true, false, cond, ◌&&◌, ◌||◌, false≢true, or-false, or-true, or_assoc}
use mathlib.Core.List.{List, [], ◌∷◌, ◌++◌, map}
use lib.ListN.{length, get_or, take, drop, set, drop_of_length-le}
use lib.Seq.{take-suc, take_all}
use Rattle.std.proofs.lemmas.List.Edits.{map_over_more}
use Rattle.islands.proofs.Listed.{get_or_same}
use Rattle.rules.specs.Words.{any, count}

one_more : (b : Bool) (m n k : ℕ) → m ≡ n + k → cond b (suc m) m ≡ cond b (suc n) n + k
one_more true m n k e = omega arith
one_more false m n k e = e

pub or_both : (a b c d : Bool) → a || c ≡ c → b || d ≡ d → (a || b) || (c || d) ≡ c || d
or_both true b true d e f = refl
or_both true b false d e f = absurd (false≢true (sym e))
or_both false b true d e f = or-true b
or_both false b false d e f = f

pub second : (a b : Bool) → a && b ≡ true → b ≡ true
second true b e = e
second false true e = refl
second false false e = e

module _ {A : Type 0} (p : A → Bool) where
  pub any_append : (xs ys : List A) → any p (xs ++ ys) ≡ any p xs || any p ys
  any_append [] ys = refl
  any_append (x ∷ xs) ys = ap (λ (b : Bool). p x || b) (any_append xs ys) ∙ sym (or_assoc (p x) (any p xs) (any p ys))

  pub count_append : (xs ys : List A) → count p (xs ++ ys) ≡ count p xs + count p ys
  count_append [] ys = sym (zero-add (count p ys))
  count_append (x ∷ xs) ys = one_more (p x) (count p (xs ++ ys)) (count p xs) (count p ys) (count_append xs ys)

  -- one element more
  pub any_more : (l : List A) (j : ℕ) (d : A) → j < length l
      → any p (take (j + 1) l) ≡ any p (take j l) || p (get_or l j d)
  any_more l j d h = rw (add-one, take-suc l j d h)
      (any_append (take j l) (get_or l j d ∷ []) ∙ ap (λ (b : Bool). any p (take j l) || b)
      (or-false (p (get_or l j d))))

  pub count_more : (l : List A) (j : ℕ) (d : A) → j < length l
      → count p (take (j + 1) l) ≡ count p (take j l) + cond (p (get_or l j d)) 1 0
  count_more l j d h = rw (add-one, take-suc l j d h) (count_append (take j l) (get_or l j d ∷ []))

module _ {A : Type 0} where
  -- j is where a loop over the first n of m elements ends: a number above the length names no
  -- more elements than there are
  pub take_least : (l : List A) (j n m : ℕ) → length l ≡ m → j ≡ min n m → take j l ≡ take n l
  take_least l j n m e end = go (dec_le m n)
    where
      go : Dec (m ≤ n) → take j l ≡ take n l
      go (yes h) = take_all j l (omega arith) ∙ sym (take_all n l (omega arith))
      go (no h) = let fewer : j ≡ n = omega arith in ap (λ (k : ℕ). take k l) fewer

  pub drop_least : (l : List A) (j n m : ℕ) → length l ≡ m → j ≡ min n m → drop j l ≡ drop n l
  drop_least l j n m e end = go (dec_le m n)
    where
      go : Dec (m ≤ n) → drop j l ≡ drop n l
      go (yes h) =
          let least : length l ≤ j = omega arith in
          let all : length l ≤ n = omega arith in
          drop_of_length-le l least ∙ sym (drop_of_length-le l all)
      go (no h) = let fewer : j ≡ n = omega arith in ap (λ (k : ℕ). drop k l) fewer

module _ {A : Type 0} (p q : A → Bool) where
  -- tests that are the same for each element
  pub any_alike : ((x : A) → p x ≡ q x) → (l : List A) → any p l ≡ any q l
  any_alike e [] = refl
  any_alike e (x ∷ l) = ap₂ ◌||◌ (e x) (any_alike e l)

  -- an element that passes the first test passes the second
  pub any_only : ((x : A) → p x || q x ≡ q x) → (l : List A) → any p l || any q l ≡ any q l
  any_only e [] = refl
  any_only e (x ∷ l) = or_both (p x) (any p l) (q x) (any q l) (e x) (any_only e l)

-- no element passes the test
pub any_none : {A : Type 0} (p : A → Bool) → ((x : A) → p x ≡ false) → (l : List A) → any p l ≡ false
any_none p e [] = refl
any_none p e (x ∷ l) = ap₂ ◌||◌ (e x) (any_none p e l)

module _ {A B : Type 0} (f : A → B) where
  pub any_map : (p : B → Bool) (l : List A) → any p (map f l) ≡ any (λ x. p (f x)) l
  any_map p [] = refl
  any_map p (x ∷ xs) = ap (λ (b : Bool). p (f x) || b) (any_map p xs)

  pub count_map : (p : B → Bool) (l : List A) → count p (map f l) ≡ count (λ x. p (f x)) l
  count_map p [] = refl
  count_map p (x ∷ xs) = ap (λ (n : ℕ). cond (p (f x)) (suc n) n) (count_map p xs)

-- A list whose first j elements have been changed, one after the other and in place.
module _ {A : Type 0} (f : A → A) where
  abbrev pub changed : ℕ → List A → List A
  changed j l = map f (take j l) ++ drop j l

  -- a store of what the change makes of the element that stands there
  pub changed_next : (j : ℕ) (l m : List A) (d x : A) → j < length l → j < length m → m ≡ changed j l
      → x ≡ f (get_or m j d) → set m j x ≡ changed (j + 1) l
  changed_next j l m d x h k e g =
      ap (set m j) g ∙ map_over_more f l m j (get_or m j d) h e (get_or_same m j d (get_or m j d) k)

  pub changed_take : (j : ℕ) (l : List A) → take j (changed j l) ≡ map f (take j l)
  changed_take zero l = refl
  changed_take (suc j) [] = refl
  changed_take (suc j) (x ∷ xs) = ap (λ (ys : List A). f x ∷ ys) (changed_take j xs)

  pub changed_drop : (j : ℕ) (l : List A) → drop j (changed j l) ≡ drop j l
  changed_drop zero l = refl
  changed_drop (suc j) [] = refl
  changed_drop (suc j) (x ∷ xs) = changed_drop j xs
