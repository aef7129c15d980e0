-- Tests in an order, with the table's words for each: a number is answered exactly when its case holds and none before
-- it does. And what follows of any answer that is given so: it is one of the numbers, and there is no other.
-- Assumes nothing.
use Prim.Native.Nat.{ℕ, ◌≤◌, ◌<◌}
use native.Mathlib.Decide.{ℕ_discrete}
use native.Mathlib.Omega.{arith}
use mathlib.Core.Logic.{◌⊎◌, ⊎_elim}
use mathlib.Core.Path.{◌≡◌, refl, sym, ap, ap₂, subst, ◌∙◌}
use mathlib.Core.Bool.{Bool, true, false, true≢false, cond, not, or-true, ◌&&◌, ◌||◌}
use mathlib.Core.List.{List, [], ◌∷◌, ◌++◌}
use borrow.Author.Tests.{eq-eqb, eqb-false, eqb-true, leb-false, leb-true, ltb-false, ltb-true, not-false, not-true}
use lib.Dec.{eqb, leb, ltb}
use Rattle.chains.proofs.Chains.{both, either, neither}
use Rattle.demands.specs.Exactly.{CaseOf, Cases, GivenAfter, GivenExactly, numbers_of}
use Rattle.demands.specs.Exactly.{one_of, otherwise, ◌when◌then◌}
use Rattle.rules.specs.Words.{◌if◌then◌, ◌▷◌}

-- ---- a test of the definitions, and the case that it tells

pub record Tells (case : Type 0) : Type 0 where
  pub test : Bool
  pub so : test ≡ true → case
  pub not_so : test ≡ false → case → ⊥

abbrev pub is : (t : Bool) → Tells (t ≡ true)
is t = record { test = t; so = λ e. e; not_so = λ e h. true≢false (sym h ∙ e) }

abbrev pub isnt : (t : Bool) → Tells (t ≡ false)
isnt t = record { test = not t; so = not-true t; not_so = λ e h. true≢false (sym (not-false t e) ∙ h) }

abbrev pub equal : (x n : ℕ) → Tells (x ≡ n)
equal x n = record { test = eqb x n; so = eqb-true x n; not_so = eqb-false x n }

abbrev pub unequal : (x n : ℕ) → Tells (x ≡ n → ⊥)
unequal x n = record {
  test = not (eqb x n);
  so = λ e. eqb-false x n (not-true _ e);
  not_so = λ e h. h (eqb-true x n (not-false _ e));
}

abbrev pub at_most : (x n : ℕ) → Tells (x ≤ n)
at_most x n = record { test = leb x n; so = leb-true x n; not_so = λ e h. let least = leb-false x n e in omega arith }

abbrev pub below : (x n : ℕ) → Tells (x < n)
below x n = record { test = ltb x n; so = ltb-true x n; not_so = λ e h. let least = ltb-false x n e in omega arith }

infixl 75 ◌or◌ ◌and◌
module _ {A B : Type 0} (x : Tells A) where
  abbrev pub ◌or◌ : Tells B → Tells (A ⊎ B)
  ◌or◌ y =
      record {
        test = x.test || y.test;
        so = either _ _ x.so y.so;
        not_so = λ e. let h = neither _ _ e in ⊎_elim (x.not_so h.0) (y.not_so h.1);
      }

  abbrev pub ◌and◌ : Tells B → Tells (A × B)
  ◌and◌ y =
      record {
        test = x.test && y.test;
        so = λ e. let h = both _ _ e in (x.so h.0, y.so h.1);
        not_so = fails x.test refl;
      }
    where
      fails : (t : Bool) → x.test ≡ t → t && y.test ≡ false → A × B → ⊥
      fails true q e h = y.not_so e h.1
      fails false q e h = x.not_so q h.0

  -- the same in other words
  abbrev pub in_words : (A → B) → (B → A) → Tells B
  in_words f g = record { test = x.test; so = λ e. f (x.so e); not_so = λ e h. x.not_so e (g h) }

-- ---- tests in an order

infix 70 ◌on◌
infixr 15 ◌before◌
pub record Row : Type 1 where
  pub number : ℕ
  pub case : Type 0
  pub tells : Tells case

abbrev pub ◌on◌ : {case : Type 0} → ℕ → Tells case → Row
◌on◌ {case} n t = record { number = n; case = case; tells = t }

-- as they stand in the definitions: groups of tests, one before another
pub data Tests : Type 1 where
  group : List Row → Tests
  ◌before◌ : Tests → Tests → Tests

abbrev first_of : List Row → ℕ
first_of [] = 0
first_of (r ∷ rest) = r.number if r.tells.test then first_of rest

abbrev pub first : Tests → ℕ
first (group rows) = first_of rows
first (x before y) = first x ▷ first y

abbrev rows_of : Tests → List Row
rows_of (group rows) = rows
rows_of (x before y) = rows_of x ++ rows_of y

abbrev cases_in : List Row → Cases
cases_in [] = otherwise 0
cases_in (r ∷ rest) = r.number when r.case then cases_in rest

abbrev pub cases_of : Tests → Cases
cases_of x = cases_in (rows_of x)

-- ---- what follows of any answer that is given so

-- it is one of the numbers,
one_after : (answer : ℕ) (cases : Cases) (none_before : Type 0) → none_before → GivenAfter none_before cases answer
    → one_of (numbers_of cases) answer ≡ true
one_after answer (n when case then rest) none_before h g =
    go (ℕ_discrete answer n) (λ unlike. one_after answer rest _ (h, λ c. unlike (g.0.1 (h, c))) g.1)
  where
    go : Dec (answer ≡ n) → ((answer ≡ n → ⊥) → one_of (numbers_of rest) answer ≡ true)
        → one_of (n ∷ numbers_of rest) answer ≡ true
    go (yes e) later = ap (λ (t : Bool). t || one_of (numbers_of rest) answer) (eq-eqb answer n e)
    go (no e) later = ap (λ (t : Bool). eqb answer n || t) (later e) ∙ or-true (eqb answer n)
one_after answer (otherwise n) none_before h g = ap (λ (t : Bool). t || false) (eq-eqb answer n (g.1 h))

pub one_of_lem : (cases : Cases) (answer : ℕ) → GivenExactly cases answer → one_of (numbers_of cases) answer ≡ true
one_of_lem cases answer g = one_after answer cases Unit tt g

-- and is given in its stated case only;
case_after : (answer : ℕ) (cases : Cases) (none_before : Type 0) → GivenAfter none_before cases answer
    → CaseOf answer cases
case_after answer (n when case then rest) none_before g = go (eqb n answer) refl (case_after answer rest _ g.1)
  where
    go : (t : Bool) → eqb n answer ≡ t → CaseOf answer rest → cond t case (CaseOf answer rest)
    go true e later = (g.0.0 (sym (eqb-true n answer e))).1
    go false e later = later
case_after answer (otherwise n) none_before g = tt

pub in_its_case : (cases : Cases) (answer n : ℕ) → GivenExactly cases answer → answer ≡ n → CaseOf n cases
in_its_case cases answer n g e = subst (λ (k : ℕ). CaseOf k cases) e (case_after answer cases Unit g)

-- and there is no other
same_after : (answer answer' : ℕ) (cases : Cases) (none_before : Type 0) → none_before
    → GivenAfter none_before cases answer
    → GivenAfter none_before cases answer'
    → answer ≡ answer'
same_after answer answer' (n when case then rest) none_before h g g' =
    go (ℕ_discrete answer n)
    (λ unlike. same_after answer answer' rest _ (h, λ c. unlike (g.0.1 (h, c))) g.1 g'.1)
  where
    go : Dec (answer ≡ n) → ((answer ≡ n → ⊥) → answer ≡ answer') → answer ≡ answer'
    go (yes e) later = e ∙ sym (g'.0.1 (g.0.0 e))
    go (no e) later = later e
same_after answer answer' (otherwise n) none_before h g g' = g.1 h ∙ sym (g'.1 h)

pub only_one : (cases : Cases) (answer answer' : ℕ) → GivenExactly cases answer → GivenExactly cases answer'
    → answer ≡ answer'
only_one cases answer answer' = same_after answer answer' cases Unit tt

-- ---- the answer of tests in an order is given so

-- no number stands twice
abbrev apart : List ℕ → Bool
apart [] = true
apart (n ∷ rest) = not (one_of rest n) && apart rest

abbrev no_zero : List Row → Bool
no_zero [] = true
no_zero (r ∷ rest) = not (eqb r.number 0) && no_zero rest

-- where an earlier case held, no later number is answered
past : (answer : ℕ) (cases : Cases) (none_before : Type 0) → (none_before → ⊥) →
    one_of (numbers_of cases) answer ≡ false
    → GivenAfter none_before cases answer
past answer (n when case then rest) none_before held e =
    let h = neither _ _ e in (
      (λ q. absurd (eqb-false answer n h.0 q), λ p. absurd (held p.0)),
      past answer rest _ (λ p. held p.0) h.1,
    )
past answer (otherwise n) none_before held e =
    (λ q. absurd (eqb-false answer n (neither _ _ e).0 q), λ p. absurd (held p))

-- and where none has held so far, the first that does gives the answer
from_here : (l : List Row) (none_before : Type 0) → none_before → apart (numbers_of (cases_in l)) ≡ true
    → GivenAfter none_before (cases_in l) (first_of l)
unfolding ◌if◌then◌
from_here [] none_before h a = (λ _. h, λ _. refl)
from_here (r ∷ rest) none_before h a =
    go r.tells.test refl (λ unlike. from_here rest _ (h, unlike) others.1)
  where
    later : Cases
    later = cases_in rest

    others : (not (one_of (numbers_of later) r.number) ≡ true) × (apart (numbers_of later) ≡ true)
    others = both (not (one_of (numbers_of later) r.number)) (apart (numbers_of later)) a

    other : one_of (numbers_of later) r.number ≡ false
    other = not-true (one_of (numbers_of later) r.number) others.0

    go : (t : Bool) → r.tells.test ≡ t
        → ((r.case → ⊥) → GivenAfter (none_before × (r.case → ⊥)) later (first_of rest))
        → GivenAfter none_before (cases_in (r ∷ rest)) (cond t r.number (first_of rest))
    go true q next =
        ((λ _. (h, r.tells.so q), λ _. refl), past r.number later _ (λ p. p.1 (r.tells.so q)) other)
    go false q next =
        let unlike = r.tells.not_so q in
        let one = one_after (first_of rest) later _ (h, unlike) (next unlike) in (
          (λ e. absurd (true≢false (sym one ∙ ap (one_of (numbers_of later)) e ∙ other)), λ p. absurd (unlike p.1)),
          next unlike,
        )

-- one group after another is one long group
joined : (l m : List Row) → no_zero l ≡ true → first_of l ▷ first_of m ≡ first_of (l ++ m)
unfolding ◌if◌then◌ ◌▷◌
joined [] m e = refl
joined (r ∷ rest) m e = go r.tells.test (joined rest m (both (not (eqb r.number 0)) _ e).1)
  where
    go : (t : Bool) → first_of rest ▷ first_of m ≡ first_of (rest ++ m)
        → cond t r.number (first_of rest) ▷ first_of m ≡ cond t r.number (first_of (rest ++ m))
    go true later =
        ap (λ (t : Bool). cond t (first_of m) r.number)
        (not-true (eqb r.number 0) (both (not (eqb r.number 0)) (no_zero rest) e).0)
    go false later = later

split : (l m : List Row) → no_zero (l ++ m) ≡ true → (no_zero l ≡ true) × (no_zero m ≡ true)
split [] m e = (refl, e)
split (r ∷ rest) m e =
    let h = both (not (eqb r.number 0)) _ e in
    let k = split rest m h.1 in
    (ap₂ ◌&&◌ h.0 k.0, k.1)

flat : (x : Tests) → no_zero (rows_of x) ≡ true → first x ≡ first_of (rows_of x)
flat (group rows) e = refl
flat (x before y) e =
    let h = split (rows_of x) (rows_of y) e in
    ap₂ ◌▷◌ (flat x h.0) (flat y h.1) ∙ joined (rows_of x) (rows_of y) h.0

pub exactly : (x : Tests) → no_zero (rows_of x) && apart (numbers_of (cases_of x)) ≡ true
    → GivenExactly (cases_of x) (first x)
exactly x e =
    let h = both _ _ e in
    subst (GivenExactly (cases_of x)) (sym (flat x h.0)) (from_here (rows_of x) Unit tt h.1)
