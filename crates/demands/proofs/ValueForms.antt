-- Document 02, request 1: a value of ours that is taken, in a text of RFC 8259, has the very form that we write.
-- Assumes nothing.
use Prim.Native.Nat.{ℕ, ◌≤◌}
use native.Mathlib.Omega.{arith}
use mathlib.Core.Path.{◌≡◌, refl, sym, ap, subst, ◌∙◌}
use mathlib.Core.Bool.{Bool, true, false, false≢true, cond, not}
use mathlib.Core.List.{List, [], ◌∷◌, map}
use mathlib.Core.Option.{Option, none, some, some-injective}
use borrow.Author.Tests.{eqb-true, leb-true, not-true}
use lib.Dec.{eqb, leb}
use lib.ListN.{length, length-map}
use Rattle.chains.proofs.Chains.{both}
use Rattle.demands.proofs.NumberForms.{decimal_again}
use Rattle.demands.proofs.PlainTexts.{all_so}
use Rattle.demands.specs.Screens.{All, Five, Members, Says, number_value, track_value, tracks_value}
use Rattle.rules.specs.Printer.{decimal}
use Rattle.rules.specs.Screen.{and_then, each, first, is_empty, is_there, list_of, members_of, number_after}
use Rattle.rules.specs.Screen.{number_of, our_number, provided, same, track_of, tracks_fit, tracks_of}
use Rattle.rules_json.specs.Abnf.{Rule, row, ◌then◌}
use Rattle.rules_json.specs.Grammar.{DeepValue, Items, MemberRule, Number, ValueRule, ValueSeparator}
use Rattle.rules_json.specs.Tree.{Tree, Value, array, false_literal, null_literal}
use Rattle.rules_json.specs.Tree.{number, object, scalar, string, true_literal}

-- ---- what gives something

module _ {A : Type 0} where
  pub nothing_given : {B : Type 0} (x : A) → ◌≡◌ {A = Option A} none (some x) → B
  nothing_given x e = absurd (false≢true (ap is_there e))

  given : (t : Bool) (x y : A) → provided t x ≡ some y → (t ≡ true) × (x ≡ y)
  given true x y e = (refl, some-injective x y e)
  given false x y e = nothing_given y e

pub given_then : {A B : Type 0} (o : Option A) (f : A → Option B) (y : B) → and_then o f ≡ some y
    → (x : A) × (o ≡ some x) × (f x ≡ some y)
given_then none f y e = nothing_given y e
given_then (some x) f y e = (x, refl, e)

-- ---- what a text holds

module _ {A : Type 0} (Item : A → Rule) where
  -- it has a text
  abbrev pub Held : A → Type 0
  Held x = (t : List ℕ) × Item x t

  row_held : (xs : List A) (s : List ℕ) → row (λ y. ValueSeparator then Item y) xs s → All Held xs
  row_held [] s h = tt
  row_held (x ∷ xs) s (t, u, _, (a, b, _, _, item), rest) = ((b, item), row_held xs u rest)

  items_held : (xs : List A) (s : List ℕ) → Items Item xs s → All Held xs
  items_held [] s h = tt
  items_held (x ∷ xs) s (t, u, _, item, rest) = ((t, item), row_held xs u rest)

-- the values of the members in the outermost object
pub members_held : (x : Tree 8) (s : List ℕ) → Says x s → All (λ m. Held (DeepValue 7) m.value) (members_of x)
members_held (scalar x) s h = tt
members_held (array xs) s h = tt
members_held (object ms) s ((_, _, _, _, (_, _, _, (_, _, _, _, (items, _, _, all, _)), _)), _) =
    all_so (Held (MemberRule (DeepValue 7))) (λ m. Held (DeepValue 7) m.value) ms
    (λ m (_, (_, _, _, _, (_, t, _, _, value))). (t, value))
    (items_held (MemberRule (DeepValue 7)) ms items all)

pub first_held : (P : Tree 7 → Type 0) (name : List ℕ) (ms : Members) (v : Tree 7) → All (λ m. P m.value) ms
    → first name ms ≡ some v → P v
first_held P name [] v h e = nothing_given v e
first_held P name (m ∷ ms) v h e = go (same m.name name) e (first_held P name ms v h.1)
  where
    go : (t : Bool) → cond t (some m.value) (first name ms) ≡ some v → (first name ms ≡ some v → P v) → P v
    go true q later = subst P (some-injective m.value v q) h.0
    go false q later = later q

-- ---- a number of ours

text_form : (most n : ℕ) (t : List ℕ) → most ≤ 65535 → Number t → our_number most t ≡ some n
    → (t ≡ decimal n) × (n ≤ most)
unfolding our_number
text_form most n t few h e =
    let (test, same) = given _ (number_after 0 t) n e in
    let (front, least) = both _ (leb (number_after 0 t) most) test in
    let (_, digits) = both (not (is_empty t)) _ front in
    let less = leb-true (number_after 0 t) most least in
    (decimal_again t h (not-true _ digits) (omega arith) ∙ ap decimal same, omega arith)

no_text : (most n : ℕ) {B : Type 0} → our_number most [] ≡ some n → B
unfolding our_number
no_text most n e = nothing_given n e

module _ {A : Type 0} (Inner : A → Rule) (most : ℕ) (few : most ≤ 65535) where
  pub number_form : (v : Value A) → Held (ValueRule Inner) v → (n : ℕ) → number_of most v ≡ some n
      → (v ≡ number_value n) × (n ≤ most)
  number_form (scalar false_literal) h n e = no_text most n e
  number_form (scalar null_literal) h n e = no_text most n e
  number_form (scalar true_literal) h n e = no_text most n e
  number_form (scalar (string units)) h n e = no_text most n e
  number_form (scalar (number t)) (u, (same, of)) n e =
      let (text, least) = text_form most n t few (subst Number same of) e in
      (ap (λ (l : List ℕ). scalar (number l)) text, least)
  number_form (object ms) h n e = nothing_given n e
  number_form (array vs) h n e = nothing_given n e

-- ---- a list of ours

module _ {A B : Type 0} (f : A → Option B) (tree : B → A) (H : A → Type 0) (P : B → Type 0) (form : (v : A) → H v
    → (y : B) → f v ≡ some y → (v ≡ tree y) × P y) where
  each_form : (vs : List A) (ys : List B) → All H vs → each f vs ≡ some ys → (vs ≡ map tree ys) × All P ys
  each_form [] ys h e =
      subst (λ (l : List B). (◌≡◌ {A = List A} [] (map tree l)) × All P l) (some-injective [] ys e) (refl, tt)
  each_form (v ∷ vs) ys h e =
      let (y, q, r) = given_then (f v) _ ys e in
      let (zs, p, w) = given_then (each f vs) _ ys r in
      let (one, good) = form v h.0 y q in
      let (rest, all) = each_form vs zs h.1 p in
      subst (λ (l : List B). (v ∷ vs ≡ map tree l) × All P l) (some-injective (y ∷ zs) ys w)
      ((λ i. one i ∷ rest i), (good, all))

  pub list_form : (how_many : ℕ → Bool) (vs : List A) (ys : List B) → All H vs → list_of how_many f (array vs) ≡ some ys
      → (vs ≡ map tree ys) × All P ys × (how_many (length ys) ≡ true)
  list_form how_many vs ys h e =
      let (zs, p, w) = given_then (each f vs) _ ys e in
      let (many, same) = given (how_many (length vs)) zs ys w in
      let (all, good) = each_form vs ys h (p ∙ ap {B = Option (List B)} some same) in
      (all, good, ap how_many (sym (ap (length {A = A}) all ∙ length-map ys tree)) ∙ many)

pub track_form : (v : Tree 6) → Held (DeepValue 6) v → (five : List ℕ) → track_of v ≡ some five
    → (v ≡ track_value five) × Five five
track_form (scalar x) h five e = nothing_given five e
track_form (object ms) h five e = nothing_given five e
track_form (array vs) (_, (_, _, _, _, (items, _, _, all, _))) five e =
    let digits = list_form (number_of 1) number_value (Held (DeepValue 5)) (λ d. d ≤ 1)
    (number_form (DeepValue 4) 1 (omega arith)) in
    let (same, few, many) = digits (λ n. eqb n 5) vs five (items_held (DeepValue 5) vs items all) e in
    (ap {B = Tree 6} array same, (eqb-true (length five) 5 many, few))

pub tracks_form : (v : Tree 7) → Held (DeepValue 7) v → (l : List (List ℕ)) → tracks_of v ≡ some l
    → (v ≡ tracks_value l) × All Five l × (tracks_fit (length l) ≡ true)
unfolding tracks_of
tracks_form (scalar x) h l e = nothing_given l e
tracks_form (object ms) h l e = nothing_given l e
tracks_form (array vs) (_, (_, _, _, _, (items, _, _, all, _))) l e =
    let (same, good, many) =
    list_form track_of track_value (Held (DeepValue 6)) Five track_form tracks_fit vs l
    (items_held (DeepValue 6) vs items all) e in
    (ap {B = Tree 7} array same, good, many)
