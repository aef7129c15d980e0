-- RFC 8259, sections 4 and 5: `bracketed_size` and `bracketed_said` take exactly items between two brackets, with
-- separators between them, if the reader of an item takes exactly an item.
-- Assumes nothing.
use Prim.Native.Nat.{ℕ, suc, ◌+◌, ◌<◌}
use native.Mathlib.Omega.{arith}
use mathlib.Core.Bool.{Bool, true, false, cond}
use mathlib.Core.List.{List, [], ◌∷◌}
use mathlib.Core.Logic.{◌⊎◌, inl, inr, ⊎_elim}
use mathlib.Core.Path.{◌≡◌, refl, sym, ap, subst, ◌∙◌}
use borrow.Author.Tests.{eq-eqb, eqb-false, eqb-true}
use lib.Dec.{eqb}
use lib.ListN.{drop, length}
use Rattle.rules_json.specs.Grammar.{blank}
use Rattle.rules_json.specs.Reader.{Step, at, behind, blanks, bracketed_said, bracketed_size, collects, fails, goes_on}
use Rattle.rules_json.specs.Reader.{item_step, last, opening, runs}
use Rattle.json_exact.proofs.Blanks.{Separated, Ws, all_blanks, at_left, blanks_taken, ends_before}
use Rattle.json_exact.proofs.Blanks.{separated_left, separated_sound}
use Rattle.json_exact.proofs.Leading.{many_of}
use Rattle.json_exact.proofs.Sizes.{Exact, further_left, further_takes, goes_on as goes_on_number, left_then}
use Rattle.json_exact.proofs.Sizes.{no_value, nonzero, unblank}
use Rattle.json_exact.proofs.Splits.{Left, Part, Takes, by_test, chosen_said, headed, left_add, left_cons}
use Rattle.json_exact.proofs.Splits.{left_none, no_longer, takes}
use Rattle.json_exact.proofs.Steps.{Fits, Laws, Stepped, Steps, end, runs_complete, runs_sound, shorter_steps}
use Rattle.json_exact.proofs.Steps.{turn}

module _ {A : Type 0} (C : A → Part) (close : ℕ) where
  -- an item and the closing bracket
  pub record Final (x : List A) (s u : List ℕ) : Type 0 where
    pub value : A
    pub is : x ≡ value ∷ []
    pub rest : List ℕ
    pub item : C value s rest
    pub blanks : Ws rest (close ∷ u)

  -- an item and a separator
  pub record Next (x : List A) (s u : List ℕ) : Type 0 where
    pub value : A
    pub is : x ≡ value ∷ []
    pub rest : List ℕ
    pub item : C value s rest
    pub separator : Separated 0x2C rest u

  abbrev pub Items : List A → Part
  Items = Steps Final Next

  -- no item, or some
  abbrev pub Inner : List A → Part
  Inner xs s u = ((xs ≡ []) × (s ≡ close ∷ u)) ⊎ Items xs s u

  pub record Bracketed (first_octet : ℕ) (xs : List A) (s u : List ℕ) : Type 0 where
    pub inside : List ℕ
    pub opened : s ≡ first_octet ∷ inside
    pub first : List ℕ
    pub blanks : Ws inside first
    pub inner : Inner xs first u

-- a closing bracket is no blank and no separator, it goes on no number, and no item begins with it
pub record Bracket (close : ℕ) : Type 0 where
  pub no_blank : blank close ≡ false
  pub no_comma : eqb 0x2C close ≡ false
  pub no_number : goes_on_number close ≡ false
  pub no_item : (b : ℕ) → no_value b ≡ false → eqb b close ≡ false

-- the brackets are suc o and suc c: neither is 0, which stands past the end
module _ {A : Type 0} {C : A → Part} {size : List ℕ → ℕ} {said : List ℕ → A} (exact : Exact C size said) (o c : ℕ)
    (bracket : Bracket (suc c)) where
  -- ---- a step

  abbrev step : List ℕ → Step
  step = item_step (suc c) size

  abbrev says : List ℕ → List A
  says s = said s ∷ []

  abbrev place : List ℕ → ℕ
  place s = size s + blanks (drop (size s) s)

  abbrev onward : List ℕ → ℕ
  onward s = place s + 1 + blanks (drop (place s + 1) s)

  abbrev separator : List ℕ → Step
  separator s = cond (eqb (at s (place s)) 0x2C) (goes_on (onward s)) fails

  module _ (s : List ℕ) where
    -- what stands behind an item that is there
    record Item : Type 0 where
      left : Left (place s) s (drop (place s) s)
      item : C (said s) s (drop (size s) s)
      blanks : Ws (drop (size s) s) (drop (place s) s)

    item_there : eqb (size s) 0 ≡ false → Item
    item_there some =
        let w = exact.sound s (eqb-false (size s) 0 some) in
        let k = drop (size s) s in
        let b = blanks_taken k in
        let p = takes (λ l. Ws (drop (size s) l)) (left_add w.left b.left) b.part in
        record { left = p.left; item = w.part; blanks = p.part }

    abbrev F : Step → Type 0
    F = Fits (Final C (suc c)) (Next C (suc c)) (says s) s

    final : Item → eqb (at s (place s)) (suc c) ≡ true → F (last (place s + 1))
    final i q =
        let w = headed (drop (place s) s) c (sym (at_left i.left) ∙ eqb-true (at s (place s)) (suc c) q) in
        let ws = subst (Ws (drop (size s) s)) w.part i.blanks in
        takes (Final C (suc c) (says s)) (left_add i.left w.left)
        (record { value = said s; is = refl; rest = drop (size s) s; item = i.item; blanks = ws })

    next : Item → eqb (at s (place s)) 0x2C ≡ true → F (goes_on (onward s))
    next i q =
        let w = separated_sound 0x2B i.left i.blanks (eqb-true (at s (place s)) 0x2C q) in
        let rest = drop (size s) s in
        record {
          left = w.left;
          part = record { value = said s; is = refl; rest = rest; item = i.item; separator = w.part };
        }

    item_fits : F (step s)
    item_fits =
        by_test (λ t. F (cond t fails (behind (suc c) s (place s)))) (eqb (size s) 0) (λ _. tt)
        (λ some. by_test (λ t. F (cond t (last (place s + 1)) (separator s))) (eqb (at s (place s)) (suc c))
        (final (item_there some))
        (λ _. by_test (λ t. F (cond t (goes_on (onward s)) fails)) (eqb (at s (place s)) 0x2C) (next (item_there some))
        (λ _. tt)))

  -- where an item is known, with an octet behind it that goes on no number
  module _ {value : A} {s k : List ℕ} (i : C value s k) (b : ℕ) (u : List ℕ) (ws : Ws k (b ∷ u))
      (no_blank : blank b ≡ false) (no_number : goes_on_number b ≡ false) where
    known : Left (place s) s (b ∷ u) × (said s ≡ value) × (step s ≡ behind (suc c) s (place s))
    known =
        let (left, is) = exact.complete i (ends_before ws no_number) in
        let some = nonzero left (exact.begins i).1 in
        let there = ap (λ (t : Bool). cond t fails (behind (suc c) s (place s))) some in
        (left_then blanks left (all_blanks ws no_blank), is, there)

  at_final : {x : List A} {s u : List ℕ} → Final C (suc c) x s u → Stepped step says last x s u
  at_final {x} {s} {u} f =
      let (left, value, is) = known f.item (suc c) u f.blanks bracket.no_blank bracket.no_number in
      let whole = left_add left (left_cons (suc c) left_none) in
      let closed = eq-eqb (at s (place s)) (suc c) (at_left left) in
      record {
        size = place s + 1;
        is = is ∙ ap (λ (t : Bool). cond t (last (place s + 1)) (separator s)) closed;
        left = whole;
        said = ap {B = List A} (λ y. y ∷ []) value ∙ sym f.is;
        shorter = omega (arith, whole.count);
      }

  at_next : {x : List A} {s u : List ℕ} → Next C (suc c) x s u → Stepped step says goes_on x s u
  at_next {x} {s} {u} f =
      let w = f.separator in
      let (left, value, is) = known f.item 0x2C w.next w.before refl refl in
      let whole = separated_left w left in
      let comma = at_left left in
      let other = ap (λ (b : ℕ). eqb b (suc c)) comma ∙ bracket.no_comma in
      record {
        size = onward s;
        is = is ∙ ap (λ (t : Bool). cond t (last (place s + 1)) (separator s)) other
            ∙ ap (λ (t : Bool). cond t (goes_on (onward s)) fails) (eq-eqb (at s (place s)) 0x2C comma);
        left = whole;
        said = ap {B = List A} (λ y. y ∷ []) value ∙ sym f.is;
        shorter = omega (arith, whole.count);
      }

  laws : Laws step says (Final C (suc c)) (Next C (suc c))
  laws = record { fits = item_fits; at_end = at_final; at_turn = at_next }

  -- ---- between two brackets

  abbrev Core : List A → Part
  Core = Bracketed C (suc c) (suc o)

  pub bracketed_sound : (s : List ℕ) → at s 0 ≡ suc o → (bracketed_size (suc c) size s ≡ 0 → ⊥)
      → Takes (Core (bracketed_said (suc c) size said s)) (bracketed_size (suc c) size s) s
  unfolding bracketed_size bracketed_said
  bracketed_sound s e =
      chosen_said (λ xs n. Takes (Core xs) n s) (eqb (at s (opening s)) (suc c)) _ _ _ _ (λ q _. empty q)
      (λ _. further_takes (Core _) (Items C (suc c) _) w.left (runs_sound laws (length s) m) (λ u r. whole (inr r)))
    where
      m : List ℕ
      m = drop (opening s) s

      w : Takes (λ l. Ws (drop 1 l)) (opening s) s
      w =
          let b = blanks_taken (drop 1 s) in
          takes (λ l. Ws (drop 1 l)) (left_add (headed s o e).left b.left) b.part

      whole : {xs : List A} {u : List ℕ} → Inner C (suc c) xs m u → Core xs s u
      whole i = record { inside = drop 1 s; opened = (headed s o e).part; first = m; blanks = w.part; inner = i }

      empty : eqb (at s (opening s)) (suc c) ≡ true → Takes (Core []) (opening s + 1) s
      empty q =
          let last-octet = headed m c (sym (at_left w.left) ∙ eqb-true (at s (opening s)) (suc c) q) in
          takes (Core []) (left_add w.left last-octet.left) (whole (inl (refl, last-octet.part)))

  items_begin : {xs : List A} {s u : List ℕ} → Items C (suc c) xs s u → no_value (at s 0) ≡ false
  items_begin (end f) = (exact.begins f.item).0
  items_begin (turn n r) = (exact.begins n.item).0

  abbrev Good : List A → List ℕ → List ℕ → Type 0
  Good xs s u = Left (bracketed_size (suc c) size s) s u × (bracketed_said (suc c) size said s ≡ xs)

  module _ (xs : List A) (m l u : List ℕ) (ws : Ws m l) where
    abbrev s : List ℕ
    s = suc o ∷ m

    up_to : blank (at l 0) ≡ false → Left (opening s) s l
    up_to no_blank = left_add (left_cons (suc o) left_none) (all_blanks ws no_blank)

    good : Inner C (suc c) xs l u → Good xs s u
    unfolding bracketed_size bracketed_said
    good (inl (empty, closed)) =
        let head = ap (λ (k : List ℕ). at k 0) closed in
        let left = up_to (ap blank head ∙ bracket.no_blank) in
        let one = subst (λ (k : List ℕ). Left 1 k u) (sym closed) (left_cons (suc c) left_none) in
        let test = eq-eqb (at s (opening s)) (suc c) (at_left left ∙ head) in
        (rw test (left_add left one), rw test (sym empty))
    good (inr r) =
        let begins = items_begin r in
        let left = up_to (unblank (at l 0) begins) in
        let test = ap (λ (b : ℕ). eqb b (suc c)) (at_left left) ∙ bracket.no_item (at l 0) begins in
        let (inner, values) = runs_complete laws r (length s) (omega (arith, left.count)) in
        let whole = further_left (runs step (length s)) left inner (shorter_steps laws r) in
        (rw test whole, rw test (ap (collects step says (length s)) left.rest ∙ values))

  pub bracketed_complete : {xs : List A} {s u : List ℕ} → Core xs s u → Good xs s u
  bracketed_complete {xs} {s} {u} b =
      subst (λ (l : List ℕ). Good xs l u) (sym b.opened) (good xs b.inside b.first u b.blanks b.inner)

  pub bracketed_shorter : {xs : List A} {s u : List ℕ} → Core xs s u → length u < length s
  bracketed_shorter {xs} {s} {u} b =
      let ws = no_longer (many_of b.blanks) in
      let before : length b.first < length s = omega (arith, ap length b.opened, ws) in
      ⊎_elim (λ i. omega (arith, ap length i.1)) (λ r. omega (arith, shorter_steps laws r)) b.inner
