-- Splits of a text: what is left of it behind a part, for parts that are counted and for parts that a rule has.
-- Assumes nothing.
use Prim.Native.Nat.{ℕ, zero, suc, ◌+◌, ◌≤◌, ◌<◌}
use native.Mathlib.Decide.{dec_lt}
use native.Mathlib.Omega.{arith}
use mathlib.Core.Bool.{Bool, true, false, false≢true, cond, ◌&&◌, ◌||◌}
use mathlib.Core.List.{List, [], ◌∷◌, ◌++◌, append_assoc}
use mathlib.Core.Logic.{◌⊎◌, inl, inr, ⊎_elim}
use mathlib.Core.Path.{◌≡◌, refl, sym, ap, subst, ◌∙◌}
use lib.ListN.{drop, length, length-append, length-drop, get_or-eq_default}
use lib.Seq.{drop-append_seam, drop-cons, drop-drop}
use Rattle.rules_json.specs.Abnf.{Rule, one, these, ◌or◌, ◌then◌}
use Rattle.rules_json.specs.Reader.{at}

-- ---- tests

module _ (P : Bool → Type 0) where
  -- by whether a test holds
  pub by_test : (b : Bool) → (b ≡ true → P true) → (b ≡ false → P false) → P b
  by_test true f g = f refl
  by_test false f g = g refl

module _ (R : ℕ → Type 0) where
  -- a number other than 0, by a test
  pub chosen : (t : Bool) (n m : ℕ) → (t ≡ true → (n ≡ 0 → ⊥) → R n) → (t ≡ false → (m ≡ 0 → ⊥) → R m)
      → (cond t n m ≡ 0 → ⊥) → R (cond t n m)
  chosen true n m f g = f refl
  chosen false n m f g = g refl

module _ {A : Type 0} (R : A → ℕ → Type 0) where
  -- the same with what is said
  pub chosen_said : (t : Bool) (x y : A) (n m : ℕ) → (t ≡ true → (n ≡ 0 → ⊥) → R x n)
      → (t ≡ false → (m ≡ 0 → ⊥) → R y m) → (cond t n m ≡ 0 → ⊥) → R (cond t x y) (cond t n m)
  chosen_said true x y n m f g = f refl
  chosen_said false x y n m f g = g refl

pub both : (p q : Bool) → p && q ≡ true → (p ≡ true) × (q ≡ true)
both true q e = (refl, e)
both false q e = absurd (false≢true e)

pub either : (p q : Bool) → p || q ≡ true → (p ≡ true) ⊎ (q ≡ true)
either true q e = inl refl
either false q e = inr e

pub neither : (p q : Bool) → p || q ≡ false → (p ≡ false) × (q ≡ false)
neither true q e = absurd (false≢true (sym e))
neither false q e = (refl, e)

-- ---- counted parts

-- n octets of s, and u behind them
pub record Left (n : ℕ) (s u : List ℕ) : Type 0 where
  pub rest : drop n s ≡ u
  pub count : n + length u ≡ length s

pub left_none : {s : List ℕ} → Left 0 s s
left_none = record { rest = refl; count = omega arith }

pub left_add : {n k : ℕ} {s m u : List ℕ} → Left n s m → Left k m u → Left (n + k) s u
left_add {n} {k} {s} h j =
    record { rest = sym (drop-drop k n s) ∙ ap (drop k) h.rest ∙ j.rest; count = omega arith }

pub left_cons : {n : ℕ} {s u : List ℕ} (b : ℕ) → Left n s u → Left (suc n) (b ∷ s) u
left_cons b h = record { rest = h.rest; count = omega arith }

left_drop : (n : ℕ) (s : List ℕ) → n ≤ length s → Left n s (drop n s)
left_drop n s h = record { rest = refl; count = omega (arith, length-drop n s) }

pub left_text : (t u : List ℕ) → Left (length t) (t ++ u) u
left_text t u = record { rest = drop-append_seam t u; count = omega (arith, length-append t u) }

-- past the end stands 0, so another octet stands inside
pub inside : (s : List ℕ) (n : ℕ) → (at s n ≡ 0 → ⊥) → n < length s
inside s n h = go (dec_lt n (length s))
  where
    go : Dec (n < length s) → n < length s
    go (yes lt) = lt
    go (no ge) = absurd (h (get_or-eq_default s 0 (omega arith)))

-- n octets from a place on
abbrev pub octets_at : ℕ → ℕ → List ℕ → List ℕ
octets_at zero place s = []
octets_at (suc n) place s = at s place ∷ octets_at n (suc place) s

front : (n place : ℕ) (s : List ℕ) → n + place ≤ length s
    → drop place s ≡ octets_at n place s ++ drop (n + place) s
front zero place s h = let e : place ≡ 0 + place = omega arith in ap (λ (k : ℕ). drop k s) e
front (suc n) place s h =
    let e : n + suc place ≡ suc n + place = omega arith in
    drop-cons s place 0 (omega arith)
    ∙ ap {B = List ℕ} (λ l. at s place ∷ l)
    (front n (suc place) s (omega arith) ∙ ap (λ (k : ℕ). octets_at n (suc place) s ++ drop k s) e)

fronts : (n : ℕ) (s : List ℕ) → n ≤ length s → s ≡ octets_at n 0 s ++ drop n s
fronts n s h =
    let e : n + 0 ≡ n = omega arith in
    front n 0 s (omega arith) ∙ ap (λ (k : ℕ). octets_at n 0 s ++ drop k s) e

-- ---- parts that a rule has

pub record Spans (P : Rule) (s u : List ℕ) : Type 0 where
  pub text : List ℕ
  pub split : s ≡ text ++ u
  pub of : P text

-- the same text, of another rule
pub recast : {P Q : Rule} {s u : List ℕ} (w : Spans P s u) → Q w.text → Spans Q s u
recast w q = record { text = w.text; split = w.split; of = q }

pub no_longer : {P : Rule} {s u : List ℕ} → Spans P s u → length u ≤ length s
no_longer {u} h = omega (arith, ap length h.split, length-append h.text u)

pub join : {P Q : Rule} {s m u : List ℕ} → Spans P s m → Spans Q m u → Spans (P then Q) s u
join {u} p q =
    record {
      text = p.text ++ q.text;
      split = p.split ∙ ap (λ (l : List ℕ). p.text ++ l) q.split ∙ sym (append_assoc p.text q.text u);
      of = (p.text, q.text, refl, p.of, q.of);
    }

pub cut : (P Q : Rule) {s u : List ℕ} → Spans (P then Q) s u → (m : List ℕ) × Spans P s m × Spans Q m u
cut P Q {s} {u} h =
    let (t, t', e, p, q) = h.of in (
      t' ++ u,
      record { text = t; split = h.split ∙ ap (λ (l : List ℕ). l ++ u) e ∙ append_assoc t t' u; of = p },
      record { text = t'; split = refl; of = q },
    )

module _ {P Q : Rule} {s u : List ℕ} where
  pub first_of : Spans P s u → Spans (P or Q) s u
  first_of w = recast w (inl w.of)

  pub second_of : Spans Q s u → Spans (P or Q) s u
  second_of w = recast w (inr w.of)

  pub either_of : Spans (P or Q) s u → Spans P s u ⊎ Spans Q s u
  either_of w = ⊎_elim (λ p. inl (recast w p)) (λ q. inr (recast w q)) w.of

pub spell : (word : List ℕ) {s u : List ℕ} → s ≡ word ++ u → Spans (these word) s u
spell word e = record { text = word; split = e; of = refl }

pub spelled : {word s u : List ℕ} → Spans (these word) s u → s ≡ word ++ u
spelled {u} h = h.split ∙ ap (λ (l : List ℕ). l ++ u) h.of

pub single : {class : ℕ → Bool} {s u : List ℕ} → Spans (one class) s u → (b : ℕ) × (s ≡ b ∷ u) × (class b ≡ true)
single {u} h = (h.of.0, h.split ∙ ap (λ (l : List ℕ). l ++ u) h.of.1, h.of.2)

pub of_class : {class : ℕ → Bool} {s u : List ℕ} (b : ℕ) → s ≡ b ∷ u → class b ≡ true → Spans (one class) s u
of_class b e h = record { text = b ∷ []; split = e; of = (b, refl, h) }

-- ---- a part of n octets

-- what a text may begin with, and what is left behind it
abbrev pub Part : Type 1
Part = List ℕ → List ℕ → Type 0

-- the first n octets are such a part
pub record Takes (C : Part) (n : ℕ) (s : List ℕ) : Type 0 where
  pub left : Left n s (drop n s)
  pub part : C s (drop n s)

pub takes : {n : ℕ} {s u : List ℕ} (C : Part) → Left n s u → C s u → Takes C n s
takes {n} {s} C h c = record { left = subst (Left n s) (sym h.rest) h; part = subst (C s) (sym h.rest) c }

-- the first n octets are a text of a rule
pub fronted : {P : Rule} (n : ℕ) (s : List ℕ) → n ≤ length s → P (octets_at n 0 s) → Takes (Spans P) n s
fronted n s fits p =
    record { left = left_drop n s fits; part = record { text = octets_at n 0 s; split = fronts n s fits; of = p } }

pub headed : (s : List ℕ) (b : ℕ) → at s 0 ≡ suc b → Takes (λ l u. l ≡ suc b ∷ u) 1 s
headed s b e =
    let fits = inside s 0 (λ z. omega arith) in
    record { left = left_drop 1 s fits; part = fronts 1 s fits ∙ ap {B = List ℕ} (λ k. k ∷ drop 1 s) e }
