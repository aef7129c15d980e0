-- The reader takes exactly the texts of the rules: whatever it takes is a text that says what the reader says, and it
-- takes every text and says what the text says. So a text says one thing.
-- Assumes nothing.
use Prim.Native.Nat.{ℕ, ◌+◌, ◌<◌}
use native.Mathlib.Omega.{arith}
use mathlib.Core.Bool.{Bool, true, false, not, ◌&&◌}
use mathlib.Core.List.{List, [], ◌∷◌, append-nil}
use mathlib.Core.Path.{◌≡◌, refl, sym, ap, ap₂, subst, ◌∙◌}
use borrow.Author.Tests.{eq-eqb, eqb-false, eqb-true, ne_eqb, not-true}
use lib.Dec.{eqb}
use lib.ListN.{drop, length}
use Rattle.rules_json.specs.Abnf.{Rule, ◌then◌}
use Rattle.rules_json.specs.Grammar.{Blanks, DeepValue, Text}
use Rattle.rules_json.specs.Reader.{blanks, end_of_text, is_text, text_said, text_size, value_said, value_size}
use Rattle.rules_json.specs.Tree.{Tree}
use Rattle.json_exact.proofs.Blanks.{Ws, all_blanks, blanks_taken, ends_before}
use Rattle.json_exact.proofs.Leading.{many_of, run_of, run_on}
use Rattle.json_exact.proofs.Sizes.{left_then, nonzero}
use Rattle.json_exact.proofs.Splits.{Left, Spans, Takes, both, chosen, cut, join, left_add, takes}
use Rattle.json_exact.proofs.Values.{Core, cores, exact}

-- a text whole
whole : (P : Rule) (s : List ℕ) → Spans P s [] → P s
whole P s w = subst P (sym (w.split ∙ append-nil w.text)) w.of

nothing_left : (l : List ℕ) → length l ≡ 0 → l ≡ []
nothing_left [] e = refl
nothing_left (b ∷ l) e = let z : ⊥ = omega arith in absurd z

text_sound : (deep : ℕ) (s : List ℕ) → (text_size deep s ≡ 0 → ⊥)
    → Takes (Spans (Text deep (text_said deep s))) (text_size deep s) s
unfolding text_size text_said
text_sound deep s = chosen R (eqb (value_size deep m) 0) 0 _ (λ _ z. absurd (z refl)) (λ some _. there some)
  where
    m : List ℕ
    m = drop (blanks s) s

    R : ℕ → Type 0
    R n = Takes (Spans (Text deep (value_said deep m))) n s

    there : eqb (value_size deep m) 0 ≡ false → R (end_of_text (blanks s + value_size deep m) s)
    there some =
        let w = (exact deep).sound m (eqb-false (value_size deep m) 0 some) in
        let before = blanks_taken s in
        let after = blanks_taken (drop (value_size deep m) m) in
        takes (Spans (Text deep (value_said deep m)))
        (left_then blanks (left_add before.left w.left) after.left)
        (join (many_of before.part) (join ((cores deep).outward w.part) (many_of after.part)))

pub sound : (deep : ℕ) (s : List ℕ) → is_text deep s ≡ true → Text deep (text_said deep s) s
unfolding is_text
sound deep s h =
    let (some, all) = both (not (eqb (text_size deep s) 0)) (eqb (text_size deep s) (length s)) h in
    let w = text_sound deep s (eqb-false (text_size deep s) 0 (not-true _ some)) in
    let n = eqb-true (text_size deep s) (length s) all in
    let none = nothing_left (drop (text_size deep s) s) (omega (arith, w.left.count)) in
    whole (Text deep (text_said deep s)) s (subst (Spans (Text deep (text_said deep s)) s) none w.part)

-- a value with blanks on both sides, and nothing else
text_complete : (deep : ℕ) (x : Tree deep) (s m l : List ℕ) → Ws s m → Core deep x m l → Ws l []
    → Left (text_size deep s) s [] × (text_said deep s ≡ x) × (0 < length s)
unfolding text_size text_said
text_complete deep x s m l before value after =
    let start = all_blanks before ((cores deep).unblank value) in
    let (left, said) = (exact deep).complete value (ends_before after refl) in
    let (_, less) = (exact deep).begins value in
    let all = left_then blanks (left_then (value_size deep) start left) (all_blanks after refl) in
    let some = ap (λ (k : List ℕ). eqb (value_size deep k) 0) start.rest ∙ nonzero left less in
    (rw some all, ap (value_said deep) start.rest ∙ said, omega (arith, start.count))

pub complete : (deep : ℕ) (x : Tree deep) (s : List ℕ) → Text deep x s → (is_text deep s ≡ true)
    × (text_said deep s ≡ x)
unfolding is_text
complete deep x s text =
    let w : Spans (Text deep x) s [] = record { text = s; split = sym (append-nil s); of = text } in
    let (m, before, q) = cut Blanks (DeepValue deep x then Blanks) w in
    let (l, value, after) = cut (DeepValue deep x) Blanks q in
    let v = (cores deep).inward value in
    let first = run_on (run_of before) v.before in
    let rest = run_on v.after (run_of after) in
    let (left, said, some) = text_complete deep x s v.from v.to first v.part rest in
    let all : text_size deep s ≡ length s = omega (arith, left.count) in
    let test = ne_eqb (text_size deep s) 0 (λ z. omega arith) in
    (ap₂ (λ (p q : Bool). not p && q) test (eq-eqb (text_size deep s) (length s) all), said)

pub one_tree : (deep : ℕ) (x y : Tree deep) (s : List ℕ) → Text deep x s → Text deep y s → x ≡ y
one_tree deep x y s p q = sym (complete deep x s p).1 ∙ (complete deep y s q).1
