-- RFC 8259, section 6: `number_size` takes exactly the texts of the rule `number`, wherever nothing goes on behind
-- them.
-- Assumes nothing.
use Prim.Native.Nat.{ℕ, ◌+◌, ◌<◌}
use native.Mathlib.Omega.{arith}
use mathlib.Core.Bool.{Bool, true, false, false≢true, cond, or-true, ◌&&◌, ◌||◌}
use mathlib.Core.List.{List, [], ◌∷◌}
use mathlib.Core.Logic.{⊎_elim}
use mathlib.Core.Path.{◌≡◌, refl, sym, ap, ap₂, subst, ◌∙◌}
use borrow.Author.Tests.{eqb-false, eqb-true, le-leb, leb-true}
use lib.Dec.{eqb, leb}
use lib.ListN.{drop, length}
use Rattle.rules_json.specs.Abnf.{Rule, at_least_one, many, one, optional, these, ◌then◌}
use Rattle.rules_json.specs.Grammar.{Exp, Frac, Int, Minus, Number, digit, digit1_9, e, sign}
use Rattle.rules_json.specs.Reader.{at, digits, exp_size, frac_size, further, int_size, leading, minus_size}
use Rattle.rules_json.specs.Reader.{number_size}
use Rattle.rules_json.specs.Reader.{rest_size, sign_size, unsigned_size}
use Rattle.json_exact.proofs.Classes.{apart, ascii_digit, ascii_digit1_9, ascii_e, implied, starts}
use Rattle.json_exact.proofs.Leading.{all_leading, at_least_one_lem, more, run_of, run_of_some}
use Rattle.json_exact.proofs.Sizes.{Ends, further_left, further_takes, left_then, past}
use Rattle.json_exact.proofs.Splits.{Left, Spans, Takes, both, by_test, chosen, cut, either_of, first_of}
use Rattle.json_exact.proofs.Splits.{fronted, headed, inside, join, left_add, left_cons, left_none, neither}
use Rattle.json_exact.proofs.Splits.{no_longer, of_class, second_of, single, spell, spelled, takes}

-- ---- a part that may be missing: a test on the first octet tells whether it is there

abbrev tested_by : (ℕ → Bool) → (List ℕ → ℕ) → List ℕ → ℕ
tested_by test size s = cond (test (at s 0)) (size s) 0

module _ {P : Rule} (test : ℕ → Bool) (size : List ℕ → ℕ) where
  optional_sound : (s : List ℕ) → (test (at s 0) ≡ true → (size s ≡ 0 → ⊥) → Takes (Spans P) (size s) s)
      → Takes (Spans (optional P)) (tested_by test size s) s
  optional_sound s there = by_test (λ t. eqb n 0 ≡ t → R n) (eqb n 0) (λ _. missing) (λ _. whole) refl
    where
      n : ℕ
      n = tested_by test size s

      R : ℕ → Type 0
      R k = Takes (Spans (optional P)) k s

      missing : eqb n 0 ≡ true → R n
      missing z = subst R (sym (eqb-true n 0 z)) (record { left = left_none; part = first_of (spell [] refl) })

      found : (n ≡ 0 → ⊥) → Takes (Spans P) n s
      found = chosen (λ k. Takes (Spans P) k s) (test (at s 0)) (size s) 0 there (λ _ none. absurd (none refl))

      whole : eqb n 0 ≡ false → R n
      whole z =
          let w = found (eqb-false n 0 z) in
          record { left = w.left; part = second_of w.part }

  optional_complete : {s u : List ℕ} → test (at u 0) ≡ false
      → (Spans P s u → (test (at s 0) ≡ true) × Left (size s) s u) → Spans (optional P) s u
      → Left (tested_by test size s) s u
  optional_complete {s} {u} none there w =
      ⊎_elim
      (λ z. subst (λ (l : List ℕ). Left (tested_by test size l) l u) (sym (spelled z))
      (subst (λ (t : Bool). Left (cond t (size u) 0) u u) (sym none) left_none))
      (λ p. let (h, left) = there p in subst (λ (t : Bool). Left (cond t (size s) 0) s u) (sym h) left) (either_of w)

-- ---- the reader takes texts of the rules only

digits_sound : (s : List ℕ) → (digits s ≡ 0 → ⊥) → Takes (Spans (at_least_one (one digit))) (digits s) s
unfolding digits
digits_sound = at_least_one_lem digit

-- one octet of a class from which 0 is left out
octet_sound : (class : ℕ → Bool) → class 0 ≡ false → (s : List ℕ) → class (at s 0) ≡ true
    → Takes (Spans (one class)) 1 s
octet_sound class out s h =
    fronted 1 s (inside s 0 (λ z. false≢true (sym out ∙ ap class (sym z) ∙ h))) (at s 0, refl, h)

minus_sound : (s : List ℕ) → Takes (Spans (optional Minus)) (minus_size s) s
minus_sound s = optional_sound (λ b. eqb b 0x2D) (λ _. 1) s (λ h _. minus h)
  where
    minus : eqb (at s 0) 0x2D ≡ true → Takes (Spans Minus) 1 s
    minus h =
        let w = headed s 0x2C (eqb-true (at s 0) 0x2D h) in
        record { left = w.left; part = spell (0x2D ∷ []) w.part }

frac_sound : (s : List ℕ) → Takes (Spans (optional Frac)) (frac_size s) s
unfolding frac_size
frac_sound s = optional_sound (λ b. eqb b 0x2E) (λ l. further 1 (digits (drop 1 l))) s point
  where
    point : eqb (at s 0) 0x2E ≡ true → (further 1 (digits (drop 1 s)) ≡ 0 → ⊥)
        → Takes (Spans Frac) (further 1 (digits (drop 1 s))) s
    point h =
        let dot = headed s 0x2D (eqb-true (at s 0) 0x2E h) in
        further_takes (Spans Frac) (Spans (at_least_one (one digit))) dot.left (digits_sound (drop 1 s))
        (λ u w. join (spell (0x2E ∷ []) dot.part) w)

sign_sound : (s : List ℕ) → Takes (Spans (optional (one sign))) (sign_size s) s
sign_sound s = optional_sound sign (λ _. 1) s (λ h _. octet_sound sign refl s h)

abbrev exp_read : List ℕ → ℕ
exp_read s = further (1 + sign_size (drop 1 s)) (digits (drop (1 + sign_size (drop 1 s)) s))

exp_sound : (s : List ℕ) → Takes (Spans (optional Exp)) (exp_size s) s
unfolding exp_size
exp_sound s = optional_sound e exp_read s letter
  where
    letter : e (at s 0) ≡ true → (exp_read s ≡ 0 → ⊥) → Takes (Spans Exp) (exp_read s) s
    letter h =
        let first = octet_sound e refl s h in
        let signed = sign_sound (drop 1 s) in
        let both_left = left_add first.left signed.left in
        let w = takes (λ l. Spans (optional (one sign)) (drop 1 l)) both_left signed.part in
        further_takes (Spans Exp) (Spans (at_least_one (one digit))) w.left (digits_sound _)
        (λ u d. join first.part (join w.part d))

-- a digit that is not 0
first_digit : (b : ℕ) → digit b ≡ true → (b ≡ 0x30 → ⊥) → digit1_9 b ≡ true
first_digit b h other =
    let (least, most) = both (leb 0x30 b) (leb b 0x39) h in
    ap₂ ◌&&◌ (le-leb 0x31 b (omega (arith, leb-true))) most

int_sound : (s : List ℕ) → (int_size s ≡ 0 → ⊥) → Takes (Spans Int) (int_size s) s
unfolding int_size
int_sound s = chosen (λ n. Takes (Spans Int) n s) (eqb (at s 0) 0x30) 1 (digits s) (λ h _. zero_int h) other_int
  where
    zero_int : eqb (at s 0) 0x30 ≡ true → Takes (Spans Int) 1 s
    zero_int h =
        let w = headed s 0x2F (eqb-true (at s 0) 0x30 h) in
        record { left = w.left; part = first_of (spell (0x30 ∷ []) w.part) }

    other_int : eqb (at s 0) 0x30 ≡ false → (digits s ≡ 0 → ⊥) → Takes (Spans Int) (digits s) s
    other_int other some =
        let w = digits_sound s some in
        let (m, p, q) = cut (one digit) (many (one digit)) w.part in
        let (b, is, h) = single p in
        let first = ap (λ (l : List ℕ). at l 0) is in
        let head = first_digit b h (λ z. eqb-false (at s 0) 0x30 other (first ∙ z)) in
        record { left = w.left; part = second_of (join (of_class b is head) q) }

abbrev Rest : Rule
Rest = optional Frac then optional Exp

abbrev Unsigned : Rule
Unsigned = Int then Rest

rest_sound : (s : List ℕ) → Takes (Spans Rest) (rest_size s) s
rest_sound s =
    let f = frac_sound s in
    let x = exp_sound (drop (frac_size s) s) in
    takes (Spans Rest) (left_add f.left x.left) (join f.part x.part)

unsigned_sound : (s : List ℕ) → (unsigned_size s ≡ 0 → ⊥) → Takes (Spans Unsigned) (unsigned_size s) s
unsigned_sound s =
    chosen (λ n. Takes (Spans Unsigned) n s) (eqb (int_size s) 0) 0 _ (λ _ z. absurd (z refl))
    (λ h _. let i = int_sound s (eqb-false (int_size s) 0 h) in
    let r = rest_sound (drop (int_size s) s) in
    takes (Spans Unsigned) (left_add i.left r.left) (join i.part r.part))

pub number_sound : (s : List ℕ) → (number_size s ≡ 0 → ⊥) → Takes (Spans Number) (number_size s) s
unfolding number_size
number_sound s =
    let m = minus_sound s in
    further_takes (Spans Number) (Spans Unsigned) m.left (unsigned_sound (drop (minus_size s) s))
    (λ u w. join m.part w)

-- ---- and every one of them

digits_complete : {s u : List ℕ} → Spans (at_least_one (one digit)) s u → digit (at u 0) ≡ false → Left (digits s) s u
unfolding digits
digits_complete w end = all_leading digit (run_of_some digit w).0 end

minus_complete : {s u : List ℕ} → eqb (at u 0) 0x2D ≡ false → Spans (optional Minus) s u → Left (minus_size s) s u
minus_complete {s} {u} none =
    optional_complete (λ b. eqb b 0x2D) (λ _. 1) none
    (λ p. subst (λ (l : List ℕ). (eqb (at l 0) 0x2D ≡ true) × Left 1 l u) (sym (spelled p))
    (refl, left_cons 0x2D left_none))

sign_complete : {s u : List ℕ} → sign (at u 0) ≡ false → Spans (optional (one sign)) s u → Left (sign_size s) s u
sign_complete {s} {u} none =
    optional_complete sign (λ _. 1) none
    (λ p. let (b, is, h) = single p in
    subst (λ (l : List ℕ). (sign (at l 0) ≡ true) × Left 1 l u) (sym is) (h, left_cons b left_none))

frac_complete : {s u : List ℕ} → digit (at u 0) ≡ false → eqb (at u 0) 0x2E ≡ false → Spans (optional Frac) s u
    → Left (frac_size s) s u
unfolding frac_size
frac_complete {s} {u} end none =
    optional_complete (λ b. eqb b 0x2E) size none
    (λ f. let (m, p, q) = cut (these (0x2E ∷ [])) (at_least_one (one digit)) f in
    subst (λ (l : List ℕ). (eqb (at l 0) 0x2E ≡ true) × Left (size l) l u) (sym (spelled p))
    (refl, further_left digits (left_cons 0x2E left_none) (digits_complete q end) (run_of_some digit q).2))
  where
    size : List ℕ → ℕ
    size l = further 1 (digits (drop 1 l))

exp_complete : {s u : List ℕ} → digit (at u 0) ≡ false → e (at u 0) ≡ false → Spans (optional Exp) s u
    → Left (exp_size s) s u
unfolding exp_size
exp_complete {s} {u} end none =
    optional_complete e exp_read none
    (λ x. let (m, p, q) = cut (one e) (optional (one sign) then at_least_one (one digit)) x in
    let (k, o, d) = cut (optional (one sign)) (at_least_one (one digit)) q in
    let (b, is, h) = single p in
    let signed = sign_complete (apart digit sign ascii_digit refl (at k 0) (run_of_some digit d).1) o in
    subst (λ (l : List ℕ). (e (at l 0) ≡ true) × Left (exp_read l) l u) (sym is)
    (h, further_left digits (left_add (left_cons b left_none) signed) (digits_complete d end) (run_of_some digit d).2))

-- a whole part begins with a digit and takes all of them
int_digits : {s u : List ℕ} → Spans Int s u → (digit (at s 0) ≡ true) × (length u < length s)
int_digits {s} {u} w =
    ⊎_elim (λ z. (ap (λ (l : List ℕ). digit (at l 0)) (spelled z), omega (arith, ap length (spelled z))))
    (λ o. let (m, p, q) = cut (one digit1_9) (many (one digit)) o in
    let (b, is, h) = single p in (
      ap (λ (l : List ℕ). digit (at l 0)) is ∙ implied digit1_9 digit ascii_digit1_9 refl b h,
      omega (arith, ap length is, no_longer q),
    )) (either_of w)

int_complete : {s u : List ℕ} → digit (at u 0) ≡ false → Spans Int s u → Left (int_size s) s u
unfolding int_size digits
int_complete {s} {u} end w =
    ⊎_elim (λ z. subst (λ (l : List ℕ). Left (int_size l) l u) (sym (spelled z)) (left_cons 0x30 left_none))
    (λ o. let (m, p, q) = cut (one digit1_9) (many (one digit)) o in
    let (b, is, h) = single p in
    let other = apart digit1_9 (λ c. eqb c 0x30) ascii_digit1_9 refl b h in
    let whole = more (implied digit1_9 digit ascii_digit1_9 refl b h) (run_of q) in
    subst (λ (l : List ℕ). Left (int_size l) l u) (sym is)
    (subst (λ (t : Bool). Left (cond t 1 (leading digit (b ∷ m))) (b ∷ m) u) (sym other) (all_leading digit whole end)))
    (either_of w)

-- what may stand behind the whole part, and behind the fraction
exp_head : {s u : List ℕ} → Ends u → Spans (optional Exp) s u → (digit (at s 0) ≡ false) × (eqb (at s 0) 0x2E ≡ false)
exp_head {s} {u} end w =
    let body = (neither (digit (at u 0) || eqb (at u 0) 0x2E) (e (at u 0)) end).0 in
    ⊎_elim (λ z. subst Other (sym (spelled z)) (neither (digit (at u 0)) (eqb (at u 0) 0x2E) body))
    (λ x. let (b, is, h) = single (cut (one e) (optional (one sign) then at_least_one (one digit)) x).1 in
    subst Other (sym is) (apart e digit ascii_e refl b h, apart e (λ c. eqb c 0x2E) ascii_e refl b h)) (either_of w)
  where
    Other : List ℕ → Type 0
    Other l = (digit (at l 0) ≡ false) × (eqb (at l 0) 0x2E ≡ false)

frac_head : {s u : List ℕ} → digit (at u 0) ≡ false → Spans (optional Frac) s u → digit (at s 0) ≡ false
frac_head end w =
    ⊎_elim (λ z. ap (λ (l : List ℕ). digit (at l 0)) (spelled z) ∙ end)
    (λ f. ap (λ (l : List ℕ). digit (at l 0)) (spelled (cut (these (0x2E ∷ [])) (at_least_one (one digit)) f).1))
    (either_of w)

unsigned_complete : {s u : List ℕ} → Ends u → Spans Unsigned s u → Left (unsigned_size s) s u
unsigned_complete {s} {u} end w =
    let (m, i, r) = cut Int Rest w in
    let (k, f, x) = cut (optional Frac) (optional Exp) r in
    let (no_digit, no-point) = exp_head end x in
    let (body, no_letter) = neither (digit (at u 0) || eqb (at u 0) 0x2E) (e (at u 0)) end in
    let last_digit = (neither (digit (at u 0)) (eqb (at u 0) 0x2E) body).0 in
    let whole = int_complete (frac_head no_digit f) i in
    let tail = left_then exp_size (frac_complete no_digit no-point f) (exp_complete last_digit no_letter x) in
    past whole (int_digits i).1 (left_then rest_size whole tail)

pub number_complete : {s u : List ℕ} → Ends u → Spans Number s u → Left (number_size s) s u
unfolding number_size
number_complete {s} {u} end w =
    let (m, o, n) = cut (optional Minus) Unsigned w in
    let (k, i, r) = cut Int Rest n in
    let (first, less) = int_digits i in
    let no_minus = apart digit (λ c. eqb c 0x2D) ascii_digit refl (at m 0) first in
    further_left unsigned_size (minus_complete no_minus o) (unsigned_complete end n) (omega (arith, no_longer r))

pub number_head : {s u : List ℕ} → Spans Number s u → (starts (at s 0) ≡ true) × (length u < length s)
number_head {s} w =
    let (m, o, n) = cut (optional Minus) Unsigned w in
    let (k, i, r) = cut Int Rest n in
    let (first, less) = int_digits i in
    let later = ap (λ (t : Bool). eqb (at m 0) 0x2D || t) first ∙ or-true (eqb (at m 0) 0x2D) in (
      ⊎_elim (λ z. ap (λ (l : List ℕ). starts (at l 0)) (spelled z) ∙ later)
          (λ p. ap (λ (l : List ℕ). starts (at l 0)) (spelled p)) (either_of o),
      omega (arith, no_longer o, no_longer r),
    )
