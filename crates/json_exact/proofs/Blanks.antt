-- Blanks, and a character with blanks around it: `blanks` counts exactly those that the rule `ws` takes.
-- Assumes nothing.
use Prim.Native.Nat.{ℕ, suc, ◌+◌, ◌<◌}
use native.Mathlib.Omega.{arith}
use mathlib.Core.Bool.{false}
use mathlib.Core.List.{List, [], ◌∷◌}
use mathlib.Core.Path.{◌≡◌, refl, sym, ap, subst, ◌∙◌}
use lib.ListN.{drop, length}
use lib.Seq.{get_or-drop}
use Rattle.rules_json.specs.Abnf.{these, ◌then◌}
use Rattle.rules_json.specs.Grammar.{Blanks, Structural, blank}
use Rattle.rules_json.specs.Reader.{at, blanks}
use Rattle.json_exact.proofs.Classes.{apart, ascii_blank}
use Rattle.json_exact.proofs.Leading.{Run, all_leading, ended, many_of, more, run_of, stop, taken}
use Rattle.json_exact.proofs.Sizes.{Ends, goes_on, left_then}
use Rattle.json_exact.proofs.Splits.{Left, Part, Spans, Takes, cut, headed, join, left_add, left_cons, left_none}
use Rattle.json_exact.proofs.Splits.{no_longer, spell, spelled, takes}

abbrev pub Ws : Part
Ws = Run blank

pub blanks_taken : (s : List ℕ) → Takes Ws (blanks s) s
unfolding blanks
blanks_taken = taken blank

blanks_ended : (s : List ℕ) → blank (at (drop (blanks s) s) 0) ≡ false
unfolding blanks
blanks_ended = ended blank refl

pub all_blanks : {s u : List ℕ} → Ws s u → blank (at u 0) ≡ false → Left (blanks s) s u
unfolding blanks
all_blanks = all_leading blank

pub ends_before : {s u : List ℕ} → Ws s u → Ends u → Ends s
ends_before stop end = end
ends_before (more {b} h r) end = apart blank goes_on ascii_blank refl b h

-- the octet behind a part
pub at_left : {n : ℕ} {s m : List ℕ} → Left n s m → at s n ≡ at m 0
at_left {n} {s} h =
    let e : n + 0 ≡ n = omega arith in
    ap (at s) (sym e) ∙ sym (get_or-drop n s 0 0) ∙ ap (λ (l : List ℕ). at l 0) h.rest

-- ---- a separator

-- a character with all the blanks around it
pub record Separated (b : ℕ) (s u : List ℕ) : Type 0 where
  pub next : List ℕ
  pub before : Ws s (b ∷ next)
  pub after : Ws next u
  pub open_end : blank (at u 0) ≡ false

-- the octets up to the separator are counted from s on, and its blanks from k on
pub separated_sound : (b : ℕ) {n : ℕ} {s k : List ℕ} → Left n s (drop n s) → Ws k (drop n s) → at s n ≡ suc b
    → Takes (λ _. Separated (suc b) k) (n + 1 + blanks (drop (n + 1) s)) s
separated_sound b {n} {s} {k} left ws here =
    let character = headed (drop n s) b (sym (at_left left) ∙ here) in
    let l = drop 1 (drop n s) in
    let after = blanks_taken l in
    let before = subst (Ws k) character.part ws in
    takes (λ _. Separated (suc b) k) (left_then blanks (left_add left character.left) after.left)
    (record { next = l; before = before; after = after.part; open_end = blanks_ended l })

pub separated_left : {b n : ℕ} {s k u : List ℕ} (w : Separated b k u) → Left n s (b ∷ w.next)
    → Left (n + 1 + blanks (drop (n + 1) s)) s u
separated_left {b} w left =
    left_then blanks (left_add left (left_cons b left_none)) (all_blanks w.after w.open_end)

pub separated_shorter : {b : ℕ} {s u : List ℕ} → Separated b s u → length u < length s
separated_shorter w = omega (arith, no_longer (many_of w.before), no_longer (many_of w.after))

-- ---- the rule

pub structural : (b : ℕ) {s u : List ℕ} → Spans (Structural b) s u → (m : List ℕ) × Ws s (b ∷ m) × Ws m u
structural b {s} w =
    let (a, p, q) = cut Blanks (these (b ∷ []) then Blanks) w in
    let (m, is, r) = cut (these (b ∷ [])) Blanks q in
    (m, subst (Ws s) (spelled is) (run_of p), run_of r)

pub structural_of : (b : ℕ) {s m u : List ℕ} → Ws s (b ∷ m) → Ws m u → Spans (Structural b) s u
structural_of b p q = join (many_of p) (join (spell (b ∷ []) refl) (many_of q))

pub separator_of : {b : ℕ} {s u : List ℕ} → Separated b s u → Spans (Structural b) s u
separator_of {b} w = structural_of b w.before w.after
