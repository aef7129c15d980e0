-- Texts placed in a buffer one after the other are the joined text at its start.
use mathlib.Core.Path.{◌≡◌, refl, ◌∙◌, sym, ap, subst}
use mathlib.Core.Bool.{Bool, cond}
use mathlib.Core.List.{List, [], ◌++◌, append_assoc, append-nil}
use Prim.Native.Nat.{ℕ, ◌+◌, ◌≤◌, ◌<◌}
use native.Mathlib.Omega.{arith}
use lib.ListN.{get_or, take, length, drop, drop_of_length-le, length-append, length-drop}
use lib.Seq.{drop-append-add, drop-drop, length-take-le, take-append_seam, take-length, take_all}
use borrow.Author.Tests.{le-leb, lt-leb}
use Rattle.io.specs.Counts.{IsPrefixLen}
use Rattle.rules.specs.Printer.{length_where_it_fits, written}
use Rattle.std.proofs.lemmas.Option.{same_Some}
use Rattle.std.specs.List.{flat_map}
use Rattle.std.specs.Option.{is_some}
use denote.Ref.{Bor}
use Rattle.std.specs.Prelude.{IfSome, IsSome, Option, None, Some}
use Rattle.rules.specs.Words.{put}
use Rattle.std.proofs.lemmas.List.Folds.{length-flat_map-take}

-- b with a text at its start
abbrev pub begun : List ℕ → List ℕ → List ℕ
begun text b = text ++ drop (length text) b

-- The bytes of b are now those of b': the text stands at their start, and `at` is the index past it.
pub record Begun (text b : List ℕ) (at : ℕ) (b' : List ℕ) : Type 0 where
  pub past : at ≡ length text
  pub bytes : b' ≡ begun text b

pub start : {b : List ℕ} → Begun [] b 0 b
start = record { past = refl; bytes = refl }

joined : (x y b : List ℕ) → put (length x) y (begun x b) ≡ begun (x ++ y) b
joined x y b = simp (take-append_seam, drop-append-add, drop-drop, length-append, append_assoc)

-- A text placed past what has begun is one text with it.
pub further :
    {x b b' b'' : List ℕ} {at at' : ℕ} (y : List ℕ) → Begun x b at b'
    → record { value : at' ≡ at + length y; out_after : b'' ≡ put at y b' }
    → Begun (x ++ y) b at' b''
further {x} {b} y w e =
    record {
      past = e.value ∙ ap (λ n. n + length y) w.past ∙ sym (length-append x y);
      bytes = e.out_after ∙ rw (w.past, w.bytes) (joined x y b);
    }

-- the buffer keeps its length
pub still_long : {x b b' : List ℕ} {at : ℕ} → length x ≤ length b → Begun x b at b' → length b' ≡ length b
still_long {x} {b} h w = ap length w.bytes ∙ simp (length-append, length-drop) (omega arith)

-- where the whole fits, and where it does not
pub length_fitted : (text b : List ℕ) → length text ≤ length b → length_where_it_fits text b ≡ Some (length text)
unfolding length_where_it_fits
length_fitted text b h = ap (λ (t : Bool). cond t (Some (length text)) None) (le-leb (length text) (length b) h)

pub length_unfitted : (text b : List ℕ) → length b < length text → length_where_it_fits text b ≡ None
unfolding length_where_it_fits
length_unfitted text b h = ap (λ (t : Bool). cond t (Some (length text)) None) (lt-leb (length text) (length b) h)

pub bytes_fitted : (text b : List ℕ) → length text ≤ length b → written text b ≡ begun text b
unfolding written
bytes_fitted text b h = ap (λ (t : Bool). cond t (begun text b) b) (le-leb (length text) (length b) h)

pub bytes_unfitted : (text b : List ℕ) → length b < length text → written text b ≡ b
unfolding written
bytes_unfitted text b h = ap (λ (t : Bool). cond t (begun text b) b) (lt-leb (length text) (length b) h)

-- what is promised of the number answered and of the buffer afterwards; the last part follows from the others, and is
-- there for callers
abbrev pub Told : List ℕ → List ℕ → Option ℕ → List ℕ → Type 0
Told text b r b' =
    record {
      value : r ≡ length_where_it_fits text b;
      out_after : b' ≡ written text b;
      prefix_len : IfSome r (λ n. IsPrefixLen n b');
    }

-- what is said of a text is said of the line that it is
pub written_as : (b : List ℕ) {text line b' : List ℕ} {r : Option ℕ} → text ≡ line → Told text b r b'
    → Told line b r b'
written_as b {b'} {r} e = subst (λ t. Told t b r b') e

-- where it is known to fit: there is a length, and it is the text's
pub there : (text b : List ℕ) {r : Option ℕ} {b' : List ℕ} → length text ≤ length b → Told text b r b' → IsSome r
there text b h told = ap is_some (told.value ∙ length_fitted text b h)

pub fit : (text b : List ℕ) {r : Option ℕ} {n : ℕ} {b' : List ℕ} → length text ≤ length b → r ≡ Some n
    → Told text b r b'
    → (n ≡ length text) × (b' ≡ begun text b)
fit text b {n = n} h e told =
    (same_Some n (length text) (sym e ∙ told.value ∙ length_fitted text b h), told.out_after ∙ bytes_fitted text b h)

-- where it fills the buffer
pub filled : (text b : List ℕ) {r : Option ℕ} {b' : List ℕ} → length text ≡ length b → Told text b r b' → b' ≡ text
filled text b e told =
    let none = drop_of_length-le b {i = length text} (omega arith) in
    told.out_after ∙ bytes_fitted text b (omega arith) ∙ ap (λ (l : List ℕ). text ++ l) none ∙ append-nil text

-- each text is within the whole, with those before it
pub within : (texts : List (Bor (List ℕ))) (i : ℕ) (d : Bor (List ℕ)) → i < length texts
    → length (flat_map (λ t. t.now) (take i texts)) + length (get_or texts i d).now
    ≤ length (flat_map (λ (t : Bor (List ℕ)). t.now) texts)
within texts i d h = length-flat_map-take (λ t. t.now) texts i d h

-- what `in_a_row` needs of its texts
pub ruleset fitting = (bytes_fitted, bytes_unfitted, length_fitted, length_unfitted, take_all, within)
