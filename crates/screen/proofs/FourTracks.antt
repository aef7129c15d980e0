-- One to four tracks, one after the other.
-- Assumes nothing.
use Prim.Native.Nat.{ℕ, zero, suc, ◌+◌, ◌-◌, ◌*◌, ◌≤◌, ◌<◌}
use mathlib.Core.Bool.{false, true, ◌&&◌}
use mathlib.Core.List.{List, [], ◌∷◌, ◌++◌, append_assoc, append-nil}
use mathlib.Core.Option.{Option, none, some}
use mathlib.Core.Path.{◌≡◌, ap, refl, sym, ◌∙◌}
use native.Mathlib.Nat.{suc-add, zero-add}
use native.Mathlib.Omega.{arith}
use borrow.Author.Tests.{eqb-true, le-leb, lt-leb}
use lib.Dec.{eqb}
use borrow.Rule.Slice.PartMut.{put_mid}
use lib.ListN.{drop, length, length-append, replicate, take}
use lib.Seq.{drop-append-add, take-append_seam, take_all}
use Rattle.std.proofs.lemmas.Slice.{put_mid-paste}
use Rattle.json_reader.proofs.Bracketed.{Item}
use Rattle.json_reader.proofs.Read.{past_some}
use Rattle.std.specs.Prelude.{None, Some}
use Rattle.rules.specs.Screen.{number_of, padded, provided, track_of, tracks_fit, tracks_of}
use Rattle.rules.specs.Words.{put}
use Rattle.rules_json.specs.Grammar.{joined}
use Rattle.rules_json.specs.Reader.{at, blanks, value_said, value_size}
use Rattle.screen.proofs.Gathering.{as_many}
use Rattle.screen.proofs.Listed.{Listed, given, gives_all, gives_none, gives_too_many, list_begins, list_empty}
use Rattle.screen.proofs.Listed.{list_on, no_list, value_there}
use Rattle.screen.specs.Places.{five_at, five_of, shown_of}
use Rattle.screen.specs.declared.tracks.Five.{Five}

-- ---- digits

joined_on : (had : List (List ℕ)) (y : List ℕ) → joined (had ++ y ∷ []) ≡ joined had ++ y
joined_on [] y = append-nil y
joined_on (x ∷ had) y = ap (λ l. x ++ l) (joined_on had y) ∙ sym (append_assoc x (joined had) y)

zeros_left : (n m : ℕ) → drop n (replicate {A = ℕ} (n + m) 0) ≡ replicate m 0
zeros_left zero m = ap (λ k. replicate k 0) (zero-add m)
zeros_left (suc n) m = ap (λ k. drop (suc n) (replicate k 0)) (suc-add n m) ∙ zeros_left n m

-- the digits of one more track in the place of zeros
padded_on : (x y : List ℕ) → length x + length y ≤ 20 → put (length x) y (padded x) ≡ padded (x ++ y)
padded_on x y h =
    let rest : ℕ = 20 - length (x ++ y) in
    let zeros : List ℕ = replicate (20 - length x) 0 in
    let size : 20 - length x ≡ length y + rest = omega (arith, length-append x y) in
    (λ i. take-append_seam x zeros i ++ (y ++ drop-append-add x zeros (length y) i))
    ∙ ap (λ n. x ++ (y ++ drop (length y) (replicate n 0))) size
    ∙ ap (λ l. x ++ (y ++ l)) (zeros_left (length y) rest)
    ∙ sym (append_assoc x y (replicate rest 0))

-- a part of the digits is written over with as many
pub written_over : (at n : ℕ) (digits part five : List ℕ) → part ≡ five → n ≡ length five
    → put_mid at n digits part ≡ put at five digits
written_over at n digits part five e l =
    put_mid-paste at n digits part five n e refl l
    ∙ ap (λ x. take at digits ++ x ++ drop (at + n) digits) (take_all n five (omega arith))
    ∙ append_assoc (take at digits) five (drop (at + n) digits)
    ∙ ap (λ k. take at digits ++ (five ++ drop (at + k) digits)) l

-- ---- how many

rows_fit : (n : ℕ) → 1 ≤ n → n ≤ 4 → tracks_fit n ≡ true
rows_fit n h l = λ i. le-leb 1 n h i && le-leb n 4 l i

rows_over : (n : ℕ) → 4 < n → tracks_fit n ≡ false
rows_over n h = λ i. le-leb 1 n (omega arith) i && lt-leb n 4 h i

module _ (text : List ℕ) (start : ℕ) where
  -- the tracks that the value gives
  abbrev pub four : Option (List (List ℕ))
  four = given tracks_fit 6 track_of text start

  shown_by : {g : Option (List (List ℕ))} → four ≡ g →
      shown_of g ≡ shown_of (tracks_of (value_said 7 (drop start text)))
  unfolding tracks_of
  shown_by e = ap shown_of (sym e)

  pub none_shown : four ≡ none → None ≡ shown_of (tracks_of (value_said 7 (drop start text)))
  none_shown e = shown_by e

  pub other_form : (at text start ≡ 0x5B → ⊥) → four ≡ none
  other_form = no_list tracks_fit 6 track_of text start

  pub no_row :
      at text start ≡ 0x5B → (place found : ℕ) → place ≡ start + 1 + blanks (drop (start + 1) text)
      → found ≡ at text place
      → found ≡ 0x5D → four ≡ none
  no_row is place found p o e = list_empty tracks_fit 6 track_of text start is place found p o e refl

  -- The tracks so far are gathered, count as many, and their digits are shown.
  pub record Rows (place : ℕ) (digits : List ℕ) (count : ℕ) : Type 0 where
    pub had : List (List ℕ)
    pub counted : length had ≡ count
    pub fits : count ≤ 4
    pub wide : length (joined had) ≡ 5 * count
    pub shown : digits ≡ padded (joined had)
    pub listed : Listed tracks_fit 6 track_of text start had place

pub first_row :
    (text : List ℕ) (start : ℕ) → at text start ≡ 0x5B → (place found : ℕ)
    → place ≡ start + 1 + blanks (drop (start + 1) text)
    → found ≡ at text place → (found ≡ 0x5D → ⊥) → (value_size 7 (drop start text) ≡ 0 → ⊥)
    → Rows text start place (replicate 20 0) 0
first_row text start is place found p o h t =
    record {
      had = [];
      counted = refl;
      fits = omega arith;
      wide = refl;
      shown = refl;
      listed = list_begins tracks_fit 6 track_of text start is place found p o h t;
    }

module _ {text : List ℕ} {start place count : ℕ} {digits : List ℕ} (d : Rows text start place digits count) where
  pub row_there : value_size 6 (drop place text) ≡ 0 → ⊥
  row_there = value_there d.listed

  pub too_many_rows : 4 ≤ count → four text start ≡ none
  too_many_rows h = gives_too_many d.listed (λ n one. rows_over (length d.had + n) (omega (arith, d.counted)))

  pub other_row : None ≡ five_at text place → four text start ≡ none
  unfolding five_at
  other_row e = gives_none d.listed (by_form _ e)
    where
      by_form : (t : Option (List ℕ)) → None ≡ five_of (place + value_size 6 (drop place text)) t → t ≡ none
      by_form none e = refl
      by_form (some x) e = absurd (cc)

  module _ (five : Five) (is : Some five ≡ five_at text place) (less : count < 4) where
    row_is : (track_of (value_said 6 (drop place text)) ≡ some five.digits)
        × (five.past ≡ place + value_size 6 (drop place text))
    unfolding five_at
    row_is = by_form _ is
      where
        by_form : (t : Option (List ℕ)) → Some five ≡ five_of (place + value_size 6 (drop place text)) t
            → (t ≡ some five.digits) × (five.past ≡ place + value_size 6 (drop place text))
        by_form none e = absurd (cc)
        by_form (some x) e =
            let f : five ≡ record { past = place + value_size 6 (drop place text); digits = x } = cc in
            (ap some (sym (ap (λ (f : Five). f.digits) f)), ap (λ (f : Five). f.past) f)

    pub long : length five.digits ≡ 5
    long = eqb-true (length five.digits) 5
        (as_many (λ n. eqb n 5) (number_of 1) (value_said 6 (drop place text)) five.digits row_is.0)

    with_row : {next : List ℕ} → next ≡ put (5 * count) five.digits digits
        → next ≡ padded (joined (d.had ++ five.digits ∷ []))
    with_row e =
        e
        ∙ (λ i. put (sym d.wide i) five.digits (d.shown i))
        ∙ padded_on (joined d.had) five.digits (omega (arith, d.wide, long))
        ∙ ap padded (sym (joined_on d.had five.digits))

    module _ {digits_next : List ℕ} (w : digits_next ≡ put (5 * count) five.digits digits) {next octet : ℕ}
        (q : next ≡ five.past + blanks (drop five.past text)) (o : octet ≡ at text next) where
      row_item : Item (value_size 6) text place next octet
      row_item = record {
        end = five.past;
        read = sym (past_some place row_there row_is.1);
        skips = q;
        octet = o;
      }

      one_more : length (d.had ++ five.digits ∷ []) ≡ count + 1
      one_more = length-append d.had (five.digits ∷ []) ∙ ap (λ n. n + 1) d.counted

      pub row_on : octet ≡ 0x2C → {after : ℕ} → after ≡ next + 1 + blanks (drop (next + 1) text)
          → Rows text start after digits_next (count + 1)
      row_on c {after} r =
          record {
            had = d.had ++ five.digits ∷ [];
            counted = one_more;
            fits = omega arith;
            wide = omega (
              arith,
              ap length (joined_on d.had five.digits),
              length-append (joined d.had) five.digits,
              d.wide,
              long,
            );
            shown = with_row w;
            listed = list_on d.listed row_is.0 row_item c after r;
          }

      pub all_rows_lem : (octet ≡ 0x2C → ⊥)
          → Some (record { count = count + 1; digits = digits_next })
          ≡ shown_of (tracks_of (value_said 7 (drop start text)))
      all_rows_lem c =
          (λ i. Some (record { count = sym one_more i; digits = with_row w i }))
          ∙ shown_by text start
          (gives_all d.listed row_is.0 row_item c
          ∙ ap (λ t. provided t (d.had ++ five.digits ∷ []))
          (rows_fit (length d.had + 1) (omega arith) (omega (arith, d.counted))))
