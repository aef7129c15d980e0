-- Document 02, request 1: "What we write we read back unchanged."
-- Assumes nothing.
use Prim.Native.Nat.{ℕ, ◌*◌, ◌≤◌}
use native.Mathlib.Omega.{arith}
use mathlib.Core.Path.{◌≡◌, refl, sym, ap, subst, ◌∙◌}
use mathlib.Core.Bool.{Bool, true, false, not}
use mathlib.Core.List.{List, [], ◌∷◌, ◌++◌, append_assoc, append-nil, map}
use mathlib.Core.Option.{Option, some}
use borrow.Author.Tests.{eq-eqb, leb-true, not-true}
use lib.Dec.{eqb, leb, ltb}
use lib.ListN.{drop, length, length-map, take}
use Rattle.chains.proofs.Chains.{both}
use Rattle.demands.proofs.FiveDigits.{all_five, count_fives, joined_fives, padded_back}
use Rattle.demands.proofs.MessageTexts.{track_text, written_length}
use Rattle.demands.proofs.NumberTexts.{decimal_number, decimal_ours}
use Rattle.demands.proofs.PlainTexts.{all_so, bare, follows, no_blanks_lem, plain_list, plain_member}
use Rattle.demands.specs.Screens.{All, Five, Fits, MessageIs, Says, number_value}
use Rattle.demands.specs.Screens.{object_of, track_value, tracks_value}
use Rattle.rules.specs.Printer.{decimal}
use Rattle.rules.specs.Screen.{and_then, aspect_name, each, fives, list_of, listed, members_of, message_fits, number_of}
use Rattle.rules.specs.Screen.{padded, provided, station_name, track_of, tracks_fit, tracks_name, tracks_of, written}
use Rattle.rules.specs.Words.{any}
use Rattle.rules.specs.declared.Message.{Message}
use Rattle.rules_json.specs.Abnf.{Rule, octets, row, ◌then◌}
use Rattle.rules_json.specs.Grammar.{DeepValue, MemberRule, ValueSeparator}
use Rattle.rules_json.specs.Tree.{Member, Tree, array, object}

-- ---- a list is read back where each of its values is

module _ {A B : Type 0} (f : A → Option B) (tree : B → A) where
  each_back : (ys : List B) → All (λ y. f (tree y) ≡ some y) ys → each f (map tree ys) ≡ some ys
  each_back [] h = refl
  each_back (y ∷ ys) h = λ i. and_then (h.0 i) (λ z. and_then (each_back ys h.1 i) (λ zs. some (z ∷ zs)))

  list_back : (how_many : ℕ → Bool) (ys : List B) → how_many (length ys) ≡ true → All (λ y. f (tree y) ≡ some y) ys
      → list_of how_many f (array (map tree ys)) ≡ some ys
  list_back how_many ys e h =
      (λ i. and_then (each_back ys h i) (λ zs. provided (how_many (length-map ys tree i)) zs))
      ∙ ap (λ (t : Bool). provided t ys) e

-- ---- what is written, as a tree and as a text

track_text_lem : (five : List ℕ) → Five five → DeepValue 6 (track_value five) (track_text five)
track_text_lem five h = plain_list (DeepValue 5) number_value decimal five
    (all_so _ _ five (λ d l. (refl, decimal_number d (omega arith))) h.1)

track_back : (five : List ℕ) → Five five → track_of (track_value five) ≡ some five
track_back five h =
    list_back (number_of 1) number_value (λ n. eqb n 5) five (eq-eqb (length five) 5 h.0)
    (all_so _ _ five (λ d l. decimal_ours d (omega arith) 1 l) h.1)

tracks_text_lem : (l : List (List ℕ)) → All Five l → DeepValue 7 (tracks_value l) (listed (map track_text l))
tracks_text_lem l h = plain_list (DeepValue 6) track_value track_text l (all_so Five _ l track_text_lem h)

pub tracks_back : (l : List (List ℕ)) → tracks_fit (length l) ≡ true → All Five l → tracks_of (tracks_value l) ≡ some l
unfolding tracks_of
tracks_back l e h = list_back track_of track_value tracks_fit l e (all_so Five _ l track_back h)

-- a member, as it is written
abbrev member_text : List ℕ → List ℕ → List ℕ
member_text name text = (0x22 ∷ (name ++ (0x22 ∷ []))) ++ ((0x3A ∷ []) ++ text)

abbrev items : List ℕ → List ℕ → List ℕ → List ℕ
items a b c = member_text station_name a
    ++ ((octets "," ++ member_text aspect_name b) ++ ((octets "," ++ member_text tracks_name c) ++ []))

spelt : (a b c : List ℕ)
    → octets "{\"station\":" ++ (a ++ (octets ",\"aspect\":" ++ (b ++ (octets ",\"tracks\":" ++ (c ++ octets "}")))))
    ≡ octets "{" ++ (items a b c ++ octets "}")
spelt a b c =
    let first = member_text station_name a in
    let second = octets "," ++ member_text aspect_name b in
    let third = octets "," ++ member_text tracks_name c in
    let end = octets "}" in
    ap {B = List ℕ} (λ (l : List ℕ). octets "{" ++ l)
    (ap (λ (l : List ℕ). first ++ l)
    (ap (λ (l : List ℕ). second ++ l) (sym (append_assoc third [] end)) ∙ sym (append_assoc second (third ++ []) end))
    ∙ sym (append_assoc first (second ++ (third ++ [])) end))

module _ (a b c : List ℕ) (x y z : Tree 7) (p : DeepValue 7 x a) (q : DeepValue 7 y b) (r : DeepValue 7 z c) where
  abbrev first : Member (Tree 7)
  first = record { name = station_name; value = x }

  abbrev second : Member (Tree 7)
  second = record { name = aspect_name; value = y }

  abbrev third : Member (Tree 7)
  third = record { name = tracks_name; value = z }

  abbrev Rest : Member (Tree 7) → Rule
  Rest m = ValueSeparator then MemberRule (DeepValue 7) m

  object_text : DeepValue 8 (object (first ∷ second ∷ third ∷ [])) (octets "{" ++ (items a b c ++ octets "}"))
  object_text =
      let one = plain_member (DeepValue 7) first a refl p in
      let two = follows ValueSeparator (MemberRule (DeepValue 7) second) (octets ",") _ (bare 0x2C)
      (plain_member (DeepValue 7) second b refl q) in
      let three = follows ValueSeparator (MemberRule (DeepValue 7) third) (octets ",") _ (bare 0x2C)
      (plain_member (DeepValue 7) third c refl r) in
      let rest = follows (Rest second) (row Rest (third ∷ [])) _ _ two
      (follows (Rest third) (row Rest []) _ [] three refl) in
      let all = follows (MemberRule (DeepValue 7) first) (row Rest (second ∷ third ∷ [])) _ _ one rest in
      (octets "{", items a b c ++ octets "}", refl, bare 0x7B, (items a b c, octets "}", refl, all, bare 0x7D))

-- ---- a message that fits

-- message_fits, range by range
record Ranges (m : Message) : Type 0 where
  station : m.station ≤ 65535
  aspect : m.aspect ≤ 5
  tracks : tracks_fit m.tracks ≡ true
  digits : any (ltb 1) (take (5 * m.tracks) m.digits) ≡ false
  rest : any (ltb 0) (drop (5 * m.tracks) m.digits) ≡ false

ranges : (m : Message) → message_fits m ≡ true → Ranges m
unfolding message_fits
ranges m e =
    let (d, r) = both _ (not (any (ltb 0) (drop (5 * m.tracks) m.digits))) e in
    let (t, s) = both _ (not (any (ltb 1) (take (5 * m.tracks) m.digits))) d in
    let (n, f) = both _ (tracks_fit m.tracks) t in
    let (a, b) = both (leb m.station 65535) (leb m.aspect 5) n in
    record {
      station = leb-true m.station 65535 a;
      aspect = leb-true m.aspect 5 b;
      tracks = f;
      digits = not-true _ s;
      rest = not-true _ r;
    }

module _ (m : Message) (fits : Fits m) where
  within_ranges : Ranges m
  within_ranges = ranges m fits.0

  few_tracks : m.tracks ≤ 4
  few_tracks = leb-true m.tracks 4 (both (leb 1 m.tracks) (leb m.tracks 4) within_ranges.tracks).1

  abbrev tracks : List (List ℕ)
  tracks = fives m.tracks m.digits

  each_five : All Five tracks
  each_five = all_five m.tracks m.digits (omega (arith, few_tracks, fits.1)) within_ranges.digits

  number_text_lem : (n : ℕ) → n ≤ 65535 → DeepValue 7 (number_value n) (decimal n)
  number_text_lem n h = (refl, decimal_number n h)

  written_value : DeepValue 8 (object_of m) (written m)
  unfolding written
  written_value =
      let station = decimal m.station in
      let aspect = decimal m.aspect in
      let list = listed (map track_text tracks) in
      subst (DeepValue 8 (object_of m)) (sym (spelt station aspect list))
      (object_text station aspect list (number_value m.station) (number_value m.aspect) (tracks_value tracks)
      (number_text_lem m.station within_ranges.station)
      (number_text_lem m.aspect (omega (arith, within_ranges.aspect))) (tracks_text_lem tracks each_five))

  pub written_says : Says (object_of m) (written m)
  written_says = (
    ([], written m, refl, no_blanks_lem, (written m, [], sym (append-nil (written m)), written_value, no_blanks_lem)),
    written_length m within_ranges.station (omega (arith, within_ranges.aspect)) few_tracks each_five,
  )

  pub written_is : MessageIs m (members_of (object_of m))
  written_is =
      let (least, most) = both (leb 1 m.tracks) (leb m.tracks 4) within_ranges.tracks in
      let count = count_fives m.tracks m.digits in
      let digits = ap padded (joined_fives m.tracks m.digits)
      ∙ padded_back (5 * m.tracks) m.digits fits.1 within_ranges.rest in (
        (within_ranges.station, refl),
        (within_ranges.aspect, refl),
        (
          tracks,
          (omega (arith, leb-true 1 m.tracks least), omega (arith, few_tracks), each_five, refl),
          sym count,
          sym digits,
        ),
      )
