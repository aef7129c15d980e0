-- Our members by their places: what each gives, and the message of all three.
-- Assumes nothing.
use Prim.Native.Nat.{ℕ, ◌≤◌, ◌<◌}
use mathlib.Core.Bool.{and-false, ◌&&◌}
use mathlib.Core.List.{List, []}
use mathlib.Core.Option as Math
use mathlib.Core.Option.{none, some}
use mathlib.Core.Path.{◌≡◌, ap, refl, sym, ◌∙◌}
use native.Mathlib.Omega.{arith}
use borrow.Author.Tests.{le-leb, lt-leb}
use lib.Dec.{leb}
use lib.ListN.{drop, length}
use Rattle.std.specs.Bool.{then_some}
use Rattle.std.specs.Prelude.{Err, None, Ok, OkIff, Option, Result, Some}
use Rattle.std.specs.Result.{result_ok}
use Rattle.rules.specs.Answered.{AspectNumbered, aspect_number}
use Rattle.rules.specs.declared.Aspect.{Aspect}
use Rattle.rules.specs.declared.NoSuchAspect.{NoSuchAspect}
use Rattle.rules.specs.Screen.{and_then, aspect_in, first, is_there, number_of, or_else, padded}
use Rattle.rules.specs.Screen.{provided, station_in, tracks_in, tracks_of}
use Rattle.rules_json.specs.Grammar.{joined}
use Rattle.rules_json.specs.Reader.{value_said}
use Rattle.rules_json.specs.Tree.{Member, Tree}
use Rattle.screen.proofs.Counting.{number_up_to}
use Rattle.screen.specs.Places.{Place, Places, message_given, number_here, placed, shown_of}
use Rattle.screen.specs.declared.members.OurPlaces.{OurPlaces}
use Rattle.screen.specs.declared.tracks.Shown.{Shown}

-- ---- a place

module _ {text : List ℕ} {members : List (Member (Tree 7))} {name : List ℕ} {was : Option ℕ}
    (p : Place text members name was) where
  absent : was ≡ None → first name members ≡ none
  absent e = sym p.found ∙ ap (placed text) e

  module _ {place : ℕ} (e : was ≡ Some place) where
    present : first name members ≡ some (value_said 7 (drop place text))
    present = sym p.found ∙ ap (placed text) e

    -- a number up to a most
    number_in : (most : ℕ) → most ≤ 65535
        → and_then (first name members) (number_of most)
        ≡ and_then (number_here (drop place text)) (λ n. provided (leb n most) n)
    number_in most h =
        ap (λ o. and_then o (number_of most)) present ∙ number_up_to most 6 (drop place text) h

-- ---- the message

module _ (members : List (Member (Tree 7))) where
  station_missing : station_in members ≡ none → None ≡ message_given members
  unfolding message_given
  station_missing e = rw e refl

  aspect_missing : aspect_in members ≡ none → None ≡ message_given members
  unfolding message_given
  aspect_missing e = rw (e, and-false (is_there (station_in members))) refl

  tracks_missing : tracks_in members ≡ none → None ≡ message_given members
  unfolding message_given
  tracks_missing e = rw (e, and-false (is_there (station_in members) && is_there (aspect_in members))) refl

  all_there : (station aspect : ℕ) (tracks : List (List ℕ)) → station_in members ≡ some station
      → aspect_in members ≡ some aspect → tracks_in members ≡ some tracks
      → Some record { station = station; aspect = aspect; tracks = length tracks; digits = padded (joined tracks) }
      ≡ message_given members
  unfolding message_given
  all_there station aspect tracks es ea et =
      sym (λ i. then_some (is_there (es i) && is_there (ea i) && is_there (et i))
      (record {
        station = or_else 0 (es i);
        aspect = or_else 0 (ea i);
        tracks = length (or_else [] (et i));
        digits = padded (joined (or_else [] (et i)));
      }))

-- what is shown, and what is not
shown_none : (t : Math.Option (List (List ℕ))) → None ≡ shown_of t → t ≡ none
shown_none none e = refl
shown_none (some tracks) e = absurd (cc)

shown_some : (t : Math.Option (List (List ℕ))) (shown : Shown) → Some shown ≡ shown_of t
    → (tracks : List (List ℕ)) × (t ≡ some tracks)
    × (shown ≡ record { count = length tracks; digits = padded (joined tracks) })
shown_some none shown e = absurd (cc)
shown_some (some tracks) shown e = (tracks, refl, cc)

-- ---- an aspect by its number

pub above_bytes : {E : Type 0} (r : Result ℕ E) (n : ℕ) → None ≡ result_ok r → OkIff r (n < 256) n → 5 < n
above_bytes (Ok m) n z h = absurd (cc)
above_bytes (Err f) n z h = omega arith

pub byte_is : {E : Type 0} (r : Result ℕ E) (n m : ℕ) → Some m ≡ result_ok r → OkIff r (n < 256) n → m ≡ n
byte_is (Ok k) n m z h = cc
byte_is (Err f) n m z h = absurd (cc)

pub above_aspects : (r : Result Aspect NoSuchAspect) (n : ℕ) → None ≡ result_ok r → AspectNumbered n r → 5 < n
above_aspects (Ok aspect) n z h = absurd (cc)
above_aspects (Err e) n z h = h.1

pub aspect_is : (r : Result Aspect NoSuchAspect) (n : ℕ) (aspect : Aspect) → Some aspect ≡ result_ok r
    → AspectNumbered n r → aspect_number aspect ≡ n
aspect_is (Ok k) n aspect z h = cc
aspect_is (Err e) n aspect z h = absurd (cc)

pub aspects : (aspect : Aspect) → aspect_number aspect ≤ 5
aspects Aspect.Permitted = omega arith
aspects Aspect.Clearing = omega arith
aspects Aspect.Forbidden = omega arith
aspects Aspect.GreatestRisk = omega arith
aspects Aspect.Surroundings = omega arith
aspects Aspect.OutOfService = omega arith

-- ---- our three members

module _ {text : List ℕ} {members : List (Member (Tree 7))} {places : OurPlaces} (p : Places text members places) where
  pub no_station : places.station ≡ None → None ≡ message_given members
  no_station e = station_missing members (ap (λ o. and_then o (number_of 65535)) (absent p.station e))

  pub no_aspect : places.aspect ≡ None → None ≡ message_given members
  no_aspect e = aspect_missing members (ap (λ o. and_then o (number_of 5)) (absent p.aspect e))

  pub no_tracks : places.tracks ≡ None → None ≡ message_given members
  no_tracks e = tracks_missing members (ap (λ o. and_then o tracks_of) (absent p.tracks e))

  module _ (s : ℕ) (es : places.station ≡ Some s) where
    pub bad_station : none ≡ number_here (drop s text) → None ≡ message_given members
    bad_station n =
        station_missing members
        (number_in p.station es 65535 (omega arith) ∙ ap (λ o. and_then o (λ n. provided (leb n 65535) n)) (sym n))

  module _ (a : ℕ) (ea : places.aspect ≡ Some a) where
    aspect_by : {o : Math.Option ℕ} → o ≡ number_here (drop a text)
        → aspect_in members ≡ and_then o (λ n. provided (leb n 5) n)
    aspect_by n = number_in p.aspect ea 5 (omega arith) ∙ ap (λ o. and_then o (λ n. provided (leb n 5) n)) (sym n)

    pub bad_aspect : none ≡ number_here (drop a text) → None ≡ message_given members
    bad_aspect n = aspect_missing members (aspect_by n)

    pub great_aspect : (aspect : ℕ) → some aspect ≡ number_here (drop a text) → 5 < aspect
        → None ≡ message_given members
    great_aspect aspect n h =
        aspect_missing members (aspect_by n ∙ ap (λ t. provided t aspect) (lt-leb aspect 5 h))

  module _ (t : ℕ) (et : places.tracks ≡ Some t) where
    tracks_are : tracks_in members ≡ tracks_of (value_said 7 (drop t text))
    tracks_are = ap (λ o. and_then o tracks_of) (present p.tracks et)

    pub bad_tracks : None ≡ shown_of (tracks_of (value_said 7 (drop t text))) → None ≡ message_given members
    bad_tracks e = tracks_missing members (tracks_are ∙ shown_none _ e)

  pub all_given :
      (s a t : ℕ) → places.station ≡ Some s → places.aspect ≡ Some a → places.tracks ≡ Some t → (station aspect : ℕ)
      → some station ≡ number_here (drop s text) → station ≤ 65535 → some aspect ≡ number_here (drop a text)
      → aspect ≤ 5
      → (shown : Shown) → Some shown ≡ shown_of (tracks_of (value_said 7 (drop t text)))
      → Some (record { station = station; aspect = aspect; tracks = shown.count; digits = shown.digits })
      ≡ message_given members
  all_given s a t es ea et station aspect ns hs na ha shown e =
      let (tracks, are, is) = shown_some _ shown e in
      (λ i. Some (record { station = station; aspect = aspect; tracks = (is i).count; digits = (is i).digits }))
      ∙ all_there members station aspect tracks
      (number_in p.station es 65535 (omega arith)
      ∙ ap (λ o. and_then o (λ n. provided (leb n 65535) n)) (sym ns)
      ∙ ap (λ t. provided t station) (le-leb station 65535 hs))
      (aspect_by a ea na ∙ ap (λ t. provided t aspect) (le-leb aspect 5 ha))
      (tracks_are t et ∙ are)
