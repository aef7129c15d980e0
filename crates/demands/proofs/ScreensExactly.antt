-- Document 02, request 1: what the definitions read in the members of a text is what the request says of them.
-- Assumes nothing.
use Prim.Native.Nat.{ℕ, ◌*◌, ◌≤◌}
use native.Mathlib.Omega.{arith}
use mathlib.Core.Logic.{◌⊎◌, ◌↔◌, inl, inr}
use mathlib.Core.Path.{◌≡◌, refl, sym, ap, subst, ◌∙◌}
use mathlib.Core.Bool.{Bool, true, false, true≢false, false≢true, and-false, ◌&&◌}
use mathlib.Core.List.{List, []}
use mathlib.Core.Option.{Option, none, some}
use borrow.Author.Tests.{le-leb, leb-true}
use lib.Dec.{leb}
use lib.ListN.{length}
use Rattle.chains.proofs.Chains.{both}
use Rattle.demands.proofs.FiveDigits.{joined_count, joined_few}
use Rattle.demands.proofs.NumberTexts.{decimal_ours}
use Rattle.demands.proofs.ScreensBack.{tracks_back}
use Rattle.demands.proofs.ScreensRead.{given, whole}
use Rattle.demands.proofs.StationMessage.{padded_fits}
use Rattle.demands.proofs.ValueForms.{Held, first_held, given_then, members_held, number_form, tracks_form}
use Rattle.demands.specs.Screens.{AspectIs, Fits, Lacking, Members, MessageIs}
use Rattle.demands.specs.Screens.{Says, StationIs, TracksAre, number_value}
use Rattle.rules.specs.Screen.{and_then, aspect_in, aspect_name, first, is_there, members_of, message_in, number_of}
use Rattle.rules.specs.Screen.{or_else}
use Rattle.rules.specs.Screen.{padded, received, station_in, station_name, tracks_in, tracks_fit, tracks_name}
use Rattle.rules.specs.Screen.{tracks_of}
use Rattle.rules.specs.declared.Message.{Message}
use Rattle.rules.specs.declared.Received.{Received}
use Rattle.rules_json.specs.Grammar.{DeepValue, joined}
use Rattle.rules_json.specs.Tree.{Tree}

-- ---- what is there

module _ {A : Type 0} where
  there : (o : Option A) → is_there o ≡ true → (x : A) × (o ≡ some x)
  there none h = absurd (false≢true h)
  there (some x) h = (x, refl)

  not_there : (o : Option A) → ((x : A) → o ≡ some x → ⊥) → is_there o ≡ false
  not_there none h = refl
  not_there (some x) h = absurd (h x refl)

  none_there : (o : Option A) → is_there o ≡ false → (x : A) → o ≡ some x → ⊥
  none_there o h x e = true≢false (sym (ap is_there e) ∙ h)

one_of_three : (a b c : Bool) → a && b && c ≡ false → (a ≡ false) ⊎ (b ≡ false) ⊎ (c ≡ false)
one_of_three true true c e = inr (inr e)
one_of_three true false c e = inr (inl refl)
one_of_three false b c e = inl refl

not_all : (a b c : Bool) → (a ≡ false) ⊎ (b ≡ false) ⊎ (c ≡ false) → a && b && c ≡ false
not_all true b c (inl e) = absurd (true≢false e)
not_all false b c (inl e) = refl
not_all a true c (inr (inl e)) = absurd (true≢false e)
not_all a false c (inr (inl e)) = ap (λ (t : Bool). t && c) (and-false a)
not_all a b c (inr (inr e)) = ap (λ (t : Bool). a && b && t) e ∙ and-false (a && b)

-- ---- ours, in members

tracks_fit_lem : (l : List (List ℕ)) → 1 ≤ length l → length l ≤ 4 → tracks_fit (length l) ≡ true
tracks_fit_lem l least most = λ i. le-leb 1 (length l) least i && le-leb (length l) 4 most i

module _ (members : Members) where
  station_read : (n : ℕ) → StationIs n members → station_in members ≡ some n
  station_read n (few, e) = ap (λ o. and_then o (number_of 65535)) e ∙ decimal_ours n few 65535 few

  aspect_read : (n : ℕ) → AspectIs n members → aspect_in members ≡ some n
  aspect_read n (few, e) = ap (λ o. and_then o (number_of 5)) e ∙ decimal_ours n (omega arith) 5 few

  tracks_read_lem : (l : List (List ℕ)) → TracksAre l members → tracks_in members ≡ some l
  tracks_read_lem l (least, most, five, e) = ap (λ o. and_then o tracks_of) e
      ∙ tracks_back l (tracks_fit_lem l least most) five

  pub message_read : (m : Message) → MessageIs m members → (whole members ≡ true) × (message_in members ≡ m)
  message_read m (station, aspect, (l, tracks, count, digits)) =
      let p = station_read m.station station in
      let q = aspect_read m.aspect aspect in
      let r = tracks_read_lem l tracks in (
        (λ i. is_there (p i) && is_there (q i) && is_there (r i)),
        (λ i. record {
          station = or_else 0 (p i);
          aspect = or_else 0 (q i);
          tracks = length (or_else [] (r i));
          digits = padded (joined (or_else [] (r i)));
        })
            ∙ λ i. record { station = m.station; aspect = m.aspect; tracks = sym count i; digits = sym digits i },
      )

-- ---- ours, in the members of a text

module _ (x : Tree 8) (s : List ℕ) (t : Says x s) where
  abbrev members : Members
  members = members_of x

  held : (name : List ℕ) (v : Tree 7) → first name members ≡ some v → Held (DeepValue 7) v
  held name v e = first_held (Held (DeepValue 7)) name members v (members_held x s t) e

  number_found : (name : List ℕ) (most n : ℕ) → most ≤ 65535 → and_then (first name members) (number_of most) ≡ some n
      → (n ≤ most) × (first name members ≡ some (number_value n))
  number_found name most n few e =
      let (v, there, read) = given_then (first name members) (number_of most) n e in
      let (form, least) = number_form (DeepValue 6) most few v (held name v there) n read in
      (least, there ∙ ap {B = Option (Tree 7)} some form)

  station_found : (n : ℕ) → station_in members ≡ some n → StationIs n members
  station_found n e = number_found station_name 65535 n (omega arith) e

  aspect_found : (n : ℕ) → aspect_in members ≡ some n → AspectIs n members
  aspect_found n e = number_found aspect_name 5 n (omega arith) e

  tracks_found : (l : List (List ℕ)) → tracks_in members ≡ some l → TracksAre l members
  tracks_found l e =
      let (v, there, read) = given_then (first tracks_name members) tracks_of l e in
      let (form, five, many) = tracks_form v (held tracks_name v there) l read in
      let (least, most) = both (leb 1 (length l)) (leb (length l) 4) many in
      (leb-true 1 (length l) least, leb-true (length l) 4 most, five, there ∙ ap {B = Option (Tree 7)} some form)

  -- one of ours is lacking where the definitions find none
  pub lacks : whole members ≡ false ↔ Lacking members
  lacks = (
    λ e. lacking (one_of_three (is_there (station_in members)) (is_there (aspect_in members))
        (is_there (tracks_in members)) e),
    λ l. not_all _ _ _ (one_lacks l),
  )
    where
      lacking : (is_there (station_in members) ≡ false) ⊎ (is_there (aspect_in members) ≡ false)
          ⊎ (is_there (tracks_in members) ≡ false) → Lacking members
      lacking (inl e) = inl (λ n h. none_there (station_in members) e n (station_read members n h))
      lacking (inr (inl e)) = inr (inl (λ n h. none_there (aspect_in members) e n (aspect_read members n h)))
      lacking (inr (inr e)) = inr (inr (λ l h. none_there (tracks_in members) e l (tracks_read_lem members l h)))

      one_lacks : Lacking members → (is_there (station_in members) ≡ false) ⊎ (is_there (aspect_in members) ≡ false)
          ⊎ (is_there (tracks_in members) ≡ false)
      one_lacks (inl h) = inl (not_there (station_in members) (λ n e. h n (station_found n e)))
      one_lacks (inr (inl h)) = inr (inl (not_there (aspect_in members) (λ n e. h n (aspect_found n e))))
      one_lacks (inr (inr h)) = inr (inr (not_there (tracks_in members) (λ l e. h l (tracks_found l e))))

  -- a message that is given is that of the members, and fits
  pub given_is : (m : Message) → whole members ≡ true → received s ≡ record { answer = 0; message = m }
      → MessageIs m members × Fits m
  given_is m w e =
      let (first_two, third) = both _ (is_there (tracks_in members)) w in
      let (one, second) = both (is_there (station_in members)) (is_there (aspect_in members)) first_two in
      let (a, p) = there (station_in members) one in
      let (b, q) = there (aspect_in members) second in
      let (l, r) = there (tracks_in members) third in
      let station = station_found a p in
      let aspect = aspect_found b q in
      let tracks = tracks_found l r in
      let is : MessageIs (message_as a b l) members = (station, aspect, (l, tracks, refl, refl)) in
      let fits = padded_fits a b (length l) (joined l) station.0 aspect.0 (fit l tracks)
      (joined_few l tracks.2) (few l tracks) in
      let same = sym (message_read members (message_as a b l) is).1
      ∙ ap (λ (g : Received). g.message) (sym (given s x t w) ∙ e) in
      subst (λ (k : Message). MessageIs k members × Fits k) same (is, fits)
    where
      message_as : ℕ → ℕ → List (List ℕ) → Message
      message_as a b l = record { station = a; aspect = b; tracks = length l; digits = padded (joined l) }

      fit : (l : List (List ℕ)) → TracksAre l members → tracks_fit (length l) ≡ true
      fit l h = tracks_fit_lem l h.0 h.1

      few : (l : List (List ℕ)) → TracksAre l members → length (joined l) ≤ 5 * length l
      few l h = omega (arith, joined_count l h.2)
