-- Document 02, request 1: the message of a station always fits, whatever the station and its arrays.
-- Assumes nothing.
use Prim.Native.Nat.{ℕ, zero, suc, ◌-◌, ◌*◌, ◌≤◌, ◌<◌}
use native.Mathlib.Omega.{arith}
use mathlib.Core.Path.{◌≡◌, refl, ◌∙◌}
use mathlib.Core.Bool.{Bool, true, false, cond, not, ◌&&◌, ◌||◌}
use mathlib.Core.List.{List, [], ◌∷◌, ◌++◌, map}
use borrow.Author.Tests.{le-leb, le-ltb, leb-true}
use lib.Dec.{leb, ltb}
use lib.ListN.{drop, length, length-append, length-replicate, length-take, replicate, take}
use Rattle.chains.proofs.Chains.{both, neither, test_below}
use Rattle.demands.proofs.FiveDigits.{any_append}
use Rattle.demands.specs.Screens.{Fits}
use Rattle.rules.specs.Aspect.{aspect_of}
use Rattle.rules.specs.Screen.{message_fits, message_of, padded, tracks_fit, track_digits}
use Rattle.rules.specs.Station.{island_at, live, within_limits}
use Rattle.rules.specs.Words.{any}
use Rattle.rules.specs.declared.Message.{Message}
use Rattle.rules.specs.declared.Station.{Station}
use Rattle.rules.specs.declared.Track.{Track}
use Rattle.rules_json.specs.Grammar.{joined}

aspect_below : (s : Station) → aspect_of s < 6
unfolding aspect_of
aspect_below s =
    test_below 6 5 _ _ (omega arith)
    (test_below 6 5 _ _ (omega arith)
    (test_below 6 3 _ _ (omega arith)
    (test_below 6 2 _ _ (omega arith)
    (test_below 6 1 _ _ (omega arith) (test_below 6 4 0 _ (omega arith) (omega arith))))))

-- ---- where none of a list is so

module _ (p : ℕ → Bool) where
  none_taken : (n : ℕ) (l : List ℕ) → any p l ≡ false → any p (take n l) ≡ false
  none_taken zero l e = refl
  none_taken (suc n) [] e = refl
  none_taken (suc n) (x ∷ l) e = let h = neither (p x) (any p l) e in λ i. h.0 i || none_taken n l h.1 i

  none_left : (n : ℕ) (l : List ℕ) → any p l ≡ false → any p (drop n l) ≡ false
  none_left zero l e = e
  none_left (suc n) [] e = refl
  none_left (suc n) (x ∷ l) e = none_left n l (neither (p x) (any p l) e).1

  none_past : (n : ℕ) (l m : List ℕ) → length l ≤ n → any p m ≡ false → any p (drop n (l ++ m)) ≡ false
  none_past n [] m h e = none_left n m e
  none_past zero (x ∷ l) m h e = let z : ⊥ = omega arith in absurd z
  none_past (suc n) (x ∷ l) m h e = none_past n l m (omega arith) e

no_more : (most k : ℕ) → any (ltb most) (replicate k 0) ≡ false
no_more most zero = refl
no_more most (suc k) = λ i. le-ltb most 0 (omega arith) i || no_more most k i

-- ---- the digits of tracks

digit_few : (b : Bool) → ltb 1 (cond b 0 1) ≡ false
digit_few true = refl
digit_few false = refl

digits_few : (l : List Track) → any (ltb 1) (joined (map track_digits l)) ≡ false
digits_few [] = refl
digits_few (t ∷ l) =
    λ i.
    digit_few (island_at t 0).occupied i
    || (digit_few (island_at t 1).occupied i
    || (digit_few (island_at t 2).occupied i
    || (digit_few (island_at t 3).occupied i || (digit_few (island_at t 4).occupied i || digits_few l i))))

digits_count : (l : List Track) → length (joined (map track_digits l)) ≡ 5 * length l
digits_count [] = refl
digits_count (t ∷ l) = omega (arith, digits_count l)

-- ---- the message

-- what fits, range by range
fits : (m : Message) → m.station ≤ 65535 → m.aspect ≤ 5 → tracks_fit m.tracks ≡ true
    → any (ltb 1) (take (5 * m.tracks) m.digits) ≡ false
    → any (ltb 0) (drop (5 * m.tracks) m.digits) ≡ false
    → message_fits m ≡ true
unfolding message_fits
fits m s a t d r = λ i. le-leb m.station 65535 s i && le-leb m.aspect 5 a i && t i && not (d i) && not (r i)

-- with digits of 0 and 1 for the tracks, and 0 behind them
pub padded_fits : (station aspect tracks : ℕ) (l : List ℕ) → station ≤ 65535 → aspect ≤ 5 → tracks_fit tracks ≡ true
    → any (ltb 1) l ≡ false
    → length l ≤ 5 * tracks
    → Fits (record { station = station; aspect = aspect; tracks = tracks; digits = padded l })
padded_fits station aspect tracks l s a t few h =
    let zeros : List ℕ = replicate (20 - length l) 0 in
    let all = any_append (ltb 1) l zeros ∙ (λ i. few i || no_more 1 (20 - length l) i) in
    let most = leb-true tracks 4 (both (leb 1 tracks) (leb tracks 4) t).1 in (
      fits _ s a t (none_taken (ltb 1) (5 * tracks) (padded l) all)
          (none_past (ltb 0) (5 * tracks) l zeros h (no_more 0 (20 - length l))),
      omega (arith, length-append l zeros, length-replicate {A = ℕ} (20 - length l) 0),
    )

first : (p q : Bool) → p && q ≡ true → p ≡ true
first p q h = (both p q h).0

module _ (n : ℕ) (few : n ≤ 65535) (s : Station) where
  abbrev shown : List ℕ
  shown = joined (map track_digits (live s))

  shown_count : length shown ≤ 5 * s.settings.tracks
  shown_count = omega (arith, digits_count (live s), length-take s.settings.tracks s.tracks)

  tracks_within : within_limits s.settings ≡ true → tracks_fit s.settings.tracks ≡ true
  unfolding within_limits
  tracks_within e = first _ _ (first _ _ (first _ _ (first _ _ (first _ _ (first _ _ e)))))

  pub station_fits : Fits (message_of n s)
  unfolding message_of
  station_fits = go (within_limits s.settings) refl
    where
      go : (t : Bool) → within_limits s.settings ≡ t
          → Fits (
          cond t record { station = n; aspect = aspect_of s; tracks = s.settings.tracks; digits = padded shown }
          record { station = n; aspect = 5; tracks = 4; digits = replicate 20 0 })
      go true e =
          padded_fits n (aspect_of s) s.settings.tracks shown few (omega (arith, aspect_below s)) (tracks_within e)
          (digits_few (live s)) shown_count
      go false e = (fits _ few (omega arith) refl refl refl, refl)
