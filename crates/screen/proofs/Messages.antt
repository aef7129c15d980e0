-- The message of a station, as the code works it out.
-- Assumes nothing.
use Prim.Native.Nat.{ℕ, zero, suc, ◌+◌, ◌-◌, ◌*◌, ◌≤◌, ◌<◌}
use native.Mathlib.Nat.{suc-add, zero-add}
use native.Mathlib.Omega.{arith}
use mathlib.Core.Path.{◌≡◌, refl, sym, ap, ◌∙◌}
use mathlib.Core.Bool.{Bool, true, false, cond}
use mathlib.Core.List.{List, [], ◌∷◌, ◌++◌, append_assoc, append-nil, map}
use borrow.Author.Tests.{leb-true}
use lib.ListN.{drop, get_or, length, length-append, replicate, take}
use lib.Seq.{drop-append-add, length-take-le, take-append_seam}
use Rattle.chains.proofs.Chains.{both}
use Rattle.rules.specs.Aspect.{aspect_of}
use Rattle.rules.specs.Screen.{message_of, padded, track_digits}
use Rattle.rules.specs.Station.{live, within_limits}
use Rattle.rules.specs.declared.Message.{Message}
use Rattle.rules.specs.declared.Settings.{Settings}
use Rattle.rules.specs.declared.Station.{Station}
use Rattle.rules.specs.declared.Track.{Track}
use Rattle.rules_json.specs.Grammar.{joined}
use Rattle.rules.specs.Words.{put}
use Rattle.std.proofs.lemmas.List.{map_more}

-- what holds of one to four holds of a number within these
pub of_one_to_four : (P : ℕ → Type 0) (n : ℕ) → 1 ≤ n → n ≤ 4 → P 1 → P 2 → P 3 → P 4 → P n
of_one_to_four P zero h k a b c d = let z : ⊥ = omega arith in absurd z
of_one_to_four P (suc zero) h k a b c d = a
of_one_to_four P (suc (suc zero)) h k a b c d = b
of_one_to_four P (suc (suc (suc zero))) h k a b c d = c
of_one_to_four P (suc (suc (suc (suc zero)))) h k a b c d = d
of_one_to_four P (suc (suc (suc (suc (suc n))))) h k a b c d = let z : ⊥ = omega arith in absurd z

-- ---- the digits

pub tracks_within : (c : Settings) → within_limits c ≡ true → (1 ≤ c.tracks) × (c.tracks ≤ 4)
unfolding within_limits
tracks_within c e =
    let t5 = (both _ _ e).0 in
    let t3 = (both _ _ (both _ _ t5).0).0 in
    let tracks = (both _ _ (both _ _ (both _ _ t3).0).0).0 in
    let limits = both _ _ tracks in
    (leb-true 1 c.tracks limits.0, leb-true c.tracks 4 limits.1)

-- one track more
pub joined_on : (had : List (List ℕ)) (y : List ℕ) → joined (had ++ y ∷ []) ≡ joined had ++ y
joined_on [] y = append-nil y
joined_on (x ∷ had) y = ap (λ l. x ++ l) (joined_on had y) ∙ sym (append_assoc x (joined had) y)

zeros_left : (n m : ℕ) → drop n (replicate {A = ℕ} (n + m) 0) ≡ replicate m 0
zeros_left zero m = ap (λ k. replicate k 0) (zero-add m)
zeros_left (suc n) m = ap (λ k. drop (suc n) (replicate k 0)) (suc-add n m) ∙ zeros_left n m

-- the digits of one more track in the place of zeros
pub padded_on : (x y : List ℕ) → length x + length y ≤ 20 → put (length x) y (padded x) ≡ padded (x ++ y)
padded_on x y h =
    let rest : ℕ = 20 - length (x ++ y) in
    let zeros : List ℕ = replicate (20 - length x) 0 in
    let size : 20 - length x ≡ length y + rest = omega (arith, length-append x y) in
    (λ i. take-append_seam x zeros i ++ (y ++ drop-append-add x zeros (length y) i))
    ∙ ap (λ n. x ++ (y ++ drop (length y) (replicate n 0))) size
    ∙ ap (λ l. x ++ (y ++ l)) (zeros_left (length y) rest)
    ∙ sym (append_assoc x y (replicate rest 0))

fives_long : (l : List Track) → length (joined (map track_digits l)) ≡ 5 * length l
fives_long [] = refl
fives_long (t ∷ l) = omega (arith, fives_long l)

-- the digits of one more track in the place of zeros
module _ (live : List Track) (n : ℕ) (d : Track) (less : n < length live) (few : length live ≤ 4) where
  abbrev had : List ℕ
  had = joined (map track_digits (take n live))

  abbrev next : List ℕ
  next = track_digits (get_or live n d)

  size : 5 * n ≡ length had
  size = omega (arith, fives_long (take n live), length-take-le n live (omega arith))

  pub one_more : {digits : List ℕ} → digits ≡ padded had
      → put (5 * n) next digits ≡ padded (joined (map track_digits (take (n + 1) live)))
  one_more e =
      (λ i. put (size i) next (e i))
      ∙ padded_on had next (omega (arith, size))
      ∙ ap padded (sym (joined_on (map track_digits (take n live)) next))
      ∙ ap (λ l. padded (joined l)) (sym (map_more track_digits live n d less))

-- ---- the message

module _ (number : ℕ) (s : Station) where
  abbrev pub told_of : ℕ → List ℕ → Message
  told_of aspect digits = record { station = number; aspect = aspect; tracks = s.settings.tracks; digits = digits }

  abbrev pub out : Message
  out = record { station = number; aspect = 5; tracks = 4; digits = replicate 20 0 }

  abbrev pub due_of : Message
  due_of = told_of (aspect_of s) (padded (joined (map track_digits (live s))))

  pub message_where : (t : Bool) → within_limits s.settings ≡ t → message_of number s ≡ cond t due_of out
  unfolding message_of
  message_where t e = ap (λ (b : Bool). cond b due_of out) e

  pub refused : within_limits s.settings ≡ false → out ≡ message_of number s
  refused e = sym (message_where false e)

  pub sent : {aspect : ℕ} {digits : List ℕ} → within_limits s.settings ≡ true → aspect ≡ aspect_of s
      → digits ≡ padded (joined (map track_digits (live s)))
      → told_of aspect digits ≡ message_of number s
  sent e a d = (λ i. told_of (a i) (d i)) ∙ sym (message_where true e)
