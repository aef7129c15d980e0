-- Document 01, "The register": "Starting writes the header and touches no other byte. Appending at entry k writes those
-- 8 bytes only, and does not read earlier entries." And "a report refused by 1 to 7 is entered too, with its number,
-- and the station stays". "The numbers it answers": apart from that entry, refusals write to no buffer.
-- Assumes nothing.
use Prim.Native.Nat.{ℕ, ◌+◌, ◌≤◌}
use native.Mathlib.Decide.{ℕ_discrete}
use native.Mathlib.Omega.{arith}
use mathlib.Core.Path.{◌≡◌, refl, sym, ap, subst, ◌∙◌}
use mathlib.Core.Bool.{cond, ◌||◌}
use mathlib.Core.List.{List}
use borrow.Author.Tests.{ltb-false}
use lib.Dec.{eqb, leb, ltb}
use lib.ListN.{length, take, drop}
use Rattle.chains.proofs.Chains.{both_done, group_passes, group_refuses, passed, where_done, where_refused}
use Rattle.demands.proofs.RegisterBytes.{put_after, put_before, put_length, put_there, same_head, same_settings_lem}
use Rattle.demands.specs.Refusal.{SameBut}
use Rattle.register.proofs.Entering.{room}
use Rattle.reports.proofs.Taking.{after_refused}
use Rattle.rules.specs.Answers.{answer_of, station_after}
use Rattle.rules.specs.Aspect.{aspect_of}
use Rattle.rules.specs.Layout.{entry_at, entry_of, entry_start, header}
use Rattle.rules.specs.Register.{append_answer, appended, appended_bytes, new_entry, start_answer, started, unfit}
use Rattle.rules.specs.Station.{settings_answer}
use Rattle.rules.specs.Words.{put, ◌if◌then◌, ◌▷◌}
use Rattle.rules.specs.declared.Report.{Report}
use Rattle.rules.specs.declared.Settings.{Settings}
use Rattle.rules.specs.declared.Station.{Station}
use Rattle.rules.specs.declared.Taken.{Taken}

-- ---- starting

start_room : (c : Settings) (b : List ℕ) → start_answer c b ≡ 0 → 0 + length (header c) ≤ length b
unfolding start_answer header
start_room c b z = ltb-false (length b) 16 (passed 11 _ 0 (both_done (settings_answer c) _ z).1).0

start_writes : (c : Settings) (b : List ℕ) → start_answer c b ≡ 0 → started c b ≡ put 0 (header c) b
unfolding started
start_writes c b z = where_done (start_answer c b) (put 0 (header c) b) b z

-- Refused, it writes nothing.
pub start_refused : (c : Settings) (b : List ℕ) → (start_answer c b ≡ 0 → ⊥) → started c b ≡ b
unfolding started
start_refused c b z = where_refused (start_answer c b) (put 0 (header c) b) b z

-- Starting writes the header,
pub start_header : (c : Settings) (b : List ℕ) → start_answer c b ≡ 0 → take 16 (started c b) ≡ header c
unfolding header
start_header c b z = ap (take 16) (start_writes c b z) ∙ put_there 0 (header c) b (start_room c b z)

-- and touches no other byte.
pub start_elsewhere : (c : Settings) (b : List ℕ)
    → (drop 16 (started c b) ≡ drop 16 b) × (length (started c b) ≡ length b)
unfolding header
start_elsewhere c b = go (ℕ_discrete (start_answer c b) 0)
  where
    go : Dec (start_answer c b ≡ 0) → (drop 16 (started c b) ≡ drop 16 b) × (length (started c b) ≡ length b)
    go (yes z) = (
      ap (drop 16) (start_writes c b z) ∙ put_after 0 (header c) b (start_room c b z),
      ap length (start_writes c b z) ∙ put_length 0 (header c) b (start_room c b z),
    )
    go (no z) = (ap (drop 16) (start_refused c b z), ap length (start_refused c b z))

-- ---- appending

module _ (b : List ℕ) (k : ℕ) (s : Station) (r : Report) where
  append_room : append_answer b k s.settings ≡ 0 → entry_start k + length (new_entry s r) ≤ length b
  unfolding entry_of
  append_room z = omega (arith, (room b k s r (append_answer b k s.settings) refl z).1)

  append_writes : append_answer b k s.settings ≡ 0 → appended_bytes b k s r ≡ put (entry_start k) (new_entry s r) b
  unfolding appended_bytes
  append_writes z = where_done (append_answer b k s.settings) (put (entry_start k) (new_entry s r) b) b z

  -- With 9, 10, 8 or 12 the report is not applied, and nothing is written.
  pub append_refused : (append_answer b k s.settings ≡ 0 → ⊥)
      → (appended_bytes b k s r ≡ b)
      × ((appended b k s r).station ≡ s)
      × ((appended b k s r).answer ≡ append_answer b k s.settings)
  unfolding appended appended_bytes
  append_refused z =
      let answer = append_answer b k s.settings in (
        where_refused answer (put (entry_start k) (new_entry s r) b) b z,
        where_refused answer (station_after s r) s z,
        sym (group_refuses answer _ (answer_of s r) refl z),
      )

  -- otherwise it is applied,
  pub append_applies : append_answer b k s.settings ≡ 0
      → appended b k s r ≡ record { answer = answer_of s r; station = station_after s r }
  unfolding appended
  append_applies z =
      λ i.
      record {
        answer = sym (group_passes 0 (append_answer b k s.settings) _ (answer_of s r) (sym z) refl refl) i;
        station = where_done (append_answer b k s.settings) (station_after s r) s z i;
      }

  -- and entered
  pub append_enters : append_answer b k s.settings ≡ 0 → entry_at (appended_bytes b k s r) k ≡ new_entry s r
  unfolding entry_at entry_of
  append_enters z =
      ap (λ (l : List ℕ). take 8 (drop (entry_start k) l)) (append_writes z)
      ∙ put_there (entry_start k) (new_entry s r) b (append_room z)

  -- a report refused by 1 to 7 too, with its number, and the station stays.
  pub append_enters_refused : append_answer b k s.settings ≡ 0 → (answer_of s r ≡ 0 → ⊥)
      → ((appended b k s r).station ≡ s)
      × (entry_at (appended_bytes b k s r) k ≡ entry_of r (answer_of s r) (aspect_of s))
  append_enters_refused z n =
      let stays = after_refused s r n in (
        ap (λ (t : Taken). t.station) (append_applies z) ∙ stays,
        append_enters z ∙ ap (λ (t : Station). entry_of r (answer_of s r) (aspect_of t)) stays,
      )

  -- Appending at entry k writes those 8 bytes only.
  pub append_elsewhere : SameBut k (appended_bytes b k s r) b
  unfolding entry_of
  append_elsewhere = go (ℕ_discrete (append_answer b k s.settings) 0)
    where
      go : Dec (append_answer b k s.settings ≡ 0) → SameBut k (appended_bytes b k s r) b
      go (yes z) =
          let room = append_room z in
          let next : entry_start k + 8 ≡ entry_start (k + 1) = omega arith in (
            ap (take (entry_start k)) (append_writes z) ∙ put_before (entry_start k) (new_entry s r) b room,
            ap (drop (entry_start (k + 1))) (append_writes z)
                ∙ subst (λ (n : ℕ). drop n (put (entry_start k) (new_entry s r) b) ≡ drop n b) next
                (put_after (entry_start k) (new_entry s r) b room),
            ap length (append_writes z) ∙ put_length (entry_start k) (new_entry s r) b room,
          )
      go (no z) =
          let same = (append_refused z).0 in
          (ap (take (entry_start k)) same, ap (drop (entry_start (k + 1))) same, ap length same)

-- ---- Appending does not read earlier entries.

module _ (b b' : List ℕ) (k : ℕ) (s : Station) (r : Report) (e : take 16 b ≡ take 16 b')
    (l : length b ≡ length b') where
  same_answer : (c : Settings) → append_answer b k c ≡ append_answer b' k c
  unfolding append_answer
  same_answer c =
      λ i.
      same_head b b' e (ap (λ (n : ℕ). ltb n 16) l) i
      ▷ 8 if unfit (same_settings_lem b b' e i) c then
      12 if leb 8190 k || ltb (l i) (entry_start (k + 1)) then
      0

  pub append_apart : appended b k s r ≡ appended b' k s r
  unfolding appended
  append_apart =
      λ i.
      record {
        answer = same_answer s.settings i ▷ answer_of s r;
        station = cond (eqb (same_answer s.settings i) 0) (station_after s r) s;
      }

  pub append_entry_apart : append_answer b k s.settings ≡ 0
      → entry_at (appended_bytes b k s r) k ≡ entry_at (appended_bytes b' k s r) k
  append_entry_apart z = append_enters b k s r z ∙ sym (append_enters b' k s r (sym (same_answer s.settings) ∙ z))
