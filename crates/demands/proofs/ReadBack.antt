-- Document 01, "The register": "Reading .. gives the rows back when they were appended at 0, 1, 2 and on, from a
-- fresh station, each with the station the last one returned, and exactly the filled bytes are read." And demand 2:
-- "A register that we start and fill reads back to the same rows, and stepping back to any row gives the station as
-- it was after that row."
-- Assumes nothing.
use Prim.Native.Nat.{ℕ, zero, suc, ◌+◌, ◌-◌, ◌≤◌, ◌<◌}
use native.Mathlib.Omega.{arith}
use mathlib.Core.Path.{◌≡◌, refl, sym, ap, ◌∙◌}
use mathlib.Core.Bool.{Bool, true, cond, not, ◌&&◌, ◌||◌}
use mathlib.Core.List.{List, []}
use borrow.Author.Tests.{eq-eqb, le-ltb, lt-leb, ne_eqb}
use lib.Dec.{eqb, leb, ltb}
use lib.ListN.{length, take}
use lib.Seq.{length-take-le, take-take}
use Rattle.demands.proofs.ApartTracks.{settings_stay}
use Rattle.demands.proofs.RegisterBytes.{begun_head, begun_settings, entry_answer_lem, entry_aspect, entry_report}
use Rattle.demands.proofs.RegisterBytes.{first_entry, length_done, same_entry, same_first}
use Rattle.demands.proofs.RegisterLaws.{append_applies, append_elsewhere, append_enters}
use Rattle.demands.proofs.RegisterLaws.{start_elsewhere, start_header}
use Rattle.demands.specs.ReadBack.{Appends, Filling, ReadsBack, Room, answer, aspect}
use Rattle.demands.specs.ReadBack.{filled, ours, register, station, wholly}
use Rattle.register.proofs.FirstWrong.{below_next, right}
use Rattle.rules.specs.Answers.{answer_of, station_after}
use Rattle.rules.specs.Aspect.{aspect_of}
use Rattle.rules.specs.Layout.{entries, entry_at, entry_of, entry_start, header, report_in, settings_in}
use Rattle.rules.specs.Register.{after, append_answer, as_replayed, entry_answer, first_wrong, handed_back}
use Rattle.rules.specs.Register.{head_answer, new_entry, read_answer, read_of, reading_of, register_answer}
use Rattle.rules.specs.Register.{same_settings, start_answer, step_answer, step_of, unfit}
use Rattle.rules.specs.Station.{fresh_station, least_settings, made, settings_answer, within_limits}
use Rattle.rules.specs.Words.{◌if◌then◌, ◌▷◌}
use Rattle.rules.specs.declared.Report.{Report}
use Rattle.rules.specs.declared.Settings.{Settings}
use Rattle.rules.specs.declared.Station.{Station}
use Rattle.rules.specs.declared.Taken.{Taken}

-- ---- settings within their limits are refused by nobody

settings_done : (c : Settings) → within_limits c ≡ true → settings_answer c ≡ 0
unfolding settings_answer ◌if◌then◌
settings_done c w = ap (λ (t : Bool). cond (not t) 8 0) w

start_done : (c : Settings) (b : List ℕ) → within_limits c ≡ true → 16 ≤ length b → start_answer c b ≡ 0
unfolding start_answer ◌if◌then◌ ◌▷◌
start_done c b w h = λ i. settings_done c w i ▷ 12 if le-ltb (length b) 16 h i then 0

same_self : (c : Settings) → same_settings c c ≡ true
same_self c =
    λ i.
    same c.tracks i && same c.t1 i && same c.t2 i && same c.t3 i && same c.t4 i && same c.t5 i
  where
    same : (n : ℕ) → eqb n n ≡ true
    same n = eq-eqb n n refl

append_done : (b : List ℕ) (k : ℕ) (c : Settings)
    → within_limits c ≡ true
    → head_answer b ≡ 0
    → settings_in b ≡ c
    → k < 8190
    → entry_start (suc k) ≤ length b
    → append_answer b k c ≡ 0
unfolding append_answer ◌if◌then◌ ◌▷◌
append_done b k c w h e few room =
    (λ i. h i ▷ 8 if unfit (e i) c then 12 if leb 8190 k || ltb (length b) (entry_start (k + 1)) then 0)
    ∙ λ i.
    0 ▷ 8 if not (w i) || not (w i) || not (same_self c i) then
    12 if lt-leb 8190 k few i || le-ltb (length b) (entry_start (k + 1)) (omega arith) i then
    0

-- ---- the settings stay

made_settings : (c : Settings) → within_limits c ≡ true → (made c).station.settings ≡ c
unfolding made fresh_station
made_settings c w = ap (λ (n : ℕ). cond (eqb n 0) c least_settings) (settings_done c w)

station_settings : (f : Filling) (n : ℕ) → within_limits f.settings ≡ true → (station f n).settings ≡ f.settings
unfolding station
station_settings f zero w = made_settings f.settings w
station_settings f (suc n) w = settings_stay (station f n) (f.report n) ∙ station_settings f n w

-- ---- a new entry is as replayed

new_right : (s : Station) (r : Report) → as_replayed (new_entry s r) s ≡ true
new_right s r =
    let n = answer_of s r in
    let shown = aspect_of (station_after s r) in
    let same = entry_report r n shown in
    (λ i. eqb (entry_answer_lem r n shown i) (answer_of s (same i))
    && eqb (entry_aspect r n shown i) (aspect_of (station_after s (same i))))
    ∙ λ i. eq-eqb n n refl i && eq-eqb shown shown refl i

-- ---- what is kept while the register is filled

record Kept (f : Filling) (n : ℕ) : Type 0 where
  station : (filled f n).station ≡ station f n
  size : length (filled f n).bytes ≡ length f.lent
  head : take 16 (filled f n).bytes ≡ header f.settings
  entry : (j : ℕ) → j < n → entry_at (filled f n).bytes j ≡ entry_of (f.report j) (answer f j) (aspect f j)

can_append : (f : Filling) (n : ℕ) → Kept f n → Room f (suc n)
    → append_answer (filled f n).bytes n (filled f n).station.settings ≡ 0
can_append f n k room =
    let b = (filled f n).bytes in
    let c = f.settings in
    let lent : entry_start (suc n) ≤ length b = omega (arith, k.size, room.lent) in
    ap (λ (s : Station). append_answer b n s.settings) k.station
    ∙ ap (append_answer b n) (station_settings f n room.settings)
    ∙ append_done b n c room.settings (begun_head c b k.head (omega arith))
    (begun_settings c b k.head) room.few lent

earlier : (f : Filling) (n k : ℕ) → Room f n → k ≤ n → Room f k
earlier f n k room h =
    record { settings = room.settings; few = omega (arith, room.few); lent = omega (arith, room.lent) }

keeps : (f : Filling) (n : ℕ) → Kept f n → Room f (suc n) → Kept f (suc n)
unfolding filled station
keeps f n k room =
    let b = (filled f n).bytes in
    let s = (filled f n).station in
    let r = f.report n in
    let z = can_append f n k room in
    let elsewhere = append_elsewhere b n s r in
    record {
      station = ap (λ (t : Taken). t.station) (append_applies b n s r z)
          ∙ ap (λ (t : Station). station_after t r) k.station;
      size = elsewhere.2 ∙ k.size;
      head = same_first 16 (entry_start n) _ b (omega arith) elsewhere.0 ∙ k.head;
      entry =
          below_next _ n (λ j h. same_entry (entry_start n) j _ b elsewhere.0 (omega arith) ∙ k.entry j h)
          (append_enters b n s r z ∙ ap (λ (t : Station). new_entry t r) k.station);
    }

kept : (f : Filling) (n : ℕ) → Room f n → Kept f n
unfolding filled station
kept f zero room =
    let z = start_done f.settings f.lent room.settings room.lent in
    record {
      station = refl;
      size = (start_elsewhere f.settings f.lent).1;
      head = start_header f.settings f.lent z;
      entry = λ j h. let no : ⊥ = omega arith in absurd no;
    }
kept f (suc n) room =
    keeps f n (kept f n (earlier f (suc n) n room (omega arith))) room

-- Appending answers, and returns, what the rules do.
pub appends : (f : Filling) (n : ℕ) → Room f (suc n) → Appends f n
unfolding station
appends f n room =
    let k = kept f n (earlier f (suc n) n room (omega arith)) in
    record {
      taken =
          append_applies (filled f n).bytes n (filled f n).station (f.report n) (can_append f n k room)
          ∙ λ i. record {
            answer = answer_of (k.station i) (f.report n);
            station = station_after (k.station i) (f.report n);
          };
    }

-- ---- the filled bytes, read

module _ (f : Filling) (n : ℕ) (room : Room f n) where
  pub filled_length : length (register f n) ≡ entry_start n
  filled_length =
      let size = (kept f n room).size in
      length-take-le (entry_start n) (filled f n).bytes (omega (arith, room.lent))

  filled_head : take 16 (register f n) ≡ header f.settings
  filled_head = take-take 16 (entry_start n) (filled f n).bytes (omega arith) ∙ (kept f n room).head

  pub filled_entry : (j : ℕ) → j < n → entry_at (register f n) j ≡ entry_of (f.report j) (answer f j) (aspect f j)
  filled_entry j h = first_entry (entry_start n) j (filled f n).bytes (omega arith) ∙ (kept f n room).entry j h

  pub filled_entries : entries (register f n) ≡ n
  filled_entries = omega (arith, filled_length)

  filled_settings : settings_in (register f n) ≡ f.settings
  filled_settings = begun_settings f.settings (register f n) filled_head

  register_done : register_answer (register f n) ≡ 0
  unfolding register_answer ◌▷◌
  register_done =
      λ i.
      begun_head f.settings (register f n) filled_head (omega (arith, filled_length)) i
      ▷ length_done (register f n) n filled_length room.few i
      ▷ (ap settings_answer filled_settings ∙ settings_done f.settings room.settings) i

  pub replayed : (k : ℕ) → k ≤ n → after (register f n) k ≡ station f k
  unfolding after station
  replayed zero h = ap (λ (c : Settings). (made c).station) filled_settings
  replayed (suc k) h =
      λ i. station_after (replayed k (omega arith) i)
      ((ap report_in (filled_entry k h) ∙ entry_report (f.report k) (answer f k) (aspect f k)) i)

  -- each entry's answer and aspect are what the replay gives
  entry_right : (k : ℕ) → k < n → right (register f n) k ≡ true
  unfolding station
  entry_right k h =
      (λ i. as_replayed (filled_entry k h i) (replayed k (omega arith) i)) ∙ new_right (station f k) (f.report k)

  none_named : (k : ℕ) → k ≤ n → first_wrong (register f n) k ≡ 0
  unfolding first_wrong ◌if◌then◌ ◌▷◌
  none_named zero h = refl
  none_named (suc k) h = λ i. none_named k (omega arith) i ▷ suc k if not (entry_right k h i) then 0

  -- the first k entries, answered 0
  reading : (k : ℕ) → k ≤ n → reading_of (register f n) k 0 ≡ wholly k (station f k)
  unfolding reading_of
  reading k h = λ i. record { answer = 0; entry = 0; count = k; station = replayed k h i }

  read_done : read_answer (register f n) ≡ 0
  unfolding read_answer ◌if◌then◌ ◌▷◌
  read_done =
      λ i. register_done i
      ▷ 13 if not (eqb (none_named (entries (register f n)) (omega (arith, filled_entries)) i) 0) then 0

  read_whole : read_of (register f n) ≡ wholly n (station f n)
  unfolding read_of
  read_whole = (λ i. reading_of (register f n) (filled_entries i) (read_done i)) ∙ reading n (omega arith)

  step_done : (k : ℕ) → k ≤ n → step_answer (register f n) k ≡ 0
  unfolding step_answer ◌if◌then◌ ◌▷◌
  step_done k h =
      λ i.
      register_done i
      ▷ (14 if le-ltb (entries (register f n)) k (omega (arith, filled_entries)) i then 0)
      ▷ 13 if not (eqb (none_named k h i) 0) then 0

  read_step : (k : ℕ) → k ≤ n → step_of (register f n) k ≡ wholly k (station f k)
  unfolding step_of
  read_step k h = ap (reading_of (register f n) k) (step_done k h) ∙ reading k h

  entry_done : (k : ℕ) → k < n → entry_answer (register f n) (suc k) ≡ 0
  unfolding entry_answer ◌if◌then◌ ◌▷◌
  entry_done k h =
      λ i.
      register_done i
      ▷ 14 if ne_eqb (suc k) 0 (omega arith) i
      || le-ltb (entries (register f n)) (suc k) (omega (arith, filled_entries)) i then
      0

  read_entry : (k : ℕ) → k < n → handed_back (register f n) (suc k) ≡ entry_of (f.report k) (answer f k) (aspect f k)
  unfolding handed_back
  read_entry k h =
      let before : suc k - 1 ≡ k = omega arith in
      (λ i. cond (eqb (entry_done k h i) 0) (entry_at (register f n) (before i)) []) ∙ filled_entry k h

pub read_back : (f : Filling) (n : ℕ) → Room f n → ReadsBack ours f n
read_back f n room = record { whole = read_whole f n room; steps = read_step f n room; entries = read_entry f n room }

-- Stepping to row k after n reports is reading after k reports.
pub step_then : (f : Filling) (n k : ℕ) → Room f n → k ≤ n → step_of (register f n) k ≡ read_of (register f k)
step_then f n k room h = read_step f n room k h ∙ sym (read_whole f k (earlier f n k room h))
