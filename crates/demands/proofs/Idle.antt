-- Document 01, "How firm each statement is": "Five idle versions have to be shut out. One that refuses
-- everything, and one that always shows aspect 5, break demand 2 at C2. One that keeps the station unchanged
-- breaks it at C2. One that follows the first report and then coasts breaks it at C3. A made-up number of entries
-- read breaks demand 2's reading back." Here are the five: four each at the row where it falls, and the made-up
-- number at two registers, of no entry and of one. Then demand 1's "Each number is given in its stated case
-- only": no answers to reports but ours are given so.
use Prim.Native.Nat.{ℕ, ◌≤◌}
use native.Mathlib.Omega.{arith}
use mathlib.Core.Path.{◌≡◌, refl, ap}
use lib.ListN.{replicate}
use Rattle.demands.proofs.Computed.{computed}
use Rattle.demands.proofs.Exactly.{only_one}
use Rattle.demands.proofs.Stated.{stated_report}
use Rattle.demands.specs.Idle.{AsTheTable, always_five, answers_done, coasts, island_first, keeps_station, refuses_all}
use Rattle.demands.specs.ReadBack.{Filling, ReadsBack, Room, made_up}
use Rattle.demands.specs.Stated.{of_taking}
use Rattle.rules.specs.Answers.{answer_of}
use Rattle.rules.specs.Station.{least_settings, made, within_limits}
use Rattle.rules.specs.declared.Reading.{Reading}
use Rattle.rules.specs.declared.Report.{Report}
use Rattle.rules.specs.declared.Station.{Station}
use Rattle.rules.specs.rows.Row.{first_wrong}
use Rattle.rules.specs.rows.Table.{table}

-- One that refuses everything breaks demand 2 at C2,
pub refuses_all_lem : first_wrong (table refuses_all) ≡ 2
unfolding computed
refuses_all_lem = refl

-- and so does one that always shows aspect 5.
pub always_five_lem : first_wrong (table always_five) ≡ 2
unfolding computed
always_five_lem = refl

-- One that keeps the station unchanged breaks it at C2.
pub keeps_station_lem : first_wrong (table keeps_station) ≡ 2
unfolding computed
keeps_station_lem = refl

-- One that follows the first report and then coasts breaks it at C3.
pub coasting : first_wrong (table coasts) ≡ 3
unfolding computed
coasting = refl

-- A made-up number of entries read breaks demand 2's reading back: a register may have none, and it may have one.
abbrev two_registers : Filling
two_registers =
    record {
      settings = least_settings;
      lent = replicate 24 0;
      report = λ n. record { kind = 7; a = 0; b = 0; spare = 0; value = 0 };
    }

has_room : (n : ℕ) → n ≤ 1 → Room two_registers n
unfolding within_limits
has_room n h = record { settings = refl; few = omega arith; lent = omega arith }

pub made_up_count : (count : ℕ) → ((f : Filling) (n : ℕ) → Room f n → ReadsBack (made_up count) f n) → ⊥
made_up_count count reads =
    let counted : (n : ℕ) → n ≤ 1 → count ≡ n =
    λ n h. ap (λ (r : Reading). r.count) (reads two_registers n (has_room n h)).whole in
    let none = counted 0 (omega arith) in
    let one = counted 1 (omega arith) in
    omega arith

-- ---- Whatever answers a report as the table says answers as we do.
pub only_ours_lem : (answer : Station → Report → ℕ) → AsTheTable answer → (s : Station) (r : Report)
    → answer s r ≡ answer_of s r
only_ours_lem answer table s r = only_one (of_taking s r) (answer s r) (answer_of s r) (table s r) (stated_report s r)

-- So one that answers 0 to everything does not: there is no kind 0.
pub answers_done_lem : AsTheTable answers_done → ⊥
unfolding computed
answers_done_lem table =
    let one : ◌≡◌ {A = ℕ} 0 1 =
    only_ours_lem answers_done table (made least_settings).station
    (record { kind = 0; a = 0; b = 0; spare = 0; value = 0 }) in
    omega arith

-- Nor does one that tests the island before the track. A station of one track has no track 1:
-- with island 5 the answer is 3, not 4.
pub island_first_lem : AsTheTable island_first → ⊥
unfolding computed
island_first_lem table =
    let three : ◌≡◌ {A = ℕ} 4 3 =
    only_ours_lem island_first table (made least_settings).station
    (record { kind = 1; a = 1; b = 5; spare = 0; value = 0 }) in
    omega arith
