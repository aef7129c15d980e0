-- Document 01, "The numbers it answers": reading, stepping and handing back are tested for 9, 10, 11, 12 and 8 alike;
-- 13 names the first entry whose answer or aspect is not what the replay gives; stepping looks for it among the first k
-- entries only. "Easy to get wrong": keeping rows that follow the live station; a row stepped back to does not follow
-- what came later, and is what was read when it was the last.
-- Assumes nothing.
use Prim.Native.Nat.{ℕ, zero, suc, ◌-◌, ◌/◌, ◌%◌, ◌≤◌}
use native.Mathlib.Omega.{arith}
use mathlib.Core.Path.{◌≡◌, refl, sym, ap, ◌∙◌}
use mathlib.Core.Bool.{Bool, cond, not}
use mathlib.Core.List.{List}
use borrow.Author.Tests.{eq-eqb, le-ltb, ltb-false}
use lib.Dec.{eqb, ltb}
use lib.ListN.{length, take}
use lib.Seq.{length-take-le, take-take}
use Rattle.chains.proofs.Chains.{both_done, group_refuses, neither, passed}
use Rattle.demands.proofs.RegisterBytes.{length_done, same_entry, same_first, same_head, same_settings_lem}
use Rattle.demands.proofs.Exactly.{in_its_case}
use Rattle.demands.proofs.Stated.{stated_reading, stated_stepping, wrong_named}
use Rattle.demands.specs.Stated.{of_reading, of_stepping}
use Rattle.register.proofs.FirstWrong.{Names, names_first}
use Rattle.rules.specs.Answers.{station_after}
use Rattle.rules.specs.Layout.{entries, entry_start, report_in}
use Rattle.rules.specs.Register.{after, as_replayed, entry_answer, first_wrong, head_answer, length_answer, read_answer}
use Rattle.rules.specs.Register.{read_of, reading_of, register_answer, replay_answer, step_answer, step_of}
use Rattle.rules.specs.Station.{fresh_station, least_settings, made, settings_answer}
use Rattle.rules.specs.Words.{◌if◌then◌, ◌▷◌}

-- ---- Reading: 9, 10, 11, 12, 8, 13. Handing back: 9, 10, 11, 12, 8, 14. Stepping: the same.

pub agree : (b : List ℕ) (k : ℕ) → (register_answer b ≡ 0 → ⊥)
    → (read_answer b ≡ register_answer b)
    × (step_answer b k ≡ register_answer b)
    × (entry_answer b k ≡ register_answer b)
unfolding read_answer step_answer entry_answer
agree b k h = (sym (first _), sym (first _), sym (first _))
  where
    first : (y : ℕ) → register_answer b ≡ (register_answer b ▷ y)
    first y = group_refuses (register_answer b) (register_answer b) y refl h

-- ---- 13 names the first such entry, counted from 1: of all in reading, of the first k in stepping

module _ (b : List ℕ) where
  named : (n answer : ℕ) → answer ≡ 13 → (reading_of b n answer).entry ≡ first_wrong b n
  unfolding reading_of
  named n answer e = ap (λ (t : Bool). cond t (first_wrong b n) 0) (eq-eqb answer 13 e)

  pub read_names : (j : ℕ) → (read_of b).answer ≡ 13 → (read_of b).entry ≡ suc j → Names b (entries b) j
  unfolding read_of reading_of
  read_names j e q = names_first b (entries b) j (sym (named (entries b) (read_answer b) e) ∙ q)

  pub step_names : (k j : ℕ) → (step_of b k).answer ≡ 13 → (step_of b k).entry ≡ suc j → Names b k j
  unfolding step_of reading_of
  step_names k j e q = names_first b k j (sym (named k (step_answer b k) e) ∙ q)

  -- and one is named
  pub read_names_one : (read_of b).answer ≡ 13 → (read_of b).entry ≡ 0 → ⊥
  unfolding read_of reading_of
  read_names_one e q =
      wrong_named b (entries b) (in_its_case (of_reading b) _ 13 (stated_reading b) e)
      (sym (named (entries b) (read_answer b) e) ∙ q)

  pub step_names_one : (k : ℕ) → (step_of b k).answer ≡ 13 → (step_of b k).entry ≡ 0 → ⊥
  unfolding step_of reading_of
  step_names_one k e q =
      wrong_named b k (in_its_case (of_stepping b k) _ 13 (stated_stepping b k) e)
      (sym (named k (step_answer b k) e) ∙ q)

-- ---- stepping to row k, from the header and the first k entries, and of the rest only its length

module _ (b b' : List ℕ) where
  after_apart : (k : ℕ) → take (entry_start k) b ≡ take (entry_start k) b' → after b k ≡ after b' k
  unfolding after
  after_apart zero e = λ i. (made (same_settings_lem b b' e i)).station
  after_apart (suc k) e =
      let before = same_first (entry_start k) (entry_start (suc k)) b b' (omega arith) e in
      λ i. station_after (after_apart k before i) (report_in
      (same_entry (entry_start (suc k)) k b b' e (omega arith) i))

  wrong_apart : (k : ℕ) → take (entry_start k) b ≡ take (entry_start k) b' → first_wrong b k ≡ first_wrong b' k
  unfolding first_wrong
  wrong_apart zero e = refl
  wrong_apart (suc k) e =
      let before = same_first (entry_start k) (entry_start (suc k)) b b' (omega arith) e in
      λ i.
      wrong_apart k before i
      ▷ suc k if not (as_replayed (same_entry (entry_start (suc k)) k b b' e (omega arith) i) (after_apart k before i))
      then 0

  module _ (k : ℕ) (e : take (entry_start k) b ≡ take (entry_start k) b') where
    -- where the registers are answered alike, and both have the row or neither
    step_from : register_answer b ≡ register_answer b' → ltb (entries b) k ≡ ltb (entries b') k →
        step_of b k ≡ step_of b' k
    unfolding step_of step_answer reading_of
    step_from first row =
        let answer : step_answer b k ≡ step_answer b' k =
        λ i. first i ▷ (14 if row i then 0) ▷ 13 if not (eqb (wrong_apart k e i) 0) then 0 in
        λ i.
        record {
          answer = answer i;
          entry = cond (eqb (answer i) 13) (wrong_apart k e i) 0;
          count = cond (eqb (answer i) 0) k 0;
          station = cond (eqb (answer i) 0) (after_apart k e i) (fresh_station least_settings);
        }

    register_apart : length b ≡ length b' → register_answer b ≡ register_answer b'
    unfolding register_answer length_answer
    register_apart l =
        let header = same_first 16 (entry_start k) b b' (omega arith) e in
        λ i.
        same_head b b' header (ap (λ (n : ℕ). ltb n 16) l) i
        ▷ (11 if not (eqb ((l i - 16) % 8) 0) then 12 if ltb 8190 ((l i - 16) / 8) then 0)
        ▷ settings_answer (same_settings_lem b b' header i)

    -- Registers of one length, refused ones too, that are the same up to the row
    pub step_apart : length b ≡ length b' → step_of b k ≡ step_of b' k
    step_apart l = step_from (register_apart l) (λ i. ltb ((l i - 16) / 8) k)

    -- and registers of any length that pass their tests and have the row, as one that has grown since.
    pub step_grown : register_answer b ≡ 0 → register_answer b' ≡ 0 → k ≤ entries b → k ≤ entries b'
        → step_of b k ≡ step_of b' k
    step_grown z z' h h' = step_from (z ∙ sym z') (le-ltb (entries b) k h ∙ sym (le-ltb (entries b') k h'))

-- Stepping to the last row is reading,
pub step_last : (b : List ℕ) → step_of b (entries b) ≡ read_of b
unfolding step_of read_of step_answer read_answer ◌if◌then◌ ◌▷◌
step_last b =
    ap (λ (t : Bool). reading_of b (entries b) (register_answer b ▷ (14 if t then 0) ▷ replay_answer b (entries b)))
    (le-ltb (entries b) (entries b) (omega arith))

-- and stepping to row k is reading the register as it was when row k was the last.
module _ (b : List ℕ) (k : ℕ) (z : register_answer b ≡ 0) (h : k ≤ entries b) where
  abbrev was : List ℕ
  was = take (entry_start k) b

  -- what register_answer has tested
  long_enough_lem : 16 ≤ length b
  unfolding register_answer head_answer
  long_enough_lem = ltb-false _ _ (neither (ltb (length b) 16) _ (passed 8 _ _ (both_done _ _ z).0).0).0

  few_enough : entries b ≤ 8190
  unfolding register_answer length_answer
  few_enough = ltb-false _ _ (passed 11 _ _ (passed 10 _ _ (both_done _ _ (both_done (head_answer b) _ z).1).0).1).0

  was_length : length was ≡ entry_start k
  was_length = length-take-le (entry_start k) b (omega (arith, long_enough_lem))

  was_done : register_answer was ≡ 0
  unfolding register_answer ◌▷◌
  was_done =
      let header : take 16 was ≡ take 16 b = take-take 16 (entry_start k) b (omega arith) in
      let (head, rest) = both_done (head_answer b) _ z in
      let size = le-ltb (length was) 16 (omega (arith, was_length)) ∙ sym (le-ltb (length b) 16 long_enough_lem) in
      λ i.
      (same_head was b header size ∙ head) i
      ▷ length_done was k was_length (omega (arith, few_enough)) i
      ▷ (ap settings_answer (same_settings_lem was b header) ∙ (both_done (length_answer b) _ rest).1) i

  pub step_is_reading : step_of b k ≡ read_of (take (entry_start k) b)
  step_is_reading =
      let last : entries was ≡ k = omega (arith, was_length) in
      step_grown b was k (sym (take-take (entry_start k) (entry_start k) b (omega arith))) z was_done h (omega arith)
      ∙ ap (step_of was) (sym last)
      ∙ step_last was
