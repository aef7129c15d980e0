-- Document 01, "The matrix printer", and "Easy to get wrong": keeping rows that follow the live station. The
-- sheet of a register that was started and filled has a line for each report, with the zones, the outputs and the
-- answer as the rules give them after it.
-- Assumes nothing.
use Prim.Native.Nat.{ℕ, zero, suc, ◌≤◌}
use native.Mathlib.Omega.{arith}
use mathlib.Core.Path.{◌≡◌, refl, ap, ◌∙◌}
use mathlib.Core.Bool.{Bool, cond}
use mathlib.Core.List.{◌++◌}
use borrow.Author.Tests.{le-ltb}
use lib.ListN.{length}
use Rattle.chains.proofs.Chains.{where_done}
use Rattle.demands.proofs.ReadBack.{filled_entries, filled_entry, filled_length, read_back, replayed}
use Rattle.demands.proofs.RegisterBytes.{entry_report}
use Rattle.demands.specs.ReadBack.{Filling, Room, answer, aspect, lines, register}
use Rattle.rules.specs.Answers.{answer_of}
use Rattle.rules.specs.Aspect.{aspect_of}
use Rattle.rules.specs.Layout.{report_in}
use Rattle.rules.specs.Outputs.{outputs_of}
use Rattle.rules.specs.Printer.{printed, refusal_line, row_line, row_lines, sheet_of, title, zones_of}
use Rattle.rules.specs.Register.{read_of}
use Rattle.rules.specs.declared.Reading.{Reading}

module _ (f : Filling) (n : ℕ) (room : Room f n) where
  same_lines : (k : ℕ) → k ≤ n → row_lines (register f n) k ≡ lines f k
  unfolding row_lines lines
  same_lines zero h = refl
  same_lines (suc k) h =
      let after = replayed f n room (suc k) h in
      let before = replayed f n room k (omega arith) in
      let report = ap report_in (filled_entry f n room k h) ∙ entry_report (f.report k) (answer f k) (aspect f k) in
      λ i.
      same_lines k (omega arith) i
      ++ row_line
      (record {
        entry = suc k;
        zones = zones_of (after i);
        outputs = outputs_of (aspect_of (after i));
        answer = answer_of (before i) (report i);
      })

  pub sheet_back : printed (register f n) ≡ title ++ lines f n
  unfolding printed sheet_of
  sheet_back =
      let b = register f n in
      let done : (read_of b).answer ≡ 0 = ap (λ (r : Reading). r.answer) (read_back f n room).whole in
      ap (λ (t : Bool). cond t (refusal_line 12 0) (sheet_of b))
      (le-ltb 65536 (length b) (omega (arith, filled_length f n room, room.few)))
      ∙ where_done (read_of b).answer _ (refusal_line (read_of b).answer (read_of b).entry) done
      ∙ (λ i. title ++ row_lines b (filled_entries f n room i))
      ∙ ap (λ l. title ++ l) (same_lines n (omega arith))
