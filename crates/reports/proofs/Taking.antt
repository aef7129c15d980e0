-- What is made of a report: the answer, and the station after it.
-- Assumes nothing.
use Prim.Native.Nat.{ℕ, ◌<◌}
use native.Mathlib.Omega.{arith}
use mathlib.Core.Path.{◌≡◌, ap}
use mathlib.Core.Bool.{Bool, cond}
use borrow.Author.Tests.{eq-eqb, ne_eqb}
use Rattle.chains.proofs.Chains.{group_below, test_below}
use Rattle.rules.specs.Answers.{answer_of, form_answer, place_answer, state_answer, station_after}
use Rattle.rules.specs.Kinds.{kind_of}
use Rattle.rules.specs.Reports.{acted}
use Rattle.rules.specs.Station.{settings_answer}
use Rattle.rules.specs.declared.Report.{Report}
use Rattle.rules.specs.declared.Station.{Station}

-- a kind is what its number means
pub meant : (s : Station) (r : Report) {k : ℕ} → r.kind ≡ k → acted (kind_of r.kind) s r ≡ acted (kind_of k) s r
meant s r e = ap (λ (n : ℕ). acted (kind_of n) s r) e

-- An accepted report does what it means; a refused one returns the old station.
pub after_accepted : (s : Station) (r : Report) → answer_of s r ≡ 0 → station_after s r ≡ acted (kind_of r.kind) s r
unfolding station_after
after_accepted s r e = ap (λ (b : Bool). cond b (acted (kind_of r.kind) s r) s) (eq-eqb (answer_of s r) 0 e)

pub after_refused : (s : Station) (r : Report) → (answer_of s r ≡ 0 → ⊥) → station_after s r ≡ s
unfolding station_after
after_refused s r e = ap (λ (b : Bool). cond b (acted (kind_of r.kind) s r) s) (ne_eqb (answer_of s r) 0 e)

-- a report's answer is 0 to 8
pub answer_below : (s : Station) (r : Report) → answer_of s r < 9
unfolding answer_of settings_answer form_answer place_answer state_answer
answer_below s r =
    group_below 9 _ _ (test_below 9 8 0 _ (omega arith) (omega arith))
    (group_below 9 _ _ (test_below 9 1 _ _ (omega arith) (test_below 9 2 0 _ (omega arith) (omega arith)))
    (group_below 9 _ _
    (test_below 9 3 _ _ (omega arith)
    (test_below 9 5 _ _ (omega arith) (test_below 9 4 0 _ (omega arith) (omega arith))))
    (test_below 9 6 _ _ (omega arith) (test_below 9 7 0 _ (omega arith) (omega arith)))))
