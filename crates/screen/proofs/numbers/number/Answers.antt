-- `number`: what begins with a digit ends within the text.
use Prim.Native.Nat.{◌≤◌}
use mathlib.Core.Path.{ap, sym, ◌∙◌}
use lib.ListN.{length}
use native.Mathlib.Omega.{arith}
use Rattle.rules_json.specs.Grammar.{digit}
use Rattle.screen.proofs.Counting.{number_ends}
use Rattle.screen.proofs.numbers.number.Goals as goal
use Rattle.screen.proofs.numbers.number.Goals.{In_ok-past}

ends : (c : In_ok-past) → (c.args.place ≤ c.in_ok-past.past) × (c.in_ok-past.past ≤ length c.args.text.now)
ends c =
    number_ends c.args.place c.args.text.now
    (ap digit (sym c.octet-first.ensures) ∙ sym c.is_ascii_digit.ensures.value ∙ c.if-not-is_ascii_digit.false) _
    c.in_ok-past.ensures

pub slice_bounds-number_in-count : goal.slice_bounds-number_in-count
slice_bounds-number_in-count c = (ends (goal.at.slice_bounds-number_in-count c).In_ok-past).0

pub slice_bounds-number_in-end : goal.slice_bounds-number_in-end
slice_bounds-number_in-end c = (ends (goal.at.slice_bounds-number_in-end c).In_ok-past).1

pub slice_bounds-number_in-start : goal.slice_bounds-number_in-start
slice_bounds-number_in-start c = omega (arith, ends (goal.at.slice_bounds-number_in-start c).In_ok-past)
