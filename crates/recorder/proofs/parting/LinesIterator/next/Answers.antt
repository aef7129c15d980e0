-- `next`: the bytes before the first line feed, and then what is behind it.
use Rattle.recorder.proofs.LineByLine.{first_line, no_lines}
use Rattle.recorder.proofs.parting.LinesIterator.next.Goals as goal
use Rattle.std.proofs.Common.{ap, arith, length}
use Rattle.std.proofs.lemmas.Bool.Decides.{nat_tests}

pub returns-then-is_empty-clause-steps : goal.returns-then-is_empty-clause-steps
returns-then-is_empty-clause-steps c =
    let none = no_lines c.args.self.now.text.now (grind (arith, nat_tests)) in (none, none)

pub returns-clause-steps : goal.returns-clause-steps
returns-clause-steps c = first_line c.args.self.now.text.now _ _ _ _ _ (λ z. grind (arith, nat_tests))
    c.before_line_feed.ensures.value c.split_at.ensures.front c.split_at.ensures.back
    c.min.ensures c.split_at-2.ensures.back

pub returns-clause-goes : goal.returns-clause-goes
returns-clause-goes c =
    let e = first_line c.args.self.now.text.now _ _ _ _ _ (λ z. grind (arith, nat_tests))
    c.before_line_feed.ensures.value c.split_at.ensures.front c.split_at.ensures.back
    c.min.ensures c.split_at-2.ensures.back in
    record { on = λ _. (tt, tt, omega (arith, ap length e)); keeps = tt; rests = λ _. tt }
