-- `next`: past the blanks, and then past the word.
use Rattle.plan_lines.proofs.Counted.{counted}
use Rattle.plan_lines.proofs.Worded.{words_first, words_none}
use Rattle.plan_lines.specs.Leading.{not_blank}
use Rattle.rules_plan.specs.Words.{blank, words}
use Rattle.std.proofs.Common.{◌≡◌, false, ◌∷◌, ap, arith, drop, length, rules, tests}
use Rattle.std.proofs.lemmas.Iterator.{YieldsList-from_slice}
use Rattle.std.proofs.lemmas.Bool.Decides.{nat_tests}
use Rattle.std.specs.List.{prefix_len}
use Rattle.plan_lines.proofs.words.WordsIterator.next.Goals as goal
use Rattle.plan_lines.proofs.words.WordsIterator.next.Goals.{After-is_empty}

module _ (c : After-is_empty) where
  blanks : c.count-blanks.result ≡ prefix_len blank c.args.self.now.line.now
  blanks = counted _ blank c.count-blanks.ensures.ran (YieldsList-from_slice c.args.self.now.line.now cc)
      c.take_while.ensures.closure c.take_while.ensures.done (λ x b q k. search (rules, tests))

  size : c.count-length.result ≡ prefix_len not_blank (drop c.count-blanks.result c.args.self.now.line.now)
  size = counted _ not_blank c.count-length.ensures.ran
      (YieldsList-from_slice (drop c.count-blanks.result c.args.self.now.line.now) cc)
      c.take_while-2.ensures.closure c.take_while-2.ensures.done (λ x b q k. search (rules, tests))

  first : c.is_empty.result ≡ false
      → words c.args.self.now.line.now ≡ c.split_at-2.result.0.now ∷ words c.split_at-2.result.1.now
  first e = words_first c.args.self.now.line.now _ _ blanks size _ _ (cc) (cc) c.split_at-2.ensures.front_len
      (λ z. grind (arith, nat_tests))

pub returns-then-is_empty-clause-steps : goal.returns-then-is_empty-clause-steps
returns-then-is_empty-clause-steps c = let d = (goal.at.returns-then-is_empty-clause-steps c).After-is_empty in
    words_none c.args.self.now.line.now _ _ (blanks d) (size d) _ _ (cc) (cc) c.split_at-2.ensures.front_len
    (grind (arith, nat_tests))

pub returns-else-is_empty-clause-steps : goal.returns-else-is_empty-clause-steps
returns-else-is_empty-clause-steps c =
    first (goal.at.returns-else-is_empty-clause-steps c).After-is_empty c.if-is_empty.false

pub returns-else-is_empty-clause-goes : goal.returns-else-is_empty-clause-goes
returns-else-is_empty-clause-goes c =
    let e = first (goal.at.returns-else-is_empty-clause-goes c).After-is_empty c.if-is_empty.false in
    record { on = λ _. (tt, tt, omega (arith, ap length e)); keeps = tt; rests = λ _. tt }
