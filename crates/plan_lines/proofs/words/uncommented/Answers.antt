use Rattle.plan_lines.proofs.Counted.{counted}
use Rattle.plan_lines.proofs.Pieces.{up_to_comment}
use Rattle.plan_lines.specs.Leading.{not_hash}
use Rattle.std.proofs.Common.{rules, tests, ap, take, ◌∙◌}
use Rattle.std.proofs.lemmas.Iterator.{YieldsList-from_slice}
use Rattle.plan_lines.proofs.words.uncommented.Goals as goal

pub returns : goal.returns
returns c = let line = c.args.line.now in
    let count = counted _ not_hash c.count-count.ensures.ran (YieldsList-from_slice line cc)
    c.take_while.ensures.closure c.take_while.ensures.done (λ x b q k. search (rules, tests)) in
    ap (λ n. take n line) count ∙ up_to_comment line
