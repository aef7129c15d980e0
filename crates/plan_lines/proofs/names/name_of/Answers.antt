-- `name_of`: the first name that is the word, or none.
use mathlib.Core.Path.{◌∙◌}
use Rattle.plan_lines.proofs.Naming.{found, name_from, not_found, searched_on}
use Rattle.plan_lines.specs.Names.{number_among}
use Rattle.plan_lines.proofs.names.name_of.Goals as goal

pub returns-then-eq_ignore_ascii_case : goal.returns-then-eq_ignore_ascii_case
unfolding number_among
returns-then-eq_ignore_ascii_case c =
    found _ c.args.word.now _ c.loop-name.invariant c.loop-name-test.true _ _ c.eq_ignore_ascii_case.ensures.test
    c.if-eq_ignore_ascii_case.true ∙ name_from c.args.word.now

pub loop-name-preserved : goal.loop-name-preserved
loop-name-preserved c = searched_on _ c.args.word.now _ c.loop-name.invariant c.loop-name-test.true _ _
    c.eq_ignore_ascii_case.ensures.test c.if-eq_ignore_ascii_case.false

pub returns : goal.returns
unfolding number_among
returns c = not_found _ c.args.word.now _ c.loop-name.invariant c.loop-name-test.false ∙ name_from c.args.word.now
