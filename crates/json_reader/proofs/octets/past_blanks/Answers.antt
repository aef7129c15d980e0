-- `past_blanks`: the run of blanks from each place passed ends where that from the first one does.
use mathlib.Core.Path.{ap, sym, ◌∙◌}
use native.Mathlib.Omega.{arith}
use Rattle.json_reader.proofs.Leading.{blanks_on, other_next}
use Rattle.rules_json.specs.Grammar.{blank}
use Rattle.json_reader.proofs.octets.past_blanks.Goals as goal

pub loop-past-preserved : goal.loop-past-preserved
loop-past-preserved c =
    omega (
      arith,
      c.loop-past.invariant,
      blanks_on c.loop-past.past c.args.text.now
          (ap blank (sym c.octet.ensures) ∙ sym c.is_blank.ensures ∙ c.loop-past-test.true),
    )

pub returns : goal.returns
returns c =
    other_next c.loop-past.past c.args.place c.args.text.now c.loop-past.invariant
    (ap blank (sym c.octet.ensures) ∙ sym c.is_blank.ensures ∙ c.loop-past-test.false) _ c.octet-2.ensures
