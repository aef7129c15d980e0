-- `track`: before each turn the digits so far are gathered, and what is left gives the others.
use mathlib.Core.Path.{◌≡◌, sym, ◌∙◌}
use native.Mathlib.Omega.{arith}
use borrow.Author.Rules.{rules}
use Rattle.rules_json.specs.Reader.{at}
use Rattle.screen.proofs.Digits.{DigitRead, all_digits, digit_on, first_digit, no_digits, no_five, not_last}
use Rattle.screen.proofs.Digits.{other_digit, other_form, too_many_digits}
use Rattle.screen.proofs.tracks.track.Goals as goal
use Rattle.screen.proofs.tracks.track.Goals.{After-octet-2, After-octet-next}

pub returns-then-octet-ne91 : goal.returns-then-octet-ne91
returns-then-octet-ne91 c =
    no_five c.args.text.now c.args.at
    (other_form c.args.text.now c.args.at (λ e. c.if-octet-ne91.true (c.octet.ensures ∙ e)))

-- where the list was opened
is_list : (c : After-octet-2) → at c.args.text.now c.args.at ≡ 0x5B
is_list c = sym c.octet.ensures ∙ c.if-octet-ne91.false

pub returns-then-octet-eq93 : goal.returns-then-octet-eq93
returns-then-octet-eq93 c =
    no_five c.args.text.now c.args.at
    (no_digits c.args.text.now c.args.at (is_list (goal.at.returns-then-octet-eq93 c).After-octet-2) _ _
    c.blanks-place.ensures c.octet-2.ensures c.if-octet-eq93.true)

pub loop-count-init : goal.loop-count-init
loop-count-init c =
    first_digit c.args.text.now c.args.at (is_list (goal.at.loop-count-init c).After-octet-2) _ _
    c.blanks-place.ensures c.octet-2.ensures c.if-octet-eq93.false c.requires

pub returns-then-not-matches : goal.returns-then-not-matches
returns-then-not-matches c =
    no_five c.args.text.now c.args.at
    (other_digit c.loop-count.invariant (λ e. grind (arith, e, c.octet-found.ensures))
    (λ e. grind (arith, e, c.octet-found.ensures)))

read : (c : After-octet-next) → DigitRead c.args.text.now c.args.at c.loop-count.place c.loop-count.digits
    c.loop-count.count c.octet-found.result c.blanks-behind.result c.octet-next.result
read c =
    record {
      so_far = c.loop-count.invariant;
      found_is = c.octet-found.ensures;
      small = (search rules, search rules);
      less = c.loop-count-test.true;
      skips = c.blanks-behind.ensures;
      octet_is = c.octet-next.ensures;
    }

pub returns-then-count-eq4 : goal.returns-then-count-eq4
returns-then-count-eq4 c =
    all_digits (read (goal.at.returns-then-count-eq4 c).After-octet-next) c.if-next-eq93.true (omega arith)

pub returns-then-next-ne44 : goal.returns-then-next-ne44
returns-then-next-ne44 c =
    no_five c.args.text.now c.args.at
    (not_last (read (goal.at.returns-then-next-ne44 c).After-octet-next) c.if-next-ne44.true
    (λ b f. grind (arith, b, f)))

pub loop-count-preserved : goal.loop-count-preserved
loop-count-preserved c =
    digit_on (read (goal.at.loop-count-preserved c).After-octet-next) c.if-next-ne44.false
    c.blanks-place-in-loop-count.ensures

pub returns : goal.returns
returns c = no_five c.args.text.now c.args.at (too_many_digits c.loop-count.invariant c.loop-count-test.false)
