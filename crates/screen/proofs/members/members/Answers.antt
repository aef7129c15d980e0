-- `members`: before each member, where the object ends and what was found are told by what is left.
use mathlib.Core.Path.{ap, subst, sym, ◌∙◌}
use native.Mathlib.Omega.{arith}
use Rattle.std.specs.Prelude.{Some}
use Rattle.screen.proofs.Seeking.{MemberRead, broken, member_on, members_over, nameless, object_begins}
use Rattle.screen.proofs.Seeking.{object_empty, object_ends, string_there, valueless}
use Rattle.screen.specs.Places.{Outermost}
use Rattle.screen.proofs.members.members.Goals as goal
use Rattle.screen.proofs.members.members.Goals.{After-behind_member}

pub returns-then-octet-eq125 : goal.returns-then-octet-eq125
returns-then-octet-eq125 c =
    object_empty c.args.text.now c.args.at c.requires _ _ c.blanks-place.ensures c.octet.ensures c.if-octet-eq125.true
    c.default-ours.result c.default-ours.ensures

pub loop-place-init : goal.loop-place-init
loop-place-init c =
    object_begins c.args.text.now c.args.at c.requires _ _ c.blanks-place.ensures c.octet.ensures
    c.if-octet-eq125.false c.default-ours.result c.default-ours.ensures

pub returns-in_err-inner : goal.returns-in_err-inner
returns-in_err-inner c =
    subst (Outermost c.args.text.now c.args.at) (sym c.from_residual.ensures)
    (nameless c.loop-place.invariant c.in_err-inner.ensures)

pub returns-in_err-past : goal.returns-in_err-past
returns-in_err-past c =
    subst (Outermost c.args.text.now c.args.at) (sym c.from_residual-in_err-past.ensures)
    (valueless c.loop-place.invariant c.in_ok-inner.ensures c.in_err-past.ensures)

pub with_member-ours-requires : goal.with_member-ours-requires
with_member-ours-requires c = string_there _ _ c.in_ok-inner.ensures

read : (c : After-behind_member) → MemberRead c.args.text.now c.args.at c.loop-place.place c.loop-place.ours
    c.with_member-ours.result c.in_ok-past.past
read c =
    record {
      so_far = c.loop-place.invariant;
      inner = c.in_ok-inner.inner;
      named = c.in_ok-inner.ensures;
      valued = c.in_ok-past.ensures;
      found = c.with_member-ours.ensures;
    }

pub returns-in_err-next : goal.returns-in_err-next
returns-in_err-next c =
    subst (Outermost c.args.text.now c.args.at) (sym c.from_residual-in_err-next.ensures)
    (broken (read (goal.at.returns-in_err-next c).After-behind_member) c.in_err-next.ensures)

pub loop-place-smaller : goal.loop-place-smaller
loop-place-smaller c =
    omega (
      arith,
      (member_on (read (goal.at.loop-place-smaller c).After-behind_member) _ (ap Some (sym c.in-Item.is)
          ∙ c.in_ok-next.ensures)).1,
    )

pub loop-place-preserved : goal.loop-place-preserved
loop-place-preserved c =
    (member_on (read (goal.at.loop-place-preserved c).After-behind_member) _ (ap Some (sym c.in-Item.is)
    ∙ c.in_ok-next.ensures)).0

pub returns-in-End : goal.returns-in-End
returns-in-End c =
    object_ends (read (goal.at.returns-in-End c).After-behind_member)
    (ap Some (sym c.in-End.is) ∙ c.in_ok-next.ensures)

pub returns : goal.returns
returns c = members_over c.loop-place.invariant c.loop-place-test.false
