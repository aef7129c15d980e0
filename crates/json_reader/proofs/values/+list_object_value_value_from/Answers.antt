-- The cycle of calls {list, object, value, value_from}: `value_from` goes by the octet at its place.
use Rattle.std.proofs.Common.{ap, arith, refl, sym, ◌∙◌}
use Rattle.std.specs.Prelude.{Some}
use Rattle.json_reader.proofs.Bracketed.{no_item, over}
use Rattle.rules_json.specs.Reader.{past, value_size}
use Rattle.json_reader.proofs.Nested.{list_value, member, no_list, no_name, no_object, object_value}
use Rattle.json_reader.proofs.Nested.{scalar_value}
use Rattle.json_reader.proofs.Walked.{another, ended, first_inside, neither, none_inside, octet_is}
use Rattle.json_reader.proofs.values.+list_object_value_value_from.Goals as goal

pub value_from-returns-in_default : goal.value_from-returns-in_default
value_from-returns-in_default t c =
    c.scalar.ensures
    ∙ ap (past c.args.first.place)
    (sym (scalar_value c.args.text.now c.args.first.place c.args.deep (λ e. omega arith) (λ e. omega arith)))

-- ---- `list`: item by item, where an item is a value

pub list-returns-in_err-inside : goal.list-returns-in_err-inside
list-returns-in_err-inside t c =
    c.from_residual.ensures ∙ no_list c.args.text.now c.args.at c.args.deep c.in_err-inside.ensures c.requires

pub list-returns-then-item-eq93 : goal.list-returns-then-item-eq93
list-returns-then-item-eq93 t c =
    none_inside _ _ _ _ _ c.past_blanks-item.ensures _ (list_value c.args.text.now c.args.at _ _
    c.in_ok-inside.ensures c.requires)
    c.if-item-eq93.true

pub list-loop-item-init : goal.list-loop-item-init
list-loop-item-init t c = (
  first_inside _ _ _ _ _ c.past_blanks-item.ensures _ (list_value c.args.text.now c.args.at _ _
      c.in_ok-inside.ensures c.requires) refl
      c.if-item-eq93.false,
  octet_is _ _ _ c.past_blanks-item.ensures,
)

pub list-returns-in_err-past : goal.list-returns-in_err-past
list-returns-in_err-past t c =
    c.from_residual-in_err-past.ensures ∙ no_item c.loop-item.invariant.0 c.in_err-past.ensures

pub list-returns-in_err-next : goal.list-returns-in_err-next
list-returns-in_err-next t c =
    c.from_residual-in_err-next.ensures
    ∙ neither _ _ _ c.loop-item.invariant.0 c.in_ok-past.ensures c.in_err-next.ensures

pub list-loop-item-smaller : goal.list-loop-item-smaller
list-loop-item-smaller t c =
    omega (
      arith,
      another _ _ _ c.loop-item.invariant.0 c.in_ok-past.ensures _ (ap Some (sym c.in-Item.is) ∙ c.in_ok-next.ensures),
    )

pub list-loop-item-preserved : goal.list-loop-item-preserved
list-loop-item-preserved t c =
    let next =
    another _ _ _ c.loop-item.invariant.0 c.in_ok-past.ensures _
    (ap Some (sym c.in-Item.is) ∙ c.in_ok-next.ensures) in
    (next.0, next.1)

pub list-returns-in-End : goal.list-returns-in-End
list-returns-in-End t c =
    ended _ _ _ c.loop-item.invariant.0 c.in_ok-past.ensures _ (ap Some (sym c.in-End.is) ∙ c.in_ok-next.ensures)

pub list-returns : goal.list-returns
list-returns t c = over c.loop-item.invariant.0 c.loop-item-test.false

-- ---- `object`: item by item, where an item is a name and a value

pub object-returns-in_err-inside : goal.object-returns-in_err-inside
object-returns-in_err-inside t c =
    c.from_residual.ensures ∙ no_object c.args.text.now c.args.at c.args.deep c.in_err-inside.ensures c.requires

pub object-returns-then-item-eq125 : goal.object-returns-then-item-eq125
object-returns-then-item-eq125 t c =
    none_inside _ _ _ _ _ c.past_blanks-item.ensures _ (object_value c.args.text.now c.args.at _ _
    c.in_ok-inside.ensures c.requires)
    c.if-item-eq125.true

pub object-loop-item-init : goal.object-loop-item-init
object-loop-item-init t c =
    first_inside _ _ _ _ _ c.past_blanks-item.ensures _ (object_value c.args.text.now c.args.at _ _
    c.in_ok-inside.ensures c.requires) refl
    c.if-item-eq125.false

pub object-returns-in_err-inner : goal.object-returns-in_err-inner
object-returns-in_err-inner t c =
    c.from_residual-in_err-inner.ensures
    ∙ no_item c.loop-item.invariant (no_name (value_size c.in_ok-inside.inside) _ _ c.in_err-inner.ensures)

pub object-returns-in_err-past : goal.object-returns-in_err-past
object-returns-in_err-past t c =
    c.from_residual-in_err-past.ensures
    ∙ no_item c.loop-item.invariant (c.in_err-past.ensures ∙ member (value_size c.in_ok-inside.inside) _ _ _
    c.in_ok-inner.ensures)

pub object-returns-in_err-next : goal.object-returns-in_err-next
object-returns-in_err-next t c =
    c.from_residual-in_err-next.ensures
    ∙ neither _ _ _ c.loop-item.invariant
    (c.in_ok-past.ensures ∙ member (value_size c.in_ok-inside.inside) _ _ _ c.in_ok-inner.ensures)
    c.in_err-next.ensures

pub object-loop-item-smaller : goal.object-loop-item-smaller
object-loop-item-smaller t c =
    omega (
      arith,
      another _ _ _ c.loop-item.invariant
          (c.in_ok-past.ensures ∙ member (value_size c.in_ok-inside.inside) _ _ _ c.in_ok-inner.ensures) _
          (ap Some (sym c.in-Item.is) ∙ c.in_ok-next.ensures),
    )

pub object-loop-item-preserved : goal.object-loop-item-preserved
object-loop-item-preserved t c =
    (another _ _ _ c.loop-item.invariant
    (c.in_ok-past.ensures ∙ member (value_size c.in_ok-inside.inside) _ _ _ c.in_ok-inner.ensures) _
    (ap Some (sym c.in-Item.is) ∙ c.in_ok-next.ensures)).0

pub object-returns-in-End : goal.object-returns-in-End
object-returns-in-End t c =
    ended _ _ _ c.loop-item.invariant
    (c.in_ok-past.ensures ∙ member (value_size c.in_ok-inside.inside) _ _ _ c.in_ok-inner.ensures) _
    (ap Some (sym c.in-End.is) ∙ c.in_ok-next.ensures)

pub object-returns : goal.object-returns
object-returns t c = over c.loop-item.invariant c.loop-item-test.false
