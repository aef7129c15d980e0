-- What falls from call to call: only the depth.
use Rattle.std.proofs.Common.{ℕ, ◌+◌, ◌-◌, ◌≡◌, drop, length}
use Rattle.rules_json.specs.Reader.{at, member_size, past, value_size}
use Rattle.json_reader.proofs.Bracketed.{Walking}
use Rattle.json_reader.proofs.values.+list_object_value_value_from.Given as goal

-- Each level of depth counts three: a value, the same by its octet, and a list or an object.
abbrev levels : ℕ → ℕ
levels deep = deep + deep + deep

abbrev pub decreases-list : goal.decreases-list
decreases-list l = levels l.deep

abbrev pub decreases-object : goal.decreases-object
decreases-object l = levels l.deep

abbrev pub decreases-value : goal.decreases-value
decreases-value l = levels l.deep + 2

abbrev pub decreases-value_from : goal.decreases-value_from
decreases-value_from l = levels l.deep + 1

abbrev pub invariant-list-loop-item : goal.invariant-list-loop-item
invariant-list-loop-item l =
    Walking 0x5D (value_size l.inside) l.text (past l.at (value_size l.deep (drop l.at l.text))) l.item.place
    × (l.item.octet ≡ at l.text l.item.place)

abbrev pub decreases-list-loop-item : goal.decreases-list-loop-item
decreases-list-loop-item l = length l.text - l.item.place

abbrev pub invariant-object-loop-item : goal.invariant-object-loop-item
invariant-object-loop-item l =
    Walking 0x7D (member_size (value_size l.inside)) l.text (past l.at (value_size l.deep (drop l.at l.text)))
    l.item.place

abbrev pub decreases-object-loop-item : goal.decreases-object-loop-item
decreases-object-loop-item l = length l.text - l.item.place
