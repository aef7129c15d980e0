-- Places of a text: what stands past what was read. (Not for belief.)
use Rattle.std.specs.Prelude.{ℕ, ◌+◌, cond, List, Option, None, Some, drop, eqb}
use Rattle.json_reader.specs.declared.octets.Next.{Next}
use Rattle.json_reader.specs.declared.values.After.{After}
use Rattle.rules_json.specs.Reader.{at, blanks}

-- the next octet behind the blanks at a place, and its place
abbrev pub next_from : List ℕ → ℕ → Next
next_from text from =
    record { place = from + blanks (drop from text); octet = at text (from + blanks (drop from text)) }

-- what stands behind an item that ends at a place: the closing bracket, a comma and another item, or neither
unfoldable pub behind : List ℕ → ℕ → ℕ → Option After
behind text from close =
    cond (eqb (next_from text from).octet close) (Some (After.End ((next_from text from).place + 1)))
    (cond (eqb (next_from text from).octet 0x2C) (Some (After.Item (next_from text ((next_from text from).place + 1)))) None)
