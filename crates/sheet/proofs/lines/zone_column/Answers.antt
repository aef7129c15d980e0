-- `zone_column`: a digit for each of the five zones.
use Rattle.std.proofs.Common.{◌++◌, ◌≡◌, ◌∙◌, ap, length, not, nat_eq, rules, sym, ℕ}
use Rattle.islands.proofs.Listed.{listed}
use Rattle.rules.specs.Printer.{space, zero_or_one}
use Rattle.text.proofs.Mapped.{mapped}
use Rattle.sheet.proofs.lines.zone_column.Goals as goal
use Rattle.sheet.proofs.lines.zone_column.Goals.{After-map}

abbrev digit : ℕ → ℕ
digit zone = zero_or_one (not (nat_eq zone 0))

five : (c : After-map) → length c.args.zones ≡ 5
five c = search rules

pub returns : goal.returns
returns c = let zones = c.args.zones in
    ap (λ l. space ++ l ++ space)
    (sym (listed 0 c.map.result 5 c.map.ensures.items.long)
    ∙ mapped digit 0 zones c.map.result 5 (five c) c.map.ensures.items.long
    (λ k d h. let each = c.map.ensures.items.at k 0 d h in search rules))
