-- `track_digits`: island by island.
use Rattle.std.proofs.Common.{◌≡◌, ◌∙◌, ap, cond, length, map, rules, ℕ}
use Rattle.islands.proofs.Listed.{counted, listed}
use Rattle.rules.specs.Station.{free}
use Rattle.rules.specs.declared.Island.{Island}
use Rattle.text.proofs.Mapped.{mapped}
use Rattle.screen.proofs.message.track_digits.Goals as goal
use Rattle.screen.proofs.message.track_digits.Goals.{After-map}

abbrev digit : Island → ℕ
digit island = cond island.occupied 0 1

five : (c : After-map) → length c.args.track.islands ≡ 5
five c = search (rules, counted)

pub returns : goal.returns
returns c = let islands = c.args.track.islands in
    mapped digit free islands c.map.result 5 (five c) c.map.ensures.items.long
    (λ k d h. let each = c.map.ensures.items.at k free d h in search rules)
    ∙ ap (map digit) (listed free islands 5 (five c))
