-- `output_column`: a digit for each of the nine output bits.
use Rattle.std.proofs.Common.{[], ◌++◌, ◌∙◌, ◌∷◌, ap, bit_and, List, not, nat_eq, refl, rules, sym, ℕ}
use Rattle.islands.proofs.Listed.{listed}
use Rattle.rules.specs.Printer.{space, zero_or_one}
use Rattle.signal.proofs.Digits.{set}
use Rattle.text.proofs.Mapped.{mapped}
use Rattle.sheet.proofs.lines.output_column.Goals as goal

abbrev digit : ℕ → ℕ
digit bit = zero_or_one (not (nat_eq bit 0))

-- VF to S4
abbrev bits : ℕ → List ℕ
bits o =
    bit_and o 1 ∷ bit_and o 2 ∷ bit_and o 4 ∷ bit_and o 8 ∷ bit_and o 16 ∷ bit_and o 32 ∷ bit_and o 64 ∷ bit_and o 128
    ∷ bit_and o 256 ∷ []

pub returns : goal.returns
returns c = let o = c.args.outputs in
    ap (λ l. l ++ space)
    (sym (listed 0 c.map.result 9 c.map.ensures.items.long)
    ∙ mapped digit 0 (bits o) c.map.result 9 refl c.map.ensures.items.long
    (λ k d h. let each = c.map.ensures.items.at k 0 d h in search rules)
    ∙ λ i. zero_or_one (set o 0 i) ∷ zero_or_one (set o 1 i) ∷ zero_or_one (set o 2 i) ∷ zero_or_one (set o 3 i)
    ∷ zero_or_one (set o 4 i) ∷ zero_or_one (set o 5 i) ∷ zero_or_one (set o 6 i) ∷ zero_or_one (set o 7 i)
    ∷ zero_or_one (set o 8 i) ∷ [])
