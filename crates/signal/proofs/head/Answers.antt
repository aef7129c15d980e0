-- `signal::head` meets its contract: read mask by mask it is the definition (`dark_shows`,
-- `lit_shows`), and the code's tests pick the case.
use mathlib.Core.Path.{◌≡◌, ◌∙◌, sym, ap}
use mathlib.Core.Bool.{Bool, cond, not}
use Prim.Native.Nat.{◌-◌}
use native.Mathlib.Omega.{arith}
use lib.Bits.{bit_and, bit_or}
use lib.Dec.{eqb}
use borrow.Author.Tests.{eq-eqb, ne_eqb}
use Rattle.std.proofs.lemmas.Bool.Decides.{nat_tests}
use Rattle.signal.proofs.Shown.{dark_shows, lamps, lit_shows}
use Rattle.signal.proofs.head.Goals as goal
use Rattle.signal.proofs.head.Goals.{else-condition-eq0, then-condition-eq0}
use Rattle.signal.proofs.head.Goals.{then-dark-via-else-dark+then-many, then-dark-via-then-dark}

pub returns-then-dark : goal.returns-then-dark
returns-then-dark c = sym (dark_shows c.args.outputs c.args.condition 1
    (elim c.then-dark.branch [
      | then-dark-via-then-dark w ↦ grind (arith, nat_tests)
      | then-dark-via-else-dark+then-many w ↦ grind (arith, nat_tests)
    ])
    (omega arith))

pub returns : goal.returns
returns c = let o = c.args.outputs in
    let d = c.args.condition in
    let lit : c.if-condition-eq0.lit ≡ lamps o d =
    elim c.if-condition-eq0.branch [
      | then-condition-eq0 w ↦ w.lit-is
          ∙ sym (ap (λ (t : Bool). cond t (bit_and o 31) 0) (eq-eqb (bit_and d 15) 0 w.if-condition-eq0.true))
      | else-condition-eq0 w ↦ w.lit-is ∙ sym (ap (λ (t : Bool). cond t (bit_and o 31) 0)
          (ne_eqb (bit_and d 15) 0 w.if-condition-eq0.false))
    ] in
    let s1 : c.silenced.result ≡ cond (not (eqb (bit_and d 16) 0)) 32 0 = c.silenced.ensures in
    let s2 : c.silenced-2.result ≡ cond (not (eqb (bit_and d 32) 0)) 64 0 = c.silenced-2.ensures in
    let s3 : c.silenced-3.result ≡ cond (not (eqb (bit_and d 64) 0)) 128 0 = c.silenced-3.ensures in
    let s4 : c.silenced-4.result ≡ cond (not (eqb (bit_and d 128) 0)) 256 0 = c.silenced-4.ensures in
    (λ i. bit_or (lit i) (bit_and (bit_and o 480) (65535 - bit_or (bit_or (bit_or (s1 i) (s2 i)) (s3 i)) (s4 i))))
    ∙ sym (lit_shows o d 1 (grind (arith, nat_tests)) (omega arith))
