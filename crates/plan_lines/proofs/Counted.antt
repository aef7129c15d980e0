-- What a chain counts that goes on while a test passes.
use Prim.Native.Nat.{ℕ}
use mathlib.Core.Bool.{Bool}
use mathlib.Core.List.{List}
use mathlib.Core.Path.{◌≡◌, ◌∙◌}
use denote.Param.Members.{Mut}
use denote.Ref.{Bor}
use lib.ListN.{length}
use Rattle.std.specs.declared.iter.TakeWhile.{TakeWhile}
use Rattle.std.proofs.Common.{Option, false}
use Rattle.std.proofs.lemmas.Iterator.{YieldsList}
use Rattle.std.proofs.lemmas.Iterator.Consumers.{count_from_yields_List}
use Rattle.std.proofs.lemmas.Iterator.Search.{YieldsList-from_take_while}
use Rattle.std.proofs.lemmas.List.Folds.{length-prefix_len}
use Rattle.std.specs.Fn.{CalledAt}
use Rattle.std.specs.Iterator.{Drains}
use Rattle.std.specs.Iterator.Adapters.{take_while_callee, take_while_done, take_while_source, take_while_steps}
use Rattle.std.specs.List.{prefix_len}

pub counted : {S A F : Type 0} {steps : S → Option A → S → Type 0} {v : A → ℕ} {ys : List ℕ} {s : TakeWhile S F}
    (g : Mut F (Bor A × Unit {0}) Bool) (test : ℕ → Bool) {f : F} {r : ℕ}
    → (xs : List A) × Drains (take_while_steps steps g) s xs × (r ≡ length xs)
    → YieldsList steps v (take_while_source s) ys
    → take_while_callee s ≡ f
    → take_while_done s ≡ false
    → ((x : A) (b : Bool) (q : F) → CalledAt g f x b q → (q ≡ f) × (b ≡ test (v x)))
    → r ≡ prefix_len test ys
counted g test ran road e d k =
    count_from_yields_List _ _ ran (YieldsList-from_take_while g test road e d k) ∙ length-prefix_len test _
