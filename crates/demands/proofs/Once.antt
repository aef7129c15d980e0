-- Document 01, "How firm each statement is": "Show that the statement admits one outcome." A public promise is an
-- equation between the result and a definition of the arguments, as `r ≡ ticks n station`; where the result is an enum
-- or a Result, between what a definition reads of it and that, as `sited_in r ≡ advance_sited speed message`; where a
-- buffer is lent, what it holds afterwards is another.
-- So any two outcomes that keep the promise for the same arguments are one outcome.
use mathlib.Core.Path.{◌≡◌, ◌∙◌, sym}

-- x and y are the outcomes, and z is what the definition gives
pub once : {A : Type 0} {x y z : A} → x ≡ z → y ≡ z → x ≡ y
once p q = p ∙ sym q

-- what reads a result tells its cases apart, as the theorems `.._tells_apart` of rules, rules_plan and station say
pub once_told : {A B : Type 0} (read : A → B) {x y : A} {z : B}
    → ((r s : A) → read r ≡ read s → r ≡ s) → read x ≡ z → read y ≡ z → x ≡ y
once_told read apart p q = apart _ _ (once p q)
