-- A report whose kind there is, as the code hands it on. (Not for belief: its kind is the number's by `Kinds`, and its answer the number of `Answers`.)
use Rattle.std.specs.Prelude.{ℕ, Result, Ok, Err}
use Rattle.rules.specs.Answered.{kind_named, refusal_number}
use Rattle.rules.specs.Kinds as Kinds
use Rattle.rules.specs.Kinds.{kind_of}
use Rattle.rules.specs.Numbers.{done}
use Rattle.rules.specs.declared.Kind.{Kind}
use Rattle.rules.specs.declared.Refusal.{Refusal}

-- what a case of the code's enum means
abbrev pub meaning : Kind → Kinds.Kind
meaning kind = kind_named (Ok kind)

-- 0 where something is accepted, and otherwise what it is refused with
module _ {A : Type 0} where
  abbrev pub number_in : Result A Refusal → ℕ
  number_in (Ok _) = done
  number_in (Err refusal) = refusal_number refusal
