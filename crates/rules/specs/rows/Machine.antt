-- Document 01, "How firm each statement is": a machine is whatever makes stations of settings, takes reports and shows
-- an aspect. Ours is one; the idle versions that have to be shut out are others.
use Rattle.std.specs.Prelude.{ℕ}
use Rattle.rules.specs.Answers.{answer_of, station_after}
use Rattle.rules.specs.Aspect.{aspect_of}
use Rattle.rules.specs.Station.{made}
use Rattle.rules.specs.declared.Report.{Report}
use Rattle.rules.specs.declared.Settings.{Settings}
use Rattle.rules.specs.declared.Station.{Station}

pub record Machine : Type 1 where
  pub State : Type 0
  pub make : Settings → State
  pub answer : State → Report → ℕ
  pub after : State → Report → State
  pub aspect : State → ℕ

-- ours, by its definitions, which the promises of `station` and `reports` cite
abbrev pub ours : Machine
ours =
    record { State = Station; make = λ c. (made c).station; answer = answer_of; after = station_after; aspect = aspect_of }
