-- Document 01, "The numbers it answers": what an answer of 0 says of the tests, and of the station after the report.
-- Assumes nothing.
use Prim.Native.Nat.{◌<◌}
use native.Mathlib.Decide.{ℕ_discrete}
use native.Mathlib.Omega.{arith}
use mathlib.Core.Path.{◌≡◌, sym, ap, subst, ◌∙◌}
use mathlib.Core.Bool.{Bool, true, false, ◌&&◌}
use borrow.Author.Tests.{leb-false, ltb-false}
use lib.Dec.{leb, ltb}
use Rattle.chains.proofs.Chains.{both_done, passed}
use Rattle.reports.proofs.Taking.{after_accepted, after_refused}
use Rattle.rules.specs.Answers.{already, answer_of, form_answer, names_island, place_answer, state_answer}
use Rattle.rules.specs.Answers.{station_after}
use Rattle.rules.specs.Kinds.{Kind, kind_of}
use Rattle.rules.specs.Reports.{acted, named_island}
use Rattle.rules.specs.Station.{settings_answer}
use Rattle.rules.specs.declared.Report.{Report}
use Rattle.rules.specs.declared.Station.{Station}

-- where a report names an island, its track is below the number
abbrev pub Below : Kind → Station → Report → Type 0
Below k s r = names_island k ≡ true → r.a < s.settings.tracks

module _ (s : Station) (r : Report) where
  pub place_below : place_answer s r ≡ 0 → Below (kind_of r.kind) s r
  unfolding place_answer
  place_below e names =
      leb-false _ _ (sym (ap (λ (b : Bool). b && leb s.settings.tracks r.a) names) ∙ (passed 2 _ _ e).0)

  -- and the island is one of five
  place_five : place_answer s r ≡ 0 → names_island (kind_of r.kind) ≡ true → r.b < 5
  unfolding place_answer
  place_five e names =
      let least = ltb-false 4 r.b
      (sym (ap (λ (b : Bool). b && ltb 4 r.b) names) ∙ (passed 3 _ _ (passed 4 _ _ (passed 2 _ _ e).1).1).0) in
      omega arith

  -- the tests of place and of state refuse nothing
  last_done : answer_of s r ≡ 0 → (place_answer s r ≡ 0) × (state_answer s r ≡ 0)
  unfolding answer_of
  last_done e =
      both_done _ (state_answer s r) (both_done (form_answer r) _ (both_done (settings_answer s.settings) _ e).1).1

  module _ (e : answer_of s r ≡ 0) where
    pub accepted_below : Below (kind_of r.kind) s r
    accepted_below = place_below (last_done e).0

    pub accepted_five : names_island (kind_of r.kind) ≡ true → r.b < 5
    accepted_five = place_five (last_done e).0

    -- and what it says was not so already
    pub accepted_new : already (kind_of r.kind) (named_island s r) ≡ false
    unfolding state_answer
    accepted_new = (passed 5 _ _ (last_done e).1).0

-- what holds of a station, and of what an accepted report makes of it, holds after any report
pub after_any : (P : Station → Type 0) (s : Station) (r : Report)
    → P s
    → (answer_of s r ≡ 0 → P (acted (kind_of r.kind) s r))
    → P (station_after s r)
after_any P s r p f = go (ℕ_discrete (answer_of s r) 0)
  where
    go : Dec (answer_of s r ≡ 0) → P (station_after s r)
    go (yes z) = subst P (sym (after_accepted s r z)) (f z)
    go (no z) = subst P (sym (after_refused s r z)) p
