-- Document 01, "The numbers it answers": what becomes of the station where a report is refused. "From islands to
-- aspect": the lines, from what they read.
-- Assumes nothing.
use Prim.Native.Nat.{ℕ}
use mathlib.Core.Path.{◌≡◌}
use mathlib.Core.Bool.{Bool, not}
use mathlib.Core.List.{List}
use Rattle.reports.proofs.Taking.{after_refused}
use Rattle.rules.specs.Answers.{answer_of, station_after}
use Rattle.rules.specs.Aspect.{fresh_advance, fresh_near, some_held}
use Rattle.rules.specs.Station.{within_limits}
use Rattle.rules.specs.Words.{any, ◌if◌then◌}
use Rattle.rules.specs.declared.Report.{Report}
use Rattle.rules.specs.declared.Settings.{Settings}
use Rattle.rules.specs.declared.Station.{Station}
use Rattle.rules.specs.declared.Track.{Track}

-- A refused report returns the old station.
pub refused_keeps : (s : Station) (r : Report) → (answer_of s r ≡ 0 → ⊥) → station_after s r ≡ s
refused_keeps = after_refused

-- ---- the lines of the aspect

-- from the settings, the live tracks, the fault, and whether the condition is true or the hold above 0
abbrev pub aspect_in : Settings → List Track → Bool → Bool → ℕ
aspect_in c l fault risk =
    5 if not (within_limits c) then
    5 if fault then
    3 if risk then
    2 if any (fresh_near c) l then
    1 if any (fresh_advance c) l then
    4 if any (some_held c) l then
    0
