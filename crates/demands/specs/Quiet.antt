-- Demand 3: "No lamp is stuck. Take any station reached by any reports. Let only clock reports, head reports and
-- refused ones follow. Once the clock has gone the longer of two times, T5 alone or T4 plus the greatest of T1, T2 and
-- T3, the aspect is settled and stays so: out of service if a fault was latched when the quiet began or a warning
-- island is occupied; otherwise orange if any island is occupied; otherwise green."
use Rattle.std.specs.Prelude.{ℕ, ◌+◌, max, ◌≤◌, ◌≡◌, Bool, true, cond, not, ◌&&◌, ◌||◌, List, [], ◌∷◌, ◌++◌, eqb}
use Rattle.rules.specs.Answers.{answer_of, station_after}
use Rattle.rules.specs.Aspect.{aspect_of}
use Rattle.rules.specs.Numbers.{done}
use Rattle.rules.specs.Station.{any_island, fresh_station, is_warning, live, some_occupied, within_limits}
use Rattle.rules.specs.Words.{any, ◌if◌then◌}
use Rattle.rules.specs.declared.Report.{Report}
use Rattle.rules.specs.declared.Settings.{Settings}
use Rattle.rules.specs.declared.Station.{Station}
use Rattle.rules.specs.declared.Track.{Track}

-- the station after a list of reports, taken or refused, one after the other
unfoldable pub after_all : Station → List Report → Station
after_all s [] = s
after_all s (r ∷ rs) = after_all (station_after s r) rs

-- "any station reached by any reports": from a fresh one, of any settings within their limits.
pub record Reached (s : Station) : Type 0 where
  pub settings : Settings
  pub reports : List Report
  pub within : within_limits settings ≡ true
  pub reached : after_all (fresh_station settings) reports ≡ s

-- ---- "Let only clock reports, head reports and refused ones follow."

abbrev pub accepted : Station → Report → Bool
accepted s r = eqb (answer_of s r) done

-- kind 3, and kind 6
abbrev pub is_clock : Report → Bool
is_clock r = eqb r.kind 3

abbrev pub is_head : Report → Bool
is_head r = eqb r.kind 6

-- Each report is refused, or a clock report, or a head report, to the station that those before it leave.
unfoldable pub Quiet : Station → List Report → Bool
Quiet s [] = true
Quiet s (r ∷ rs) = (not (accepted s r) || is_clock r || is_head r) && Quiet (station_after s r) rs

-- how many ticks the clock has gone: the values of the clock reports taken, added up
unfoldable pub clock_gone : Station → List Report → ℕ
clock_gone s [] = 0
clock_gone s (r ∷ rs) = cond (accepted s r && is_clock r) r.value 0 + clock_gone (station_after s r) rs

-- ---- "the aspect is settled and stays so"

-- the longer of two times, T5 alone or T4 plus the greatest of T1, T2 and T3
abbrev pub greatest : Settings → ℕ
greatest c = max c.t1 (max c.t2 c.t3)

abbrev pub long_enough : Settings → ℕ
long_enough c = max c.t5 (c.t4 + greatest c)

-- a warning island of the track is occupied
abbrev pub warning_occupied : Track → Bool
warning_occupied t = any_island (λ z i. is_warning z && i.occupied) t

-- Out of service if a fault was latched when the quiet began or a warning island is occupied; otherwise orange if
-- any island is occupied; otherwise green:
-- aspects 5, 4 and 0.
abbrev pub settled : Bool → Station → ℕ
settled latched s =
    5 if latched || any warning_occupied (live s) then
    4 if any some_occupied (live s) then
    0

-- From a station on, where only such reports follow: once the clock has gone long enough the aspect is settled and
-- stays so, the same after every longer continuation.
pub record NotStuck (s : Station) : Type 0 where
  pub settles : (rs : List Report) → Quiet s rs ≡ true → long_enough s.settings ≤ clock_gone s rs
      → aspect_of (after_all s rs) ≡ settled s.fault (after_all s rs)
  pub stays : (rs more : List Report) → Quiet s (rs ++ more) ≡ true → long_enough s.settings ≤ clock_gone s rs
      → aspect_of (after_all s (rs ++ more)) ≡ aspect_of (after_all s rs)
