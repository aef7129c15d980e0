-- Document 01, "How firm each statement is": four of the five idle versions that have to be shut out,
-- each a machine. The fifth, with a made-up number of entries read, is in specs/ReadBack. Then two
-- answers to a report that demand 1 shuts out.
use Rattle.std.specs.Prelude.{ℕ, Bool, true, false, cond, ◌&&◌, ltb}
use Rattle.demands.specs.Exactly.{GivenExactly}
use Rattle.demands.specs.Stated.{of_taking}
use Rattle.rules.specs.Answers.{answer_of, form_answer, names_island, place_answer, state_answer, station_after}
use Rattle.rules.specs.Aspect.{aspect_of}
use Rattle.rules.specs.Kinds.{kind_of}
use Rattle.rules.specs.Station.{made, settings_answer}
use Rattle.rules.specs.Words.{◌if◌then◌, ◌▷◌}
use Rattle.rules.specs.declared.Report.{Report}
use Rattle.rules.specs.declared.Station.{Station}
use Rattle.rules.specs.rows.Machine.{Machine}

-- One that refuses everything.
abbrev pub refuses_all : Machine
refuses_all =
    record { State = Station; make = λ c. (made c).station; answer = λ s r. 8; after = λ s r. s; aspect = aspect_of }

-- One that always shows aspect 5.
abbrev pub always_five : Machine
always_five =
    record { State = Station; make = λ c. (made c).station; answer = answer_of; after = station_after; aspect = λ s. 5 }

-- One that keeps the station unchanged.
abbrev pub keeps_station : Machine
keeps_station =
    record { State = Station; make = λ c. (made c).station; answer = answer_of; after = λ s r. s; aspect = aspect_of }

-- One that follows the first report and then coasts: a station, and whether a report has been followed. The
-- first report is taken as ours takes it;
-- later ones are answered 0 and change nothing.
pub record Coasting : Type 0 where
  pub station : Station
  pub followed : Bool

abbrev pub coasts : Machine
coasts =
    record {
      State = Coasting;
      make = λ c. record { station = (made c).station; followed = false };
      answer = λ s r. cond s.followed 0 (answer_of s.station r);
      after = λ s r. cond s.followed s (record { station = station_after s.station r; followed = true });
      aspect = λ s. aspect_of s.station;
    }

-- ---- answers to a report

-- each number is given exactly when the table says
abbrev pub AsTheTable : (Station → Report → ℕ) → Type 0
AsTheTable answer = (s : Station) (r : Report) → GivenExactly (of_taking s r) (answer s r)

-- One that answers 0 to everything.
abbrev pub answers_done : Station → Report → ℕ
answers_done s r = 0

-- One that tests the island before the track: 4, then 3 or 5.
abbrev pub island_first : Station → Report → ℕ
island_first s r =
    settings_answer s.settings
    ▷ form_answer r
    ▷ (4 if names_island (kind_of r.kind) && ltb 4 r.b then place_answer s r)
    ▷ state_answer s r
