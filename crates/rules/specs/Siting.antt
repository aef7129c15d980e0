-- Document 01, "Siting", with request 5 of document 02: distances to the decimetre. Seconds and decimetres are kept
-- apart.
use Rattle.std.specs.Prelude.{ℕ, ◌+◌, ◌-◌, ◌*◌, ◌/◌, Bool, cond, not, ◌&&◌, eqb}
use Rattle.rules.specs.Numbers.{done, outside_limits}
use Rattle.rules.specs.Words.{within, ◌if◌then◌}
use Rattle.rules.specs.declared.Seconds.{Seconds}
use Rattle.rules.specs.declared.Sited.{Sited}

-- Speed v is 1 to 350 km/h, message time m 0 to 60 s, tracks n 1 to 4 (house limits).
abbrev pub speed_good : ℕ → Bool
speed_good v = within 1 350 v

abbrev pub message_good : ℕ → Bool
message_good m = within 0 60 m

abbrev pub tracks_good : ℕ → Bool
tracks_good n = within 1 4 n

-- a quotient, rounded up once
abbrev pub rounded_up : ℕ → ℕ → ℕ
rounded_up n d = (n + (d - 1)) / d

-- Both siting answers become decimetres, rounded up once: 50·v·(30+m)/18 (the advance distance) and 50·v·7·n/18 (the
-- warning distance).
abbrev pub advance_decimetres : ℕ → ℕ → ℕ
advance_decimetres v m = rounded_up (50 * v * (30 + m)) 18

abbrev pub warning_decimetres : ℕ → ℕ → ℕ
warning_decimetres v n = rounded_up (50 * v * 7 * n) 18

-- Refused siting returns distance 0.
abbrev pub sited : ℕ → ℕ → Sited
sited answer decimetres = record { answer = answer; distance = record { 0 = cond (eqb answer done) decimetres 0 } }

unfoldable pub advance_sited : ℕ → Seconds → Sited
advance_sited v m =
    sited (outside_limits if not (speed_good v && message_good m.0) then done) (advance_decimetres v m.0)

unfoldable pub warning_sited : ℕ → ℕ → Sited
warning_sited v n = sited (outside_limits if not (speed_good v && tracks_good n) then done) (warning_decimetres v n)
