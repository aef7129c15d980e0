-- The settings' upper limits are those of their type, so they hold of any that code can hold.
-- Assumes nothing.
use Prim.Native.Nat.{◌≤◌}
use mathlib.Core.Path.{◌≡◌}
use mathlib.Core.Bool.{Bool, ◌&&◌, and-true}
use lib.Dec.{leb, ltb, leb-zero}
use borrow.Author.Tests.{le-leb}
use Rattle.rules.specs.Station.{Zone, advance, crossing, timer, warning, within_limits}
use Rattle.rules.specs.declared.Settings.{Settings}

pub limits : (c : Settings) (few : Bool) → few ≡ (leb 1 c.tracks && leb c.tracks 4)
    → c.t1 ≤ 65535 → c.t2 ≤ 65535 → c.t3 ≤ 65535 → c.t4 ≤ 65535 → c.t5 ≤ 65535
    → few && leb 1 c.t1 && leb 1 c.t2 && leb 1 c.t3 && leb 1 c.t5 && ltb c.t2 c.t5 ≡ within_limits c
unfolding within_limits
limits c few h h1 h2 h3 h4 h5 =
    simp (
      h,
      le-leb c.t1 65535 h1,
      le-leb c.t2 65535 h2,
      le-leb c.t3 65535 h3,
      le-leb c.t4 65535 h4,
      le-leb c.t5 65535 h5,
      leb-zero c.t4,
      and-true,
    )

-- the timers' bounds, zone by zone
pub timers : (c : Settings) → c.t1 ≤ 65535 → c.t2 ≤ 65535 → c.t3 ≤ 65535 → (z : Zone) → timer c z ≤ 65535
timers c h1 h2 h3 advance = h1
timers c h1 h2 h3 warning = h2
timers c h1 h2 h3 crossing = h3
