-- `within_limits`: the upper limits of the timers are those of a `u16`.
use Rattle.std.proofs.Common.{rules, tests}
use Rattle.islands.proofs.UpperLimits.{limits}
use Rattle.islands.proofs.limits.within_limits.Goals as goal

pub returns : goal.returns
returns c = search (rules, tests, limits)
