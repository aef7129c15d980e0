-- The hold, where the greatest-risk condition is known at each tick. (Not for belief: `tick` of `rules` says what a tick does to it.)
use Rattle.std.specs.Prelude.{ℕ, zero, suc, ◌-◌, Bool, cond, not, ◌&&◌, ltb}

-- a hold that falls by one where the condition is false
abbrev pub lowered : Bool → ℕ → ℕ
lowered risk hold = cond (not risk && ltb 0 hold) (hold - 1) hold

-- the hold n ticks later, where the condition is known at each of them
unfoldable pub hold_after : (ℕ → Bool) → ℕ → ℕ → ℕ → ℕ
hold_after risk t4 hold zero = hold
hold_after risk t4 hold (suc n) = cond (risk (suc n)) t4 (lowered (risk n) (hold_after risk t4 hold n))
