-- `record`: nothing of a text with a fault, and all of any other.
use Rattle.recorder.proofs.Recordings.{all_recorded, bytes_kept, bytes_recorded, inside, lines_kept, lines_recorded}
use Rattle.recorder.proofs.Recordings.{nothing_recorded}
use Rattle.std.proofs.Common.{rules}
use Rattle.recorder.proofs.recording.record.Goals as goal

pub returns-in_err-said-clause-value : goal.returns-in_err-said-clause-value
returns-in_err-said-clause-value c =
    nothing_recorded _ _ c.check.ensures c.in_err-said.field-0.0 c.in_err-said.was _ (search rules)

pub returns-in_err-said-clause-register_after : goal.returns-in_err-said-clause-register_after
returns-in_err-said-clause-register_after c = bytes_kept _ _ c.check.ensures _ c.in_err-said.was _

pub returns-in_err-said-clause-rows_after : goal.returns-in_err-said-clause-rows_after
returns-in_err-said-clause-rows_after c = lines_kept _ _ c.check.ensures _ c.in_err-said.was _

pub fill-requires : goal.fill-requires
fill-requires c = inside _ _ c.check.ensures _ c.in_ok-said.was

pub returns-clause-value : goal.returns-clause-value
returns-clause-value c = all_recorded _ _ c.check.ensures _ c.in_ok-said.was

pub returns-clause-register_after : goal.returns-clause-register_after
returns-clause-register_after c =
    bytes_recorded _ _ c.check.ensures _ c.in_ok-said.was _ _ c.fill.ensures.register_after

pub returns-clause-rows_after : goal.returns-clause-rows_after
returns-clause-rows_after c =
    lines_recorded _ _ c.check.ensures _ c.in_ok-said.was _ _ c.fill.ensures.rows_after c.told-rows
