-- `message_of`: outside the limits four tracks of 0, else what the station shows.
use mathlib.Core.Path.{sym, ◌∙◌}
use lib.ListN.{replicate}
use Rattle.screen.proofs.Messages.{refused, sent}
use Rattle.screen.proofs.message.message_of.Goals as goal

pub returns-then-not-within_limits : goal.returns-then-not-within_limits
returns-then-not-within_limits c =
    (λ i. record { station = c.args.number; aspect = c.into.ensures i; tracks = 4; digits = replicate 20 0 })
    ∙ refused _ _ (sym c.if-not-within_limits.ensures)

pub returns : goal.returns
returns c = sent _ _ (sym c.if-not-within_limits.ensures) (c.into-2.ensures ∙ c.aspect.ensures) c.digits_of.ensures
