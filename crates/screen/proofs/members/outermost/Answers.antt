-- `outermost`: an object has members, and no other value has.
use mathlib.Core.Path.{◌∙◌}
use Rattle.screen.proofs.Seeking.{no_object}
use Rattle.screen.proofs.members.outermost.Goals as goal

pub returns : goal.returns
returns c =
    no_object c.args.text.now c.args.at (λ e. c.if-octet-eq123.false (c.octet.ensures ∙ e)) c.in_ok-past.ensures
    c.default.result c.default.ensures
