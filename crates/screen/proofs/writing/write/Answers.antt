-- `write`: 16 is tested before 12.
use mathlib.Core.Path.{sym, ◌∙◌}
use Rattle.screen.proofs.Writings.{done, refused}
use Rattle.screen.proofs.writing.write.Goals as goal

pub returns-then-not-fits : goal.returns-then-not-fits
returns-then-not-fits c = refused _ _ (sym c.fits.ensures ∙ c.if-not-fits.true)

pub write_text-requires : goal.write_text-requires
write_text-requires c = sym c.fits.ensures ∙ c.if-not-fits.false

pub returns : goal.returns
returns c = done _ _ (sym c.fits.ensures ∙ c.if-not-fits.false) _ _ c.write_text.ensures c.ok_or.ensures.value
