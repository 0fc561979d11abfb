use Rattle.std.proofs.Common.{rules, sym, ◌∙◌}
use Rattle.file_shown.proofs.Utf8.{starts, fits_on, broken, fits_end}
use Rattle.file_shown.proofs.character.is_utf8.Goals as goal

pub loop-i-init : goal.loop-i-init
loop-i-init c = starts _ ∙ rw c.new-c.ensures

pub loop-i-preserved : goal.loop-i-preserved
loop-i-preserved c = fits_on _ _ _ _ c.loop-i.invariant _ c.loop-i-test.true (search rules) (sym c.if-not-fits.ensures) c.after-c.ensures

pub returns-then-not-fits : goal.returns-then-not-fits
returns-then-not-fits c = broken _ _ _ _ c.loop-i.invariant _ c.loop-i-test.true (search rules) (sym c.if-not-fits.ensures)

pub returns : goal.returns
returns c = fits_end _ _ _ _ c.loop-i.invariant c.loop-i-test.false
