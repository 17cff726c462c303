-- `plain::names_fit` meets its contract.
use mathlib.Core.Path.{refl}
use Rattle.rules.proofs.Lists.{true-not-false}
use Rattle.fields.proofs.plain.names_fit.Goals as goal

pub returns-then-not-fits : goal.returns-then-not-fits
returns-then-not-fits c = λ e. absurd (true-not-false e refl)

pub returns-then-not-fits-2 : goal.returns-then-not-fits-2
returns-then-not-fits-2 c = λ e. absurd (true-not-false e refl)

pub returns : goal.returns
returns c = λ e. (c.fits.ensures (c.if-not-fits.false), c.fits-2.ensures (c.if-not-fits-2.false), c.fits-3.ensures e)
