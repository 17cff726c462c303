-- `plain::fits` meets its contract.
use Rattle.fields.proofs.Fitting.{fits-empty, fits-inside}
use Rattle.fields.proofs.plain.fits.Goals as goal

pub returns-then-place-eq0 : goal.returns-then-place-eq0
returns-then-place-eq0 c = λ e. fits-empty c.args.table.now c.args.pool.now c.args.row.0 c.args.word c.place-place.ensures (cc) e

pub returns : goal.returns
returns c =
    λ e. fits-inside c.args.table.now c.args.pool.now c.args.row.0 c.args.word c.place-place.ensures c.if-place-eq0.false c.wide.ensures c.wide-2.ensures e
