-- `enter` meets its contract.
use Rattle.ns_names.proofs.Entering.{entered-none, entered-past, entered_here}
use Rattle.ns_names.proofs.enter.Goals as goal

pub returns-then-at-records : goal.returns-then-at-records
returns-then-at-records c = entered_here c.args.records.now c.args.k c.args.number.0 c.if-k-gt0.true c.if-at-records.true

pub returns-else-at-records : goal.returns-else-at-records
returns-else-at-records c = entered-past c.args.records.now c.args.k c.args.number.0 c.if-at-records.false

pub returns-else-k-gt0 : goal.returns-else-k-gt0
returns-else-k-gt0 c = entered-none c.args.records.now c.args.k c.args.number.0 c.if-k-gt0.false
