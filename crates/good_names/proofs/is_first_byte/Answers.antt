-- `good_names::is_first_byte` meets its contract.
use Rattle.good_names.proofs.Bytes.{first_small, first-high, first-other}
use Rattle.good_names.proofs.is_first_byte.Goals as goal

pub returns-then-b : goal.returns-then-b
returns-then-b c = first_small c.args.colons c.args.b c.if-b.true

pub returns-then-b-ge128 : goal.returns-then-b-ge128
returns-then-b-ge128 c = first-high c.args.colons c.args.b c.if-b-ge128.true

pub returns : goal.returns
returns c = first-other c.args.colons c.args.b c.if-b.false
