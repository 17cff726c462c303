-- `namespace::bad` meets its contract.
use Rattle.row_names.proofs.Tests.{namespace-other, namespace-good, namespace-tested}
use Rattle.row_names.proofs.namespace.bad.Goals as goal

pub returns-then-row_type : goal.returns-then-row_type
returns-then-row_type c = λ n t k. namespace-other n t k c.if-row_type.true

pub returns-then-kinds : goal.returns-then-kinds
returns-then-kinds c = λ n t k. namespace-good n t k c.if-row_type.false c.if-kinds.true

pub returns : goal.returns
returns c = λ n t k. namespace-tested n t k c.if-row_type.false
