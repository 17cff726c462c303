-- `normal_form::normalize_into` meets its contract.
use Rattle.normal_form.proofs.Start.{start-full, copy-table-fits, copy-pool-fits, copies-ready, copies-finished}
use Rattle.normal_form.proofs.normalize_into.Goals as goal

pub returns-then-sizes : goal.returns-then-sizes
returns-then-sizes c = start-full c.requires c.if-sizes.true

pub copy_words-requires : goal.copy_words-requires
copy_words-requires c = copy-table-fits c.requires c.if-sizes.false

pub copy_bytes-requires : goal.copy_bytes-requires
copy_bytes-requires c = copy-pool-fits c.requires

pub make_result-requires : goal.make_result-requires
make_result-requires c = copies-ready c.requires c.if-sizes.false c.copy_words.ensures c.copy_bytes.ensures

pub returns : goal.returns
returns c = copies-finished c.requires c.if-sizes.false c.copy_words.ensures c.copy_bytes.ensures c.make_result.ensures
