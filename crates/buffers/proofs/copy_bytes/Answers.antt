-- `buffers::copy_bytes` meets its contract.
use mathlib.Core.Path.{◌∙◌}
use Rattle.buffers.proofs.Writes.{written-from-start}
use Rattle.buffers.proofs.copy_bytes.Goals as goal

pub returns : goal.returns
returns c = c.append_bytes.ensures ∙ written-from-start c.args.pool.now c.args.source.now
