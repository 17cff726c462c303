-- `buffers::copy_words` meets its contract.
use mathlib.Core.Path.{◌∙◌}
use Rattle.buffers.proofs.Writes.{written-from-start}
use Rattle.buffers.proofs.copy_words.Goals as goal

pub returns : goal.returns
returns c = c.write_rows.ensures ∙ written-from-start c.args.table.now c.args.source.now
