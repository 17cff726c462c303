-- `tables_of` meets its contract.
use mathlib.Core.Path.{sym, ap}
use lib.ListN.{take}
use lib.Seq.{drop-drop}
use Rattle.dictionary.specs.Dictionary.{entries_of}
use Rattle.entries.specs.Entries.{tables_of}
use Rattle.packed_table.proofs.tables_of.Goals as goal

pub returns : goal.returns
unfolding tables_of entries_of
returns c = ap (take 2833) (sym (drop-drop 1026 3072 c.args.dictionary.now))
