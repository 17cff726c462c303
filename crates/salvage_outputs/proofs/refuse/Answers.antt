-- `salvage_outputs::refuse` meets its contract.
use mathlib.Core.Path.{refl}
use Rattle.salvage_outputs.proofs.Outcome.{all-zero}
use Rattle.salvage_outputs.proofs.refuse.Goals as goal

pub returns : goal.returns
returns c =
    record { value = refl; out_table_after = all-zero c.args.out_table.now c.clear_words.ensures; list_after = all-zero c.args.list.now c.clear_words-2.ensures }
