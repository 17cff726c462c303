-- `make` meets its contract.
use Prim.Native.Nat.{◌≤◌}
use mathlib.Core.Path.{◌∙◌}
use lib.ListN.{length}
use Rattle.tables.specs.Tables.{WORDS}
use Rattle.table_filling.proofs.Filling.{made-begun, all_made}
use Rattle.table_filling.proofs.make.Goals as goal

pub returns : goal.returns
returns c =
    let a = c.args.bases in
    let room : WORDS ≤ length c.fill_sums.new.tables = rw (c.fill_sums.auto.tables ∙ c.fill_plain.auto.tables ∙ c.fill_colons.auto.tables ∙ c.fill_marks.auto.tables) c.requires.0 in
    rw c.begin.ensures record { made = all_made c.args.pool.now c.fill_marks.new.tables c.fill_colons.new.tables c.fill_plain.new.tables c.fill_sums.new.tables a.one a.two room c.fill_marks.ensures c.fill_colons.ensures.ended c.fill_colons.ensures.tables_unchanged c.fill_plain.ensures.ended c.fill_plain.ensures.tables_unchanged c.fill_sums.ensures.filled c.fill_sums.ensures.tables_unchanged; tables_after = made-begun c.fill_sums.new.tables a.one a.two room }
