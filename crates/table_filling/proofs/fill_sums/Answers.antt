-- `fill_sums` meets its contract.
use native.Mathlib.Omega.{arith}
use Rattle.tables.specs.Tables.{SUMS, PLAIN}
use Rattle.table_filling.proofs.Filling.{sums-there, kept-behind}
use Rattle.table_filling.proofs.fill_sums.Goals as goal

pub returns : goal.returns
returns c =
    let t = c.args.tables.now in record { filled = sums-there t c.make.new.table SUMS PLAIN (omega arith) (omega arith) c.make.ensures.table_len_unchanged c.args.pool.now c.args.bases.one c.args.bases.two c.requires.1 (omega arith) c.make.ensures.filled; tables_unchanged = kept-behind t c.make.new.table SUMS PLAIN (omega arith) (omega arith) c.make.ensures.table_len_unchanged }
