-- `fill_colons` meets its contract.
use mathlib.Core.Bool.{true}
use native.Mathlib.Omega.{arith}
use Rattle.tables.specs.Tables.{COLONS, MARKS}
use Rattle.table_filling.proofs.Filling.{ends_there, kept-behind}
use Rattle.table_filling.proofs.fill_colons.Goals as goal

pub returns : goal.returns
returns c =
    let t = c.args.tables.now in record { ended = ends_there t c.make.new.ends COLONS MARKS (omega arith) (omega arith) c.make.ensures.ends_len_unchanged true c.args.pool.now (omega arith) c.make.ensures.ended; tables_unchanged = kept-behind t c.make.new.ends COLONS MARKS (omega arith) (omega arith) c.make.ensures.ends_len_unchanged }
