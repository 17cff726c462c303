-- `fill_plain` meets its contract.
use mathlib.Core.Bool.{false}
use native.Mathlib.Omega.{arith}
use Rattle.tables.specs.Tables.{PLAIN, COLONS}
use Rattle.table_filling.proofs.Filling.{ends_there, kept-behind}
use Rattle.table_filling.proofs.fill_plain.Goals as goal

pub returns : goal.returns
returns c =
    let t = c.args.tables.now in record { ended = ends_there t c.make.new.ends PLAIN COLONS (omega arith) (omega arith) c.make.ensures.ends_len_unchanged false c.args.pool.now (omega arith) c.make.ensures.ended; tables_unchanged = kept-behind t c.make.new.ends PLAIN COLONS (omega arith) (omega arith) c.make.ensures.ends_len_unchanged }
