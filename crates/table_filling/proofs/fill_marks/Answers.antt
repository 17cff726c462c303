-- `fill_marks` meets its contract.
use native.Mathlib.Omega.{arith}
use Rattle.tables.specs.Tables.{MARKS, WORDS}
use Rattle.table_filling.proofs.Filling.{marks-there}
use Rattle.table_filling.proofs.fill_marks.Goals as goal

pub returns : goal.returns
returns c =
    let t = c.args.tables.now in
    marks-there t c.make.new.marks MARKS WORDS (omega arith) (omega arith) c.make.ensures.marks_len_unchanged c.args.pool.now (omega arith) c.make.ensures.marked
