-- `writer::judge` meets its contract.
use Rattle.std.proofs.Common.{◌≤◌, arith}
use Rattle.rules.specs.Table.{row_count}
use Rattle.table_size.specs.Small.{FEW_ROWS}
use Rattle.scope_preparation.proofs.Arrays.{zeros-blank, zeros-cleared}
use Rattle.writer.proofs.judge.Goals as goal

pub judge_in-requires : goal.judge_in-requires
judge_in-requires c =
    record {
      note_size = omega arith;
      top_size = omega arith;
      path_size = omega arith;
      blank = zeros-blank c.args.table.now 8192 (λ small. omega arith);
      cleared = zeros-cleared c.args.table.now 9219 4100 (λ small. (omega arith, omega arith));
    }

pub returns-then-row_count-gt-FEW_ROWS : goal.returns-then-row_count-gt-FEW_ROWS
returns-then-row_count-gt-FEW_ROWS c = c.judge_in.ensures

pub judge_in-requires-2 : goal.judge_in-requires-2
judge_in-requires-2 c =
    let few : row_count c.args.table.now ≤ FEW_ROWS = omega (arith, c.row_count.ensures, c.if-row_count-gt-FEW_ROWS.false) in
    record {
      note_size = omega arith;
      top_size = omega arith;
      path_size = omega arith;
      blank = zeros-blank c.args.table.now 512 (λ small. omega (arith, few));
      cleared = zeros-cleared c.args.table.now 579 260 (λ small. (omega (arith, few), omega (arith, few)));
    }

pub returns : goal.returns
returns c = c.judge_in-2.ensures
