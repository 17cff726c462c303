-- `ancestors::lookup_elements` meets its contract.
use Prim.Native.Nat.{◌≤◌, ◌<◌}
use native.Mathlib.Omega.{arith}
use mathlib.Core.List.{[]}
use mathlib.Core.Path.{sym, ◌∙◌}
use borrow.Author.Tests.{ltb-true, ltb-false}
use Rattle.rules.specs.Table.{row_count}
use Rattle.ancestors.proofs.Nearest.{path-elements, path-none, all_room, lookup-found, lookup-nothing}
use Rattle.ancestors.proofs.lookup_elements.Goals as goal

pub collect-requires : goal.collect-requires
collect-requires c =
    let within : c.start-first.result.0 < row_count c.args.table.now = ltb-true c.start-first.result.0 (row_count c.args.table.now) (sym c.has_row.ensures ∙ c.if-has_row.true) in
    (within, omega arith)

pub returns-then-has_row : goal.returns-then-has_row
returns-then-has_row c =
    let table = c.args.table.now in
    let path = c.collect.new.path in
    let within : c.start-first.result.0 < row_count table = ltb-true c.start-first.result.0 (row_count table) (sym c.has_row.ensures ∙ c.if-has_row.true) in record {
      path_of = path-elements table path c.collect.result c.start-first.result.0 c.collect.ensures.upper_bound
          (c.collect.ensures.by_index [] ∙ all_room table [] c.start-first.result.0 c.args.path.now within c.requires.table_in_bounds.0);
      by_index = λ pool. lookup-found table pool c.requires.table_in_bounds.1 c.args.row.0 c.start-first.result.0 (c.start-first.ensures pool) c.args.path.now path c.collect.result within c.requires.table_in_bounds.0 (c.collect.ensures.by_index pool);
    }

pub returns : goal.returns
returns c =
    let table = c.args.table.now in
    let past : row_count table ≤ c.start-first.result.0 = ltb-false c.start-first.result.0 (row_count table) (sym c.has_row.ensures ∙ c.if-has_row.false) in record { path_of = path-none table c.args.path.now; by_index = λ pool. lookup-nothing table pool c.requires.table_in_bounds.1 c.args.row.0 c.start-first.result.0 (c.start-first.ensures pool) past }
