-- `row_numbers::check_few` meets its contract.
use mathlib.Core.Path.{sym, refl, ◌∙◌}
use Rattle.table_size.specs.Small.{FEW_ROWS}
use Rattle.faults.proofs.Laws.{not-accepted}
use Rattle.checker.proofs.Whole.{check-size}
use Rattle.proposal_check.proofs.NotesKept.{lent, named-noted}
use Rattle.proposal_check.proofs.row_numbers.check_few.Goals as goal

pub returns-then-is_bad : goal.returns-then-is_bad
returns-then-is_bad c =
    record { value = check-size c.args.table.now c.args.pool.now (sym c.is_bad.ensures ∙ c.if-is_bad.true); noted = not-accepted _ refl }

pub check_numbered-requires : goal.check_numbered-requires
check_numbered-requires c = lent c.args.table.now c.args.notes.now FEW_ROWS (λ h. c.requires.table_bound) c.requires.table_in_bounds

pub returns : goal.returns
returns c =
    record { value = c.check_numbered.ensures.value; noted = named-noted c.args.table.now c.args.pool.now c.args.notes.now _ _ c.requires.table_in_bounds c.check_numbered.auto.notes c.check_numbered.ensures.value c.check_numbered.ensures.named }
