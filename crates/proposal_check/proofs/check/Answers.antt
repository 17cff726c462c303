-- `check` meets its contract.
use native.Mathlib.Omega.{arith}
use Rattle.rules.specs.Table.{MOST_ROWS}
use Rattle.proposal_check.proofs.NotesKept.{new-notes}
use Rattle.proposal_check.proofs.check.Goals as goal

pub check_small-requires : goal.check_small-requires
check_small-requires c = omega (arith, c.row_count.ensures, c.if-row_count-le-FEW_ROWS.true)

pub check_original-requires : goal.check_original-requires
check_original-requires c = new-notes c.args.original.now MOST_ROWS 0 (λ h. h)
