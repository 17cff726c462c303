-- `check_small` meets its contract.
use Rattle.table_size.specs.Small.{FEW_ROWS}
use Rattle.proposal_check.proofs.NotesKept.{new-notes}
use Rattle.proposal_check.proofs.check_small.Goals as goal

pub check_original-requires : goal.check_original-requires
check_original-requires c = new-notes c.args.original.now FEW_ROWS 0 (λ h. c.requires)
