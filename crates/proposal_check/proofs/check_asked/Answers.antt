-- `check_asked` meets its contract.
use Rattle.proposal_check.proofs.Order.{lookup-accepted, rows-refused, rows-passed}
use Rattle.proposal_check.proofs.Noting.{ground-noted}
use Rattle.std.proofs.lemmas.Result.{err_from_is_err_and}
use Rattle.proposal_check.proofs.check_asked.Goals as goal

pub check-requires : goal.check-requires
check-requires c =
    record { pool_value = (c.requires.pool_value, lookup-accepted c.args.proposal.now c.args.other.now 0 c.requires.grounded.unrefused); noted = (c.requires.noted, ground-noted c.args.proposal.now c.args.other.now 0 c.args.notes.now _ _ c.requires.grounded) }

pub returns : goal.returns
returns c =
    rows-passed c.args.original.now c.args.pool.now c.args.proposal.now c.args.other.now c.requires.pool_value (lookup-accepted c.args.proposal.now c.args.other.now 0 c.requires.grounded.unrefused) c.check.ensures c.in_ok-check.was (c.check_names.ensures c.args.other.now c.requires.grounded)

pub returns-in_err-check : goal.returns-in_err-check
returns-in_err-check c =
    let p = err_from_is_err_and c.from_residual.result c.from_residual.ensures.1 in
    rw (p.1, p.2)
    (rows-refused c.args.original.now c.args.pool.now c.args.proposal.now c.args.other.now c.requires.pool_value (lookup-accepted c.args.proposal.now c.args.other.now 0 c.requires.grounded.unrefused) c.check.ensures _ c.in_err-check.was)
