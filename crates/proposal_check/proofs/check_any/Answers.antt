-- `check_any` meets its contract.
use mathlib.Core.Path.{◌∙◌}
use native.Mathlib.Omega.{arith}
use Rattle.scope_preparation.proofs.Arrays.{zeros-blank, zeros-cleared}
use Rattle.proposal_check.proofs.Order.{lookup-refused, proposal-fails}
use Rattle.proposal_check.proofs.check_any.Goals as goal

pub begin-requires : goal.begin-requires
begin-requires c = zeros-blank c.args.proposal.now 8192 (λ small. omega arith)

pub check_asked-requires : goal.check_asked-requires
check_asked-requires c =
    record { pool_value = c.requires.pool_value.0; noted = c.requires.noted; grounded = c.begin.ensures.0 _ c.in-Ok.is; cleared = zeros-cleared c.args.proposal.now 9219 4100 (λ small. (omega arith, omega arith)) }

pub returns-in-Err : goal.returns-in-Err
returns-in-Err c =
    c.refuse_proposal.ensures ∙ proposal-fails c.args.original.now c.args.pool.now c.args.proposal.now c.args.other.now c.requires.pool_value.0 _ (lookup-refused c.args.proposal.now c.args.other.now _ c.requires.pool_value.1 (c.begin.ensures.1 _ c.in-Err.is))
