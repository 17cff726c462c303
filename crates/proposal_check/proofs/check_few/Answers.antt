-- `check_few` meets its contract.
use mathlib.Core.Path.{sym, ◌∙◌}
use borrow.Author.Tests.{ltb-true, ltb-false}
use Rattle.rules.specs.Table.{row_count}
use Rattle.rules.specs.declared.Refusal.{Refusal}
use Rattle.proposal_check.proofs.Order.{size-refused, size-accepted, proposal-fails, rows-alone}
use Rattle.proposal_check.proofs.Noting.{empty-noted}
use Rattle.proposal_check.proofs.check_few.Goals as goal

pub check_some-requires : goal.check_some-requires
check_some-requires c =
    record { pool_value = (c.requires.pool_value.0, c.requires.pool_value.1, ltb-true 0 (row_count c.args.proposal.now) (sym c.has_row.ensures ∙ c.if-has_row.true)); noted = c.requires.noted }

pub returns-then-is_bad : goal.returns-then-is_bad
returns-then-is_bad c =
    let bad = sym c.is_bad.ensures ∙ c.if-is_bad.true in
    c.refuse_proposal.ensures ∙ proposal-fails c.args.original.now c.args.pool.now c.args.proposal.now c.args.other.now c.requires.pool_value.0 Refusal.Size (size-refused c.args.proposal.now c.args.other.now bad)

pub check-requires : goal.check-requires
check-requires c =
    let empty = ltb-false 0 (row_count c.args.proposal.now) (sym c.has_row.ensures ∙ c.if-has_row.false) in
    let good = sym c.is_bad.ensures ∙ c.if-is_bad.false in record { pool_value = (c.requires.pool_value.0, size-accepted c.args.proposal.now c.args.other.now good empty); noted = (c.requires.noted, empty-noted c.args.proposal.now c.args.other.now c.args.mine.now empty) }

pub returns : goal.returns
returns c =
    let empty = ltb-false 0 (row_count c.args.proposal.now) (sym c.has_row.ensures ∙ c.if-has_row.false) in
    let good = sym c.is_bad.ensures ∙ c.if-is_bad.false in
    rows-alone c.args.original.now c.args.pool.now c.args.proposal.now c.args.other.now c.requires.pool_value.0 (size-accepted c.args.proposal.now c.args.other.now good empty) c.check.ensures empty
