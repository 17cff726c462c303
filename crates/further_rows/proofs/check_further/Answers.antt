use Prim.Native.Nat.{◌≤◌, ◌<◌}
use mathlib.Core.Path.{sym, ap}
use mathlib.Core.Bool.{not}
use native.Mathlib.Omega.{arith}
use lib.ListN.{length}
use borrow.Author.Tests.{eq-eqb, ne_eqb}
use Rattle.rules.specs.Table.{row_count, nodes}
use Rattle.rules.specs.declared.Refusal.{Refusal}
use Rattle.rules.proofs.Table.{length-nodes}
use Rattle.proposals.specs.Proposals.{is_foreign}
use Rattle.proposals.proofs.Scans.{scan-found, scan-next, scan-end}
use Rattle.further_rows.proofs.Rows.{row_inside, further-start, foreign-told}
use Rattle.further_rows.proofs.check_further.Goals as goal

pub loop-r-init : goal.loop-r-init
loop-r-init c = rw c.row_count-kept.ensures (further-start c.args.original.now c.args.pool.now c.args.proposal.now c.args.other.now)

pub returns-then-kind-ne-DECLARATION : goal.returns-then-kind-ne-DECLARATION
returns-then-kind-ne-DECLARATION c =
    let t = c.args.proposal.now in
    let less : c.loop-r.r < row_count t = omega arith in
    let past : row_count c.args.original.now ≤ c.loop-r.r = omega arith in
    sym (scan-found (is_foreign (nodes c.args.original.now c.args.pool.now) (nodes t c.args.other.now)) Refusal.Changed (length (nodes t c.args.other.now)) c.loop-r.r c.loop-r.invariant (row_inside t c.args.other.now less) _ (foreign-told c.args.original.now c.args.pool.now c.args.proposal.now c.args.other.now c.loop-r.r less past c.kind.ensures) (ap not (ne_eqb _ _ c.if-kind-ne-DECLARATION.true)))

pub loop-r-preserved : goal.loop-r-preserved
loop-r-preserved c =
    let t = c.args.proposal.now in
    let less : c.loop-r.r < row_count t = omega arith in
    let past : row_count c.args.original.now ≤ c.loop-r.r = omega arith in
    scan-next (is_foreign (nodes c.args.original.now c.args.pool.now) (nodes t c.args.other.now)) Refusal.Changed (length (nodes t c.args.other.now)) c.loop-r.r c.loop-r.invariant (row_inside t c.args.other.now less) _ (foreign-told c.args.original.now c.args.pool.now c.args.proposal.now c.args.other.now c.loop-r.r less past c.kind.ensures) (ap not (eq-eqb _ _ c.if-kind-ne-DECLARATION.false))

pub returns : goal.returns
returns c =
    let t = c.args.proposal.now in
    let past : row_count t ≤ c.loop-r.r = omega arith in
    sym (scan-end (is_foreign (nodes c.args.original.now c.args.pool.now) (nodes t c.args.other.now)) Refusal.Changed (length (nodes t c.args.other.now)) c.loop-r.r c.loop-r.invariant (rw (length-nodes t c.args.other.now) past))
