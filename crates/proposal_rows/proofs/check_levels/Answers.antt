use Prim.Native.Nat.{◌<◌, ◌≤◌}
use mathlib.Core.Path.{sym}
use native.Mathlib.Omega.{arith}
use lib.ListN.{length}
use Rattle.rules.specs.Table.{row_count, nodes}
use Rattle.rules.specs.declared.Refusal.{Refusal}
use Rattle.rules.proofs.Table.{length-nodes}
use Rattle.proposals.specs.Proposals.{is_level1_row}
use Rattle.proposals.proofs.Scans.{scan-found, scan-next, scan-end}
use Rattle.proposal_rows.proofs.Levels.{level-told}
use Rattle.proposal_rows.proofs.check_levels.Goals as goal

pub returns-then-is_level1 : goal.returns-then-is_level1
returns-then-is_level1 c =
    let inside : c.loop-r.r < row_count c.args.table.now = omega arith in
    λ pool.
    let t = c.args.table.now in
    sym (scan-found (is_level1_row (nodes t pool)) Refusal.ProposalLevel1 (length (nodes t pool)) _ (c.loop-r.invariant pool) (rw (length-nodes t pool) inside) _ (level-told t pool _ inside c.kind.ensures c.is_level1.ensures) c.if-is_level1.true)

pub loop-r-preserved : goal.loop-r-preserved
loop-r-preserved c =
    let inside : c.loop-r.r < row_count c.args.table.now = omega arith in
    λ pool.
    let t = c.args.table.now in
    scan-next (is_level1_row (nodes t pool)) Refusal.ProposalLevel1 (length (nodes t pool)) _ (c.loop-r.invariant pool) (rw (length-nodes t pool) inside) _ (level-told t pool _ inside c.kind.ensures c.is_level1.ensures) c.if-is_level1.false

pub returns : goal.returns
returns c =
    let t = c.args.table.now in
    let past : row_count t ≤ c.loop-r.r = omega arith in
    λ pool. sym (scan-end (is_level1_row (nodes t pool)) Refusal.ProposalLevel1 (length (nodes t pool)) _ (c.loop-r.invariant pool) (rw (length-nodes t pool) past))
