use Prim.Native.Nat.{◌<◌, ◌≤◌}
use mathlib.Core.Path.{refl, sym, ap, ◌∙◌}
use mathlib.Core.Bool.{not}
use native.Mathlib.Omega.{arith}
use lib.ListN.{length}
use borrow.Author.Tests.{ltb-true}
use Rattle.rules.specs.Table.{row_count, nodes}
use Rattle.rules.specs.declared.Refusal.{Refusal}
use Rattle.rules.proofs.Table.{length-nodes}
use Rattle.proposals.proofs.Scans.{scan-found, scan-next, scan-end}
use Rattle.further_rows.proofs.Rows.{row_inside}
use Rattle.kept_rows.specs.Lost.{is_lost}
use Rattle.kept_rows.proofs.Rows.{missing, changed}
use Rattle.kept_rows.proofs.check_kept.Goals as goal

pub returns-then-not-has_row : goal.returns-then-not-has_row
returns-then-not-has_row c =
    let less : c.loop-r.r < row_count c.args.original.now = omega arith in
    let gone = sym c.has_row.ensures ∙ c.if-not-has_row.true in
    sym (scan-found (is_lost (nodes c.args.original.now c.args.pool.now) (nodes c.args.proposal.now c.args.other.now)) Refusal.Changed (length (nodes c.args.original.now c.args.pool.now)) c.loop-r.r c.loop-r.invariant.scanning (row_inside c.args.original.now c.args.pool.now less) _ (missing c.args.original.now c.args.pool.now c.args.proposal.now c.args.other.now c.loop-r.r less gone) refl)

pub returns-then-not-keeps_row : goal.returns-then-not-keeps_row
returns-then-not-keeps_row c =
    let less : c.loop-r.r < row_count c.args.original.now = omega arith in
    let there = ltb-true c.loop-r.r (row_count c.args.proposal.now) (sym c.has_row.ensures ∙ c.if-not-has_row.false) in
    sym (scan-found (is_lost (nodes c.args.original.now c.args.pool.now) (nodes c.args.proposal.now c.args.other.now)) Refusal.Changed (length (nodes c.args.original.now c.args.pool.now)) c.loop-r.r c.loop-r.invariant.scanning (row_inside c.args.original.now c.args.pool.now less) _ (changed c.args.original.now c.args.pool.now c.args.proposal.now c.args.other.now c.loop-r.r less there c.keeps_row.result c.keeps_row.ensures.value) (ap not c.if-not-keeps_row.true))

pub loop-r-preserved : goal.loop-r-preserved
loop-r-preserved c =
    let less : c.loop-r.r < row_count c.args.original.now = omega arith in
    let there = ltb-true c.loop-r.r (row_count c.args.proposal.now) (sym c.has_row.ensures ∙ c.if-not-has_row.false) in
    record {
      meeting = c.keeps_row.ensures.meeting_2;
      pairs = c.keeps_row.ensures.pairs_2;
      scanning = scan-next (is_lost (nodes c.args.original.now c.args.pool.now) (nodes c.args.proposal.now c.args.other.now)) Refusal.Changed (length (nodes c.args.original.now c.args.pool.now)) c.loop-r.r c.loop-r.invariant.scanning (row_inside c.args.original.now c.args.pool.now less) _ (changed c.args.original.now c.args.pool.now c.args.proposal.now c.args.other.now c.loop-r.r less there c.keeps_row.result c.keeps_row.ensures.value) (ap not c.if-not-keeps_row.false);
    }

pub returns : goal.returns
returns c =
    let past : row_count c.args.original.now ≤ c.loop-r.r = omega arith in
    sym (scan-end (is_lost (nodes c.args.original.now c.args.pool.now) (nodes c.args.proposal.now c.args.other.now)) Refusal.Changed (length (nodes c.args.original.now c.args.pool.now)) c.loop-r.r c.loop-r.invariant.scanning (rw (length-nodes c.args.original.now c.args.pool.now) past))
