use Prim.Native.Nat.{◌<◌, ◌≤◌}
use mathlib.Core.Path.{sym, ◌∙◌}
use native.Mathlib.Omega.{arith}
use lib.ListN.{length}
use Rattle.rules.specs.Table.{row_count, nodes}
use Rattle.rules.specs.declared.Refusal.{Refusal}
use Rattle.rules.proofs.Table.{length-nodes}
use Rattle.unsettled.proofs.Walking.{few, walkable-kept}
use Rattle.proposals.specs.Proposals.{is_unresolved}
use Rattle.proposals.proofs.Scans.{scan-found, scan-next, scan-end}
use Rattle.resolution.proofs.check_in.Goals as goal

pub overflow_cast-rows : goal.overflow_cast-rows
overflow_cast-rows c = omega (arith, few c.requires.by_index.1)

pub returns-then-resolved : goal.returns-then-resolved
returns-then-resolved c =
    let t = c.args.table.now in
    let less : c.loop-r.r < row_count t = omega arith in
    λ pool w. sym (scan-found (is_unresolved (nodes t pool)) Refusal.Unresolved (length (nodes t pool)) c.loop-r.r (c.loop-r.invariant.scanning pool w) (rw (length-nodes t pool) less) _ (c.resolve-resolved.ensures.by_index_2 pool (walkable-kept w c.loop-r.tops c.loop-r.path c.loop-r.auto.tops c.loop-r.auto.path c.loop-r.invariant.xml)) c.if-resolved.true)

pub loop-r-preserved : goal.loop-r-preserved
loop-r-preserved c =
    let t = c.args.table.now in
    let less : c.loop-r.r < row_count t = omega arith in
    record {
      xml = c.resolve-resolved.ensures.noted_2.1 ∙ c.loop-r.invariant.xml;
      standing = c.resolve-resolved.ensures.standing_2.0;
      low = c.resolve-resolved.ensures.standing_2.1;
      noted = c.resolve-resolved.ensures.noted_2.0;
      remembered = rw (c.loop-r.auto.tops, c.loop-r.auto.path, c.loop-r.invariant.xml) at c.resolve-resolved.ensures.known_2;
      scanning = λ pool w. scan-next (is_unresolved (nodes t pool)) Refusal.Unresolved (length (nodes t pool)) c.loop-r.r (c.loop-r.invariant.scanning pool w) (rw (length-nodes t pool) less) _ (c.resolve-resolved.ensures.by_index_2 pool (walkable-kept w c.loop-r.tops c.loop-r.path c.loop-r.auto.tops c.loop-r.auto.path c.loop-r.invariant.xml)) c.if-resolved.false;
    }

pub returns : goal.returns
returns c =
    let t = c.args.table.now in
    let past : row_count t ≤ c.loop-r.r = omega arith in
    λ pool w. sym (scan-end (is_unresolved (nodes t pool)) Refusal.Unresolved (length (nodes t pool)) c.loop-r.r (c.loop-r.invariant.scanning pool w) (rw (length-nodes t pool) past))
