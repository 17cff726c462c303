use Rattle.std.proofs.Common.{sym, arith}
use Rattle.levels.proofs.Scan.{scan-start, scan-found, scan-next}
use Rattle.levels.proofs.level1.Goals as goal

pub loop-r-init : goal.loop-r-init
loop-r-init c = λ pool. scan-start _ pool

pub returns-then-is_level1 : goal.returns-then-is_level1
returns-then-is_level1 c =
    λ pool.
    sym (scan-found _ pool _ (c.loop-r.invariant pool) (omega arith) _ c.kind.ensures _ c.is_level1.ensures c.if-is_level1.true)

pub loop-r-preserved : goal.loop-r-preserved
loop-r-preserved c =
    λ pool.
    scan-next _ pool _ (c.loop-r.invariant pool) (omega arith) _ c.kind.ensures _ c.is_level1.ensures c.if-is_level1.false
