use Prim.Native.Nat.{◌<◌, ◌≤◌}
use native.Mathlib.Omega.{arith}
use mathlib.Core.Path.{sym, ◌∙◌}
use Rattle.rules.specs.Table.{row_count}
use Rattle.rules.specs.declared.Refusal.{Refusal}
use Rattle.subtree.proofs.Scans.{scan-start, scan-found, scan-next, scan-end}
use Rattle.markup_refusals.proofs.Tests.{spoiled, spoiled-is, few}
use Rattle.markup_refusals.proofs.check_values.Goals as goal

pub loop-r-init : goal.loop-r-init
loop-r-init c =
    λ e flagged. scan-start c.args.table.now c.args.pool.now (spoiled c.args.table.now c.args.pool.now e) Refusal.Character

pub overflow_cast-rows : goal.overflow_cast-rows
overflow_cast-rows c = omega (arith, few c.args.table.now c.args.pool.now c.requires.pool_value)

pub returns-then-is_spoiled : goal.returns-then-is_spoiled
returns-then-is_spoiled c =
    let less : c.loop-r.r < row_count c.args.table.now = omega arith in
    λ e flagged. sym (scan-found c.args.table.now c.args.pool.now (spoiled c.args.table.now c.args.pool.now e) Refusal.Character c.loop-r.r (c.loop-r.invariant e flagged) less c.is_spoiled.result (c.is_spoiled.ensures ∙ spoiled-is c.args.table.now c.args.pool.now c.args.flags.now e flagged c.loop-r.r less c.requires.pool_value) c.if-is_spoiled.true)

pub loop-r-preserved : goal.loop-r-preserved
loop-r-preserved c =
    let less : c.loop-r.r < row_count c.args.table.now = omega arith in
    λ e flagged. scan-next c.args.table.now c.args.pool.now (spoiled c.args.table.now c.args.pool.now e) Refusal.Character c.loop-r.r (c.loop-r.invariant e flagged) less c.is_spoiled.result (c.is_spoiled.ensures ∙ spoiled-is c.args.table.now c.args.pool.now c.args.flags.now e flagged c.loop-r.r less c.requires.pool_value) c.if-is_spoiled.false

pub returns : goal.returns
returns c =
    let past : row_count c.args.table.now ≤ c.loop-r.r = omega arith in
    λ e flagged. sym (scan-end c.args.table.now c.args.pool.now (spoiled c.args.table.now c.args.pool.now e) Refusal.Character c.loop-r.r (c.loop-r.invariant e flagged) past)
