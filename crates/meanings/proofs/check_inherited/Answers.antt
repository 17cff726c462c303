use Prim.Native.Nat.{◌<◌, ◌≤◌}
use native.Mathlib.Omega.{arith}
use mathlib.Core.Path.{sym, ◌∙◌}
use Rattle.rules.specs.Table.{row_count, nodes}
use Rattle.rules.specs.declared.Refusal.{Refusal}
use Rattle.markup.specs.Writing.{is_inherited}
use Rattle.subtree.proofs.Scans.{scan-start, scan-found, scan-next, scan-end}
use Rattle.meanings.proofs.Names.{open_is}
use Rattle.meanings.proofs.check_inherited.Goals as goal

pub loop-r-init : goal.loop-r-init
loop-r-init c =
    λ pool path w standing within kind. scan-start c.args.table.now pool (is_inherited (nodes c.args.table.now pool) c.args.element.0) Refusal.Inherited

pub returns-then-is_open : goal.returns-then-is_open
returns-then-is_open c =
    let less : c.loop-r.r < row_count c.args.table.now = omega arith in
    λ pool path w standing within kind.
    sym (scan-found c.args.table.now pool (is_inherited (nodes c.args.table.now pool) c.args.element.0) Refusal.Inherited c.loop-r.r (c.loop-r.invariant pool path w standing within kind) less c.is_open.result (c.is_open.ensures ∙ open_is w c.args.element.0 standing within kind c.loop-r.r less) c.if-is_open.true)

pub loop-r-preserved : goal.loop-r-preserved
loop-r-preserved c =
    let less : c.loop-r.r < row_count c.args.table.now = omega arith in
    λ pool path w standing within kind.
    scan-next c.args.table.now pool (is_inherited (nodes c.args.table.now pool) c.args.element.0) Refusal.Inherited c.loop-r.r (c.loop-r.invariant pool path w standing within kind) less c.is_open.result (c.is_open.ensures ∙ open_is w c.args.element.0 standing within kind c.loop-r.r less) c.if-is_open.false

pub returns : goal.returns
returns c =
    let past : row_count c.args.table.now ≤ c.loop-r.r = omega arith in
    λ pool path w standing within kind.
    sym (scan-end c.args.table.now pool (is_inherited (nodes c.args.table.now pool) c.args.element.0) Refusal.Inherited c.loop-r.r (c.loop-r.invariant pool path w standing within kind) past)
