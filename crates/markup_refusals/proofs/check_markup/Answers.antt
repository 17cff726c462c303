use Prim.Native.Nat.{◌<◌, ◌≤◌}
use native.Mathlib.Omega.{arith}
use mathlib.Core.Path.{sym, ◌∙◌}
use Rattle.rules.specs.Table.{row_count}
use Rattle.rules.specs.declared.Refusal.{Refusal}
use Rattle.subtree.proofs.Scans.{scan-start, scan-found, scan-next, scan-end}
use Rattle.markup_refusals.proofs.Tests.{foreign, foreign-is}
use Rattle.markup_refusals.proofs.check_markup.Goals as goal

pub loop-r-init : goal.loop-r-init
loop-r-init c = λ e pool flagged. scan-start c.args.table.now pool (foreign c.args.table.now pool e) Refusal.NotMarkup

pub returns-then-is_foreign : goal.returns-then-is_foreign
returns-then-is_foreign c =
    let less : c.loop-r.r < row_count c.args.table.now = omega arith in
    λ e pool flagged. sym (scan-found c.args.table.now pool (foreign c.args.table.now pool e) Refusal.NotMarkup c.loop-r.r (c.loop-r.invariant e pool flagged) less c.is_foreign.result (c.is_foreign.ensures ∙ foreign-is c.args.table.now pool c.args.flags.now e flagged c.loop-r.r less) c.if-is_foreign.true)

pub loop-r-preserved : goal.loop-r-preserved
loop-r-preserved c =
    let less : c.loop-r.r < row_count c.args.table.now = omega arith in
    λ e pool flagged. scan-next c.args.table.now pool (foreign c.args.table.now pool e) Refusal.NotMarkup c.loop-r.r (c.loop-r.invariant e pool flagged) less c.is_foreign.result (c.is_foreign.ensures ∙ foreign-is c.args.table.now pool c.args.flags.now e flagged c.loop-r.r less) c.if-is_foreign.false

pub returns : goal.returns
returns c =
    let past : row_count c.args.table.now ≤ c.loop-r.r = omega arith in
    λ e pool flagged. sym (scan-end c.args.table.now pool (foreign c.args.table.now pool e) Refusal.NotMarkup c.loop-r.r (c.loop-r.invariant e pool flagged) past)
