-- `check_each` meets its contract.
use mathlib.Core.Path.{◌≡◌, sym, ◌∙◌}
use Rattle.rules.specs.Table.{node_at}
use Rattle.rules.specs.Refusals.{bad_names, bad_namespace}
use Rattle.name_refusals.proofs.Drawn.{refused-encoding, passed-encoding, refused-names, refused-namespace, refused_none}
use Rattle.std.proofs.Common.{ap, Err}
use Rattle.std.proofs.lemmas.Result.{err_from_is_err_and}
use Rattle.name_refusals.proofs.check_each.Goals as goal

pub returns-in_err-check : goal.returns-in_err-check
returns-in_err-check c =
    let p = err_from_is_err_and c.from_residual.result c.from_residual.ensures.1 in
    p.1 ∙ ap Err p.2 ∙ sym c.in_err-check.was
    ∙ (refused-encoding c.args.row.0 ((node_at c.args.table.now c.args.pool.now c.args.row.0)) c.check.ensures _ c.in_err-check.was)

pub returns-then-bad : goal.returns-then-bad
returns-then-bad c =
    let fact : c.bad.result ≡ bad_names ((node_at c.args.table.now c.args.pool.now c.args.row.0)) = c.bad.ensures ((node_at c.args.table.now c.args.pool.now c.args.row.0)) c.args.row.0 c.kind-row_type.ensures c.requires.kinds_value (passed-encoding c.args.row.0 ((node_at c.args.table.now c.args.pool.now c.args.row.0)) c.check.ensures c.in_ok-check.was) in
    refused-names c.args.row.0 ((node_at c.args.table.now c.args.pool.now c.args.row.0)) c.check.ensures c.in_ok-check.was (sym fact ∙ c.if-bad.true)

pub returns-then-bad-2 : goal.returns-then-bad-2
returns-then-bad-2 c =
    let fact : c.bad-2.result ≡ bad_namespace ((node_at c.args.table.now c.args.pool.now c.args.row.0)) = c.bad-2.ensures ((node_at c.args.table.now c.args.pool.now c.args.row.0)) c.kind-row_type.ensures c.requires.kinds_value in
    let fact2 : c.bad.result ≡ bad_names ((node_at c.args.table.now c.args.pool.now c.args.row.0)) = c.bad.ensures ((node_at c.args.table.now c.args.pool.now c.args.row.0)) c.args.row.0 c.kind-row_type.ensures c.requires.kinds_value (passed-encoding c.args.row.0 ((node_at c.args.table.now c.args.pool.now c.args.row.0)) c.check.ensures c.in_ok-check.was) in
    refused-namespace c.args.row.0 ((node_at c.args.table.now c.args.pool.now c.args.row.0)) c.check.ensures c.in_ok-check.was (sym fact2 ∙ c.if-bad.false) (sym fact ∙ c.if-bad-2.true)

pub returns : goal.returns
returns c =
    let fact : c.bad-2.result ≡ bad_namespace ((node_at c.args.table.now c.args.pool.now c.args.row.0)) = c.bad-2.ensures ((node_at c.args.table.now c.args.pool.now c.args.row.0)) c.kind-row_type.ensures c.requires.kinds_value in
    let fact2 : c.bad.result ≡ bad_names ((node_at c.args.table.now c.args.pool.now c.args.row.0)) = c.bad.ensures ((node_at c.args.table.now c.args.pool.now c.args.row.0)) c.args.row.0 c.kind-row_type.ensures c.requires.kinds_value (passed-encoding c.args.row.0 ((node_at c.args.table.now c.args.pool.now c.args.row.0)) c.check.ensures c.in_ok-check.was) in
    refused_none c.args.row.0 ((node_at c.args.table.now c.args.pool.now c.args.row.0)) c.check.ensures c.in_ok-check.was (sym fact2 ∙ c.if-bad.false) (sym fact ∙ c.if-bad-2.false)
