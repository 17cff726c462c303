-- `encoding::check` meets its contract.
use mathlib.Core.Path.{◌≡◌, ap, ◌∙◌}
use mathlib.Core.Bool.{true, not}
use Rattle.rules.specs.Table.{node_at}
use Rattle.rules.specs.Utf8.{well_formed}
use Rattle.row_names.proofs.Tests.{kind-prefix, kind-local, kind-uri, is-malformed, is-well-formed}
use Rattle.name_refusals.proofs.Drawn.{encoding-prefix, encoding-local, encoding-uri, encoding-value, encoding-passed}
use Rattle.name_refusals.proofs.encoding.check.Goals as goal

pub returns-then-kinds-eq-MALFORMED : goal.returns-then-kinds-eq-MALFORMED
returns-then-kinds-eq-MALFORMED c =
    c.malformed.ensures ∙ encoding-prefix c.args.row.0 ((node_at c.args.table.now c.args.pool.now c.args.row.0)) (is-malformed ((node_at c.args.table.now c.args.pool.now c.args.row.0)).prefix.bytes (kind-prefix ((node_at c.args.table.now c.args.pool.now c.args.row.0)) c.requires.kinds_value) c.if-kinds-eq-MALFORMED.true)

pub returns-then-kinds-eq-MALFORMED-2 : goal.returns-then-kinds-eq-MALFORMED-2
returns-then-kinds-eq-MALFORMED-2 c =
    let fact : well_formed ((node_at c.args.table.now c.args.pool.now c.args.row.0)).prefix.bytes ≡ true = is-well-formed ((node_at c.args.table.now c.args.pool.now c.args.row.0)).prefix.bytes (kind-prefix ((node_at c.args.table.now c.args.pool.now c.args.row.0)) c.requires.kinds_value) c.if-kinds-eq-MALFORMED.false in
    c.malformed-then-kinds-eq-MALFORMED-2.ensures ∙ encoding-local c.args.row.0 ((node_at c.args.table.now c.args.pool.now c.args.row.0)) fact (is-malformed ((node_at c.args.table.now c.args.pool.now c.args.row.0)).local.bytes (kind-local ((node_at c.args.table.now c.args.pool.now c.args.row.0)) c.requires.kinds_value) c.if-kinds-eq-MALFORMED-2.true)

pub returns-then-kinds-eq-MALFORMED-3 : goal.returns-then-kinds-eq-MALFORMED-3
returns-then-kinds-eq-MALFORMED-3 c =
    let fact : well_formed ((node_at c.args.table.now c.args.pool.now c.args.row.0)).local.bytes ≡ true = is-well-formed ((node_at c.args.table.now c.args.pool.now c.args.row.0)).local.bytes (kind-local ((node_at c.args.table.now c.args.pool.now c.args.row.0)) c.requires.kinds_value) c.if-kinds-eq-MALFORMED-2.false in
    let fact2 : well_formed ((node_at c.args.table.now c.args.pool.now c.args.row.0)).prefix.bytes ≡ true = is-well-formed ((node_at c.args.table.now c.args.pool.now c.args.row.0)).prefix.bytes (kind-prefix ((node_at c.args.table.now c.args.pool.now c.args.row.0)) c.requires.kinds_value) c.if-kinds-eq-MALFORMED.false in
    c.malformed-then-kinds-eq-MALFORMED-3.ensures ∙ encoding-uri c.args.row.0 ((node_at c.args.table.now c.args.pool.now c.args.row.0)) fact2 fact (is-malformed ((node_at c.args.table.now c.args.pool.now c.args.row.0)).uri.bytes (kind-uri ((node_at c.args.table.now c.args.pool.now c.args.row.0)) c.requires.kinds_value) c.if-kinds-eq-MALFORMED-3.true)

pub returns-then-not-formed : goal.returns-then-not-formed
returns-then-not-formed c =
    let fact : well_formed ((node_at c.args.table.now c.args.pool.now c.args.row.0)).uri.bytes ≡ true = is-well-formed ((node_at c.args.table.now c.args.pool.now c.args.row.0)).uri.bytes (kind-uri ((node_at c.args.table.now c.args.pool.now c.args.row.0)) c.requires.kinds_value) c.if-kinds-eq-MALFORMED-3.false in
    let fact2 : well_formed ((node_at c.args.table.now c.args.pool.now c.args.row.0)).local.bytes ≡ true = is-well-formed ((node_at c.args.table.now c.args.pool.now c.args.row.0)).local.bytes (kind-local ((node_at c.args.table.now c.args.pool.now c.args.row.0)) c.requires.kinds_value) c.if-kinds-eq-MALFORMED-2.false in
    let fact3 : well_formed ((node_at c.args.table.now c.args.pool.now c.args.row.0)).prefix.bytes ≡ true = is-well-formed ((node_at c.args.table.now c.args.pool.now c.args.row.0)).prefix.bytes (kind-prefix ((node_at c.args.table.now c.args.pool.now c.args.row.0)) c.requires.kinds_value) c.if-kinds-eq-MALFORMED.false in
    c.malformed-then-not-formed.ensures ∙ encoding-value c.args.row.0 ((node_at c.args.table.now c.args.pool.now c.args.row.0)) fact3 fact2 fact (ap not c.requires.formed_value) c.if-not-formed.true-raw

pub returns : goal.returns
returns c =
    let fact : well_formed ((node_at c.args.table.now c.args.pool.now c.args.row.0)).uri.bytes ≡ true = is-well-formed ((node_at c.args.table.now c.args.pool.now c.args.row.0)).uri.bytes (kind-uri ((node_at c.args.table.now c.args.pool.now c.args.row.0)) c.requires.kinds_value) c.if-kinds-eq-MALFORMED-3.false in
    let fact2 : well_formed ((node_at c.args.table.now c.args.pool.now c.args.row.0)).local.bytes ≡ true = is-well-formed ((node_at c.args.table.now c.args.pool.now c.args.row.0)).local.bytes (kind-local ((node_at c.args.table.now c.args.pool.now c.args.row.0)) c.requires.kinds_value) c.if-kinds-eq-MALFORMED-2.false in
    let fact3 : well_formed ((node_at c.args.table.now c.args.pool.now c.args.row.0)).prefix.bytes ≡ true = is-well-formed ((node_at c.args.table.now c.args.pool.now c.args.row.0)).prefix.bytes (kind-prefix ((node_at c.args.table.now c.args.pool.now c.args.row.0)) c.requires.kinds_value) c.if-kinds-eq-MALFORMED.false in
    encoding-passed c.args.row.0 ((node_at c.args.table.now c.args.pool.now c.args.row.0)) fact3 fact2 fact (ap not c.requires.formed_value) c.if-not-formed.false-raw
