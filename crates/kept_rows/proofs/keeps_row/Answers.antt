-- `keeps_row` meets its contract.
use mathlib.Core.Path.{◌≡◌, sym, ◌∙◌}
use Rattle.rules.specs.Table.{node_at}
use Rattle.kept_rows.proofs.Rows.{names, value, other-core, same-type, other-names, value-left}
use Rattle.kept_rows.proofs.keeps_row.Goals as goal

pub returns-then-kind-parent : goal.returns-then-kind-parent
returns-then-kind-parent c =
    record { value = other-core (node_at c.args.original.now c.args.pool.now c.args.row.0) (node_at c.args.proposal.now c.args.other.now c.args.row.0) c.kind-kind.ensures c.parent-owner.ensures c.kind.ensures c.parent.ensures c.maker.ensures c.maker-2.ensures c.is_level1.ensures c.if-kind-parent.true; meeting_2 = c.requires.meeting; pairs_2 = c.requires.pairs }

pub keeps_names-requires : goal.keeps_names-requires
keeps_names-requires c =
    record { placed = c.requires.placed; meeting = c.requires.meeting; row_bound = c.requires.row_bound; kind_value = (c.kind-kind.ensures, same-type (node_at c.args.original.now c.args.pool.now c.args.row.0) (node_at c.args.proposal.now c.args.other.now c.args.row.0) c.kind-kind.ensures c.parent-owner.ensures c.kind.ensures c.parent.ensures c.maker.ensures c.maker-2.ensures c.is_level1.ensures c.if-kind-parent.false) }

pub returns-then-not-keeps_names : goal.returns-then-not-keeps_names
returns-then-not-keeps_names c =
    let told : c.keeps_names.result ≡ names (node_at c.args.original.now c.args.pool.now c.args.row.0) (node_at c.args.proposal.now c.args.other.now c.args.row.0) = rw (c.kind-kind.ensures, c.parent-owner.ensures) at c.keeps_names.ensures.value in record { value = other-names (node_at c.args.original.now c.args.pool.now c.args.row.0) (node_at c.args.proposal.now c.args.other.now c.args.row.0) c.kind-kind.ensures c.parent-owner.ensures c.kind.ensures c.parent.ensures c.maker.ensures c.maker-2.ensures c.is_level1.ensures c.if-kind-parent.false (sym told ∙ c.if-not-keeps_names.true); meeting_2 = c.keeps_names.ensures.meeting_2; pairs_2 = c.requires.pairs }

pub keeps_value-requires : goal.keeps_value-requires
keeps_value-requires c =
    record { placed = c.requires.placed; pairs = c.requires.pairs; alike = c.requires.alike; row_bound = c.requires.row_bound }

pub returns : goal.returns
returns c =
    let told : c.keeps_names.result ≡ names (node_at c.args.original.now c.args.pool.now c.args.row.0) (node_at c.args.proposal.now c.args.other.now c.args.row.0) = rw (c.kind-kind.ensures, c.parent-owner.ensures) at c.keeps_names.ensures.value in
    let kept : c.keeps_value.result ≡ value (node_at c.args.original.now c.args.pool.now c.args.row.0) (node_at c.args.proposal.now c.args.other.now c.args.row.0) = rw c.kind-kind.ensures at c.keeps_value.ensures.value in record { value = kept ∙ value-left (node_at c.args.original.now c.args.pool.now c.args.row.0) (node_at c.args.proposal.now c.args.other.now c.args.row.0) c.kind-kind.ensures c.parent-owner.ensures c.kind.ensures c.parent.ensures c.maker.ensures c.maker-2.ensures c.is_level1.ensures c.if-kind-parent.false (sym told ∙ c.if-not-keeps_names.false); meeting_2 = c.keeps_names.ensures.meeting_2; pairs_2 = c.keeps_value.ensures.pairs_2 }
