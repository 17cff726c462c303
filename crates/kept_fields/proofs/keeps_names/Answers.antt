-- `keeps_names` meets its contract.
use mathlib.Core.Path.{refl, sym, ◌∙◌}
use mathlib.Core.Bool.{◌&&◌}
use native.Mathlib.Omega.{arith}
use lib.Dec.{eqb}
use Rattle.rules.specs.Lists.{same_bytes}
use Rattle.rules.specs.Table.{NONE, PREFIX, LOCAL_NAME, URI, ATTRIBUTE, field_at}
use Rattle.kept_fields.proofs.Fields.{text-names, local-lost, uri-lost, prefix-decides, names-kept}
use Rattle.kept_fields.proofs.keeps_names.Goals as goal

pub returns-then-kind-eq-TEXT : goal.returns-then-kind-eq-TEXT
returns-then-kind-eq-TEXT c =
    record { value = text-names c.args.original.now c.args.pool.now c.args.proposal.now c.args.other.now c.args.row.0 c.args.kind (eqb c.args.owner.0 NONE) c.requires.placed.0 c.requires.placed.1 c.requires.row_bound.0 c.requires.row_bound.1 c.requires.kind_value.0 c.requires.kind_value.1 c.if-kind-eq-TEXT.true; meeting_2 = c.requires.meeting }

pub keeps_name-requires : goal.keeps_name-requires
keeps_name-requires c =
    record { placed = c.requires.placed; meeting = c.requires.meeting; row_bound = (c.requires.row_bound.0, c.requires.row_bound.1, (omega arith, refl)) }

pub returns-then-not-keeps_name : goal.returns-then-not-keeps_name
returns-then-not-keeps_name c =
    record { value = local-lost (same_bytes (field_at c.args.proposal.now c.args.other.now c.args.row.0 LOCAL_NAME).bytes (field_at c.args.original.now c.args.pool.now c.args.row.0 LOCAL_NAME).bytes) (same_bytes (field_at c.args.proposal.now c.args.other.now c.args.row.0 URI).bytes (field_at c.args.original.now c.args.pool.now c.args.row.0 URI).bytes) (eqb c.args.kind ATTRIBUTE && eqb c.args.owner.0 NONE) (same_bytes (field_at c.args.proposal.now c.args.other.now c.args.row.0 PREFIX).bytes (field_at c.args.original.now c.args.pool.now c.args.row.0 PREFIX).bytes) (sym c.keeps_name.ensures.value ∙ c.if-not-keeps_name.true); meeting_2 = c.keeps_name.ensures.meeting_2 }

pub keeps_name-requires-2 : goal.keeps_name-requires-2
keeps_name-requires-2 c =
    record { placed = c.requires.placed; meeting = c.keeps_name.ensures.meeting_2; row_bound = (c.requires.row_bound.0, c.requires.row_bound.1, (omega arith, refl)) }

pub returns-then-not-keeps_name-2 : goal.returns-then-not-keeps_name-2
returns-then-not-keeps_name-2 c =
    record { value = uri-lost (same_bytes (field_at c.args.proposal.now c.args.other.now c.args.row.0 LOCAL_NAME).bytes (field_at c.args.original.now c.args.pool.now c.args.row.0 LOCAL_NAME).bytes) (same_bytes (field_at c.args.proposal.now c.args.other.now c.args.row.0 URI).bytes (field_at c.args.original.now c.args.pool.now c.args.row.0 URI).bytes) (eqb c.args.kind ATTRIBUTE && eqb c.args.owner.0 NONE) (same_bytes (field_at c.args.proposal.now c.args.other.now c.args.row.0 PREFIX).bytes (field_at c.args.original.now c.args.pool.now c.args.row.0 PREFIX).bytes) (sym c.keeps_name.ensures.value ∙ c.if-not-keeps_name.false) (sym c.keeps_name-2.ensures.value ∙ c.if-not-keeps_name-2.true); meeting_2 = c.keeps_name-2.ensures.meeting_2 }

pub keeps_name-requires-then-kind-owner : goal.keeps_name-requires-then-kind-owner
keeps_name-requires-then-kind-owner c =
    record { placed = c.requires.placed; meeting = c.keeps_name-2.ensures.meeting_2; row_bound = (c.requires.row_bound.0, c.requires.row_bound.1, (omega arith, refl)) }

pub returns-then-kind-owner : goal.returns-then-kind-owner
returns-then-kind-owner c =
    record { value = prefix-decides (same_bytes (field_at c.args.proposal.now c.args.other.now c.args.row.0 LOCAL_NAME).bytes (field_at c.args.original.now c.args.pool.now c.args.row.0 LOCAL_NAME).bytes) (same_bytes (field_at c.args.proposal.now c.args.other.now c.args.row.0 URI).bytes (field_at c.args.original.now c.args.pool.now c.args.row.0 URI).bytes) (eqb c.args.kind ATTRIBUTE && eqb c.args.owner.0 NONE) (same_bytes (field_at c.args.proposal.now c.args.other.now c.args.row.0 PREFIX).bytes (field_at c.args.original.now c.args.pool.now c.args.row.0 PREFIX).bytes) (sym c.keeps_name.ensures.value ∙ c.if-not-keeps_name.false) (sym c.keeps_name-2.ensures.value ∙ c.if-not-keeps_name-2.false) c.if-kind-owner.true c.keeps_name-then-kind-owner.ensures.value; meeting_2 = c.keeps_name-then-kind-owner.ensures.meeting_2 }

pub returns : goal.returns
returns c =
    record { value = names-kept (same_bytes (field_at c.args.proposal.now c.args.other.now c.args.row.0 LOCAL_NAME).bytes (field_at c.args.original.now c.args.pool.now c.args.row.0 LOCAL_NAME).bytes) (same_bytes (field_at c.args.proposal.now c.args.other.now c.args.row.0 URI).bytes (field_at c.args.original.now c.args.pool.now c.args.row.0 URI).bytes) (eqb c.args.kind ATTRIBUTE && eqb c.args.owner.0 NONE) (same_bytes (field_at c.args.proposal.now c.args.other.now c.args.row.0 PREFIX).bytes (field_at c.args.original.now c.args.pool.now c.args.row.0 PREFIX).bytes) (sym c.keeps_name.ensures.value ∙ c.if-not-keeps_name.false) (sym c.keeps_name-2.ensures.value ∙ c.if-not-keeps_name-2.false) c.if-kind-owner.false; meeting_2 = c.keeps_name-2.ensures.meeting_2 }
