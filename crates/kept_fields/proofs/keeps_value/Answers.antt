-- `keeps_value` meets its contract.
use borrow.Author.Tests.{eq-eqb, ne_eqb}
use Rattle.rules.specs.Table.{VALUE}
use Rattle.kept_fields.proofs.Fields.{first-within, second-within, field-kept, free, bound_by}
use Rattle.kept_fields.proofs.keeps_value.Goals as goal

pub returns-then-kind-eq-DECLARATION : goal.returns-then-kind-eq-DECLARATION
returns-then-kind-eq-DECLARATION c = record { value = free (eq-eqb _ _ c.if-kind-eq-DECLARATION.true) _; pairs_2 = c.requires.pairs }

pub same-requires : goal.same-requires
same-requires c =
    record { pairs = c.requires.pairs; alike = c.requires.alike; within = first-within c.args.original.now c.args.pool.now c.args.proposal.now c.args.other.now c.args.row.0 VALUE c.place-first.ensures c.place-second.ensures (c.requires.placed.0.within c.args.row.0 c.requires.row_bound.0); within_2 = second-within c.args.original.now c.args.pool.now c.args.proposal.now c.args.other.now c.args.row.0 VALUE c.place-first.ensures c.place-second.ensures (c.requires.placed.1.within c.args.row.0 c.requires.row_bound.1) }

pub returns : goal.returns
returns c =
    record { value = bound_by (ne_eqb _ _ c.if-kind-eq-DECLARATION.false) (field-kept c.args.original.now c.args.pool.now c.args.proposal.now c.args.other.now c.args.row.0 VALUE c.place-first.ensures c.place-second.ensures c.same.ensures.value); pairs_2 = c.same.ensures.pairs_2 }
