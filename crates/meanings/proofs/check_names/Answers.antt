-- `meanings::check_names` meets its contract.
use native.Mathlib.Omega.{arith}
use mathlib.Core.Path.{sym, ◌∙◌, subst}
use lib.Dec.{ltb}
use Rattle.rules.specs.Table.{nodes, row_count}
use Rattle.rules.specs.declared.Refusal.{Refusal}
use Rattle.scopes.specs.Standing.{Standing}
use Rattle.markup.specs.Writing.{lowest_row, is_inherited}
use Rattle.meanings.specs.Names.{undeclared}
use Rattle.unsettled.proofs.Walking.{few, ready, open-room, walkable-moved}
use Rattle.meanings.proofs.Names.{writable-means, lowest-undeclared, second-told, first-told}
use Rattle.meanings.proofs.check_names.Goals as goal

pub position_of-position-requires : goal.position_of-position-requires
position_of-position-requires c = omega (arith, few c.requires.by_index.1, c.requires.element_bound.0)

pub go-requires : goal.go-requires
go-requires c =
    record { ready = ready c.requires.by_index.1; from_bound = (omega arith, omega (arith, c.requires.element_bound.0)); standing = c.requires.standing }

pub check_inherited-inherited-requires : goal.check_inherited-inherited-requires
check_inherited-inherited-requires c =
    let w = c.requires.by_index.1 in
    let moved = (walkable-moved w c.go.new.tops c.go.new.path c.go.auto.tops c.go.auto.path c.go.ensures.untouched) in record { table_bound = (few w, w.noted); by_index = λ r below. open-room moved r below }

pub lowest_from-row-requires : goal.lowest_from-row-requires
lowest_from-row-requires c =
    record { by_index = (c.requires.by_index.0, (walkable-moved c.requires.by_index.1 c.go.new.tops c.go.new.path c.go.auto.tops c.go.auto.path c.go.ensures.untouched)); standing = (c.go.ensures.standing_2, omega (arith, c.requires.element_bound.0)); table_in_bounds = c.requires.element_bound.1 }

pub returns-then-has_row : goal.returns-then-has_row
returns-then-has_row c =
    λ pool w flagged kind writable.
    let moved = (walkable-moved w c.go.new.tops c.go.new.path c.go.auto.tops c.go.auto.path c.go.ensures.untouched) in
    first-told (lowest_row (nodes c.args.table.now pool) (undeclared (nodes c.args.table.now pool) c.args.element.0) Refusal.Undeclared) (lowest_row (nodes c.args.table.now pool) (is_inherited (nodes c.args.table.now pool) c.args.element.0) Refusal.Inherited) (ltb c.lowest_from-row.result.0 (row_count c.args.table.now)) (Refusal.Undeclared c.lowest_from-row.result) (lowest-undeclared w c.args.flags.now c.args.element.0 flagged kind c.lowest_from-row.result.0 (c.lowest_from-row.ensures pool moved (writable-means w c.args.flags.now c.args.element.0 flagged kind c.args.first.0 writable))) (sym c.has_row.ensures ∙ c.if-has_row.true)

pub returns : goal.returns
returns c =
    λ pool w flagged kind writable.
    let moved = (walkable-moved w c.go.new.tops c.go.new.path c.go.auto.tops c.go.auto.path c.go.ensures.untouched) in
    second-told (lowest_row (nodes c.args.table.now pool) (undeclared (nodes c.args.table.now pool) c.args.element.0) Refusal.Undeclared) (lowest_row (nodes c.args.table.now pool) (is_inherited (nodes c.args.table.now pool) c.args.element.0) Refusal.Inherited) (ltb c.lowest_from-row.result.0 (row_count c.args.table.now)) (Refusal.Undeclared c.lowest_from-row.result) (lowest-undeclared w c.args.flags.now c.args.element.0 flagged kind c.lowest_from-row.result.0 (c.lowest_from-row.ensures pool moved (writable-means w c.args.flags.now c.args.element.0 flagged kind c.args.first.0 writable))) (sym c.has_row.ensures ∙ c.if-has_row.false) (c.check_inherited-inherited.ensures pool c.go.new.path moved (subst (Standing c.args.table.now c.args.notes.now c.go.new.tops c.go.new.path) c.position_of-position.ensures c.go.ensures.standing_2) c.requires.element_bound.0 kind)
