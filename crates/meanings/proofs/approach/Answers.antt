-- `meanings::approach` meets its contract.
use Prim.Native.Nat.{ℕ, ◌+◌, ◌*◌}
use native.Mathlib.Omega.{arith}
use mathlib.Core.Path.{sym, ap, ◌∙◌, subst}
use lib.ListN.{set}
use Rattle.stacks.specs.Stacks.{PATH, NUMBERED}
use Rattle.scopes.specs.Standing.{Standing}
use Rattle.near_rows.specs.Outward.{is_leaf}
use Rattle.unsettled.proofs.Walking.{few, ready}
use Rattle.unsettled.proofs.Leaves.{parent-inner, noted-walkable}
use Rattle.meanings.proofs.Writable.{approached-leaf, noted-standing, approached-there, approached-moved}
use Rattle.meanings.proofs.approach.Goals as goal

pub returns-then-is_leaf : goal.returns-then-is_leaf
returns-then-is_leaf c =
    let w = c.requires.by_index.1 in let all = approached-leaf w c.args.row.0 c.requires.row_bound c.requires.noted c.requires.standing.0 c.requires.standing.1 (ap is_leaf (sym c.kind.ensures) ∙ sym c.is_leaf.ensures ∙ c.if-is_leaf.true) in record { standing_2 = all.0; standing_3 = all.1.0; noted_2 = all.1.1.0; path_unchanged = all.1.1.1 }

pub nearest-to-requires : goal.nearest-to-requires
nearest-to-requires c =
    let w = c.requires.by_index.1 in record { by_index = (_, ready w); row_bound = c.requires.row_bound; near = λ less. c.requires.noted _ less (parent-inner w c.args.row.0 c.requires.row_bound less) }

pub position_of-requires : goal.position_of-requires
position_of-requires c = omega (arith, few c.requires.by_index.1, c.requires.row_bound)

pub returns-then-to-from : goal.returns-then-to-from
returns-then-to-from c =
    let all = approached-there c.requires.by_index.1 c.args.row.0 c.requires.row_bound c.requires.noted c.nearest-to.result.0 c.nearest-to.ensures (c.set_beside.ensures ∙ ap (λ (k : ℕ). set c.args.path.now (PATH * k + NUMBERED) c.nearest-to.result.0) c.position_of.ensures)
    (subst (Standing c.args.table.now c.args.notes.now c.args.tops.now c.args.path.now) (sym c.if-to-from.true) c.requires.standing.0) in record { standing_2 = all.0; standing_3 = all.1.0; noted_2 = all.1.1.0; path_unchanged = all.1.1.1 }

pub go-requires : goal.go-requires
go-requires c =
    let noted = (c.set_beside.ensures ∙ ap (λ (k : ℕ). set c.args.path.now (PATH * k + NUMBERED) c.nearest-to.result.0) c.position_of.ensures) in
    let w = c.requires.by_index.1 in record { ready = ready (noted-walkable w c.args.row.0 c.requires.noted c.nearest-to.result.0 noted); from_bound = (c.requires.standing.1, c.nearest-to.ensures.low); standing = noted-standing w c.args.row.0 c.requires.row_bound c.requires.noted c.nearest-to.result.0 c.nearest-to.ensures noted c.args.from.0 c.requires.standing.0 }

pub returns : goal.returns
returns c =
    let all = approached-moved c.requires.by_index.1 c.args.row.0 c.requires.row_bound c.requires.noted c.nearest-to.result.0 c.nearest-to.ensures (c.set_beside.ensures ∙ ap (λ (k : ℕ). set c.args.path.now (PATH * k + NUMBERED) c.nearest-to.result.0) c.position_of.ensures) c.go.auto.tops c.go.auto.path c.go.ensures.standing_2 c.go.ensures.untouched in record { standing_2 = all.0; standing_3 = all.1.0; noted_2 = all.1.1.0; path_unchanged = all.1.1.1 }
