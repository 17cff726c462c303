-- `note_nearest` meets its contract.
use Prim.Native.Nat.{ℕ, ◌+◌, ◌*◌}
use native.Mathlib.Omega.{arith}
use mathlib.Core.Path.{ap, ◌∙◌}
use mathlib.Core.List.{List}
use lib.ListN.{set}
use Rattle.stacks.specs.Stacks.{PATH, NUMBERED, under_at}
use Rattle.scopes.proofs.Changes.{standing-numbered}
use Rattle.near_rows.proofs.Outward.{noted-next, xml-kept}
use Rattle.unsettled.proofs.Walking.{few, ready}
use Rattle.unsettled.proofs.Leaves.{parent-inner, noted-walkable}
use Rattle.resolution.proofs.note_nearest.Goals as goal

pub nearest-near-requires : goal.nearest-near-requires
nearest-near-requires c =
    let w = c.requires.by_index.2 in record { by_index = (_, ready w); row_bound = c.requires.row_bound; near = λ less. c.requires.noted _ less (parent-inner w c.args.row.0 c.requires.row_bound less) }

pub position_of-requires : goal.position_of-requires
position_of-requires c = omega (arith, few c.requires.by_index.2, c.requires.row_bound)

pub returns : goal.returns
returns c =
    let t = c.args.table.now in
    let notes = c.args.notes.now in
    let path = c.args.path.now in
    let r = c.args.row.0 in
    let is = c.set_beside.ensures ∙ ap (λ (k : ℕ). set path (PATH * k + NUMBERED) c.nearest-near.result.0) c.position_of.ensures in record { near = c.nearest-near.ensures; by_index_2 = λ pool tops w. noted-walkable w r c.requires.noted c.nearest-near.result.0 is; by_index_3 = λ tops q standing. rw is (standing-numbered t notes tops path q (r + 1) c.nearest-near.result.0 standing); noted_2 = (rw is (noted-next t notes path r c.requires.noted c.nearest-near.result.0 c.nearest-near.ensures (omega (arith, c.requires.by_index.2.placed, c.requires.row_bound))), ap (λ (l : List ℕ). under_at l NUMBERED 0) is ∙ xml-kept t notes path r c.requires.noted c.nearest-near.result.0) }
