use Prim.Native.Nat.{◌+◌, ◌-◌}
use native.Mathlib.Omega.{arith}
use mathlib.Core.Path.{◌≡◌, sym, subst}
use mathlib.Core.Bool.{true, false}
use Rattle.rules.specs.Table.{row_count}
use Rattle.children.specs.Children.{is_under, first_word, Listed}
use Rattle.children.proofs.Linking.{none-linked, content-kept}
use Rattle.children.proofs.link_all.Goals as goal

pub loop-r-init : goal.loop-r-init
loop-r-init c =
    λ owned. subst (Listed (is_under owned c.args.table.now) (first_word owned) c.args.links.now (row_count c.args.table.now)) (sym c.row_count-rows.ensures) (none-linked (is_under owned c.args.table.now) (first_word owned) c.args.links.now (row_count c.args.table.now) (c.requires.owned_value owned))

pub link-requires-clause-listed : goal.link-requires-clause-listed
link-requires-clause-listed c =
    let n : c.loop-r.r ≡ c.loop-r.r - 1 + 1 = omega arith in
    subst (Listed (is_under true c.args.table.now) (first_word true) c.loop-r.links (row_count c.args.table.now)) n (c.loop-r.invariant true)

pub link-requires-in-loop-r-clause-listed : goal.link-requires-in-loop-r-clause-listed
link-requires-in-loop-r-clause-listed c =
    let n : c.loop-r.r ≡ c.loop-r.r - 1 + 1 = omega arith in
    let kept = content-kept (is_under false c.args.table.now) c.loop-r.links c.link.new.links (row_count c.args.table.now) c.loop-r.r c.link.ensures.relinked (c.loop-r.invariant false) in
    subst (Listed (is_under false c.args.table.now) (first_word false) c.link.new.links (row_count c.args.table.now)) n kept
