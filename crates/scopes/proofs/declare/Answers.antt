-- `scopes::declare` meets its contract.
use mathlib.Core.Path.{◌≡◌}
use native.Mathlib.Omega.{arith}
use Rattle.rules.specs.Table.{row_count}
use Rattle.scopes.proofs.Declared.{declaring-linked, declared-inside, declared-ready, declared}
use Rattle.scopes.proofs.declare.Goals as goal

pub link-requires : goal.link-requires
link-requires c =
    let one = c.requires.declaring.grown.one in record { table_bound = (c.requires.room.small, c.requires.room.noted, omega arith); linked = declaring-linked c.args.table.now c.args.notes.now c.args.tops.now c.args.path.now c.args.position.0 c.requires.declaring c.row_count.result c.row_count.ensures }

pub position_of-requires : goal.position_of-requires
position_of-requires c = omega (arith, c.row_count.ensures, c.requires.room.small)

pub push-requires : goal.push-requires
push-requires c =
    let there : c.position_of.result.0 ≡ row_count c.args.table.now = omega (arith, c.position_of.ensures, c.row_count.ensures, c.requires.declaring.grown.one) in let all = declared-inside c.args.table.now c.args.notes.now c.args.tops.now c.args.path.now c.args.position.0 c.requires.declaring c.link.new.notes c.args.tops.now c.args.path.now c.link.ensures.relinked c.link.auto.notes c.position_of.result.0 there c.requires.room in record { inside = all.0; none_or_inside = all.1 }

pub returns : goal.returns
returns c =
    let there : c.position_of.result.0 ≡ row_count c.args.table.now = omega (arith, c.position_of.ensures, c.row_count.ensures, c.requires.declaring.grown.one) in
    let made = declared-ready c.args.table.now c.args.notes.now c.args.tops.now c.args.path.now c.args.position.0 c.requires.declaring c.link.new.notes c.push.new.tops c.push.new.path c.link.ensures.relinked c.link.auto.notes c.row_count.result c.row_count.ensures c.requires.room c.push.auto.tops c.push.auto.path c.link.ensures.linked_2 in
    let stands = declared c.args.table.now c.args.notes.now c.args.tops.now c.args.path.now c.args.position.0 c.requires.declaring c.link.new.notes c.push.new.tops c.push.new.path c.link.ensures.relinked c.link.auto.notes c.position_of.result.0 there c.push.ensures.by_index in record { ready = made; standing = stands; relinked = c.link.ensures.relinked; untouched = c.push.ensures.untouched }
