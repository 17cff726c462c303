-- `element_text::prepare` meets its contract.
use Rattle.children.specs.Children.{first_word}
use Rattle.element_text.proofs.Elements.{no-links, few, at-hand}
use Rattle.element_text.proofs.prepare.Goals as goal

pub link_all-requires : goal.link_all-requires
link_all-requires c =
    let clear = c.requires.clear in record { table_bound = (few c.args.table.now c.args.pool.now c.requires.pool_value, clear.room); owned_value = λ owned e. no-links c.args.table.now c.args.links.now clear e (first_word owned) }

pub is_measured-requires : goal.is_measured-requires
is_measured-requires c = few c.args.table.now c.args.pool.now c.requires.pool_value

pub returns : goal.returns
returns c =
    at-hand c.args.table.now c.args.pool.now c.requires.pool_value c.args.links.now c.link_all.new.links c.set_plain.new.links c.is_plain-plain.result c.requires.table_nonzero c.requires.clear c.link_all.auto.links c.link_all.ensures c.set_plain.ensures c.is_plain-plain.ensures
