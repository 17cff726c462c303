use Rattle.std.proofs.Common.{refl}
use Rattle.attributes.proofs.Linking.{linked-start}
use Rattle.attributes.proofs.link_attributes.Goals as goal

pub loop-r-init : goal.loop-r-init
loop-r-init c = (linked-start c.row_count-r.ensures c.requires.by_index, λ r j less. refl)
