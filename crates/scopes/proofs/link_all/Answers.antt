use Rattle.std.proofs.Common.{refl}
use Rattle.scopes.proofs.Linking.{link-none}
use Rattle.scopes.proofs.link_all.Goals as goal

pub loop-r-init : goal.loop-r-init
loop-r-init c = (link-none c.args.table.now c.args.notes.now c.requires.by_index, λ r k h a b. refl)
