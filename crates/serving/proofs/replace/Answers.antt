-- `serving::replace` meets its contract.
use native.Mathlib.Omega.{arith}
use mathlib.Core.Path.{refl}
use Rattle.stacks.proofs.Reading.{replace-read, replace-none}
use Rattle.stacks.proofs.Pushed.{inside-same}
use Rattle.serving.proofs.replace.Goals as goal

pub count-requires-then-prefix-ne0 : goal.count-requires-then-prefix-ne0
count-requires-then-prefix-ne0 c = (c.requires.0, λ h. inside-same c.count.new.tops c.requires.0 c.count.auto.tops refl (c.requires.2 h))

pub returns-then-prefix-ne0 : goal.returns-then-prefix-ne0
returns-then-prefix-ne0 c =
    replace-read c.args.notes.now c.args.tops.now c.args.prefix.0 c.args.old.0 c.args.new.0 c.count.new.tops c.count-then-prefix-ne0.new.tops (λ e. omega arith) c.count.ensures c.count-then-prefix-ne0.ensures

pub returns-else-prefix-ne0 : goal.returns-else-prefix-ne0
returns-else-prefix-ne0 c = replace-none c.args.notes.now c.args.tops.now c.args.prefix.0 c.args.old.0 c.args.new.0 (omega arith)
