-- `runs::is_plain` meets its contract.
use mathlib.Core.Path.{sym, ◌∙◌, ap}
use mathlib.Core.Bool.{Bool}
use Rattle.rules.specs.Lists.{all_of}
use Rattle.runs.specs.Runs.{is_plain}
use Rattle.runs.proofs.is_plain.Goals as goal

pub returns-then-quoted : goal.returns-then-quoted
returns-then-quoted c = c.all_plain.ensures ∙ ap (λ (quoted : Bool). all_of (is_plain quoted) c.args.bytes.now) (sym c.if-quoted.true)

pub returns : goal.returns
returns c =
    c.all_plain-2.ensures ∙ ap (λ (quoted : Bool). all_of (is_plain quoted) c.args.bytes.now) (sym c.if-quoted.false)
