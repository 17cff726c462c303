-- `escaped_runs::write_tail` meets its contract.
use mathlib.Core.Path.{refl}
use native.Mathlib.Omega.{arith}
use lib.ListN.{drop}
use Rattle.escapes.specs.Escapes.{escaped}
use Rattle.escaped_bytes.proofs.Left.{left-start, left_end}
use Rattle.escaped_runs.proofs.Writing.{left-last}
use Rattle.escaped_runs.proofs.write_tail.Goals as goal

pub returns-then-from-value : goal.returns-then-from-value
returns-then-from-value c =
    left_end c.args.quoted c.args.value.now (escaped c.args.quoted (drop c.args.from c.args.value.now)) c.args.out.now c.args.at (left-start c.args.quoted c.args.value.now (escaped c.args.quoted (drop c.args.from c.args.value.now)) c.args.out.now c.args.at c.args.from c.requires.2 refl) (omega (arith, c.if-from-value.true))

pub returns-then-length_from-value : goal.returns-then-length_from-value
returns-then-length_from-value c =
    left-last c.args.quoted c.args.value.now (escaped c.args.quoted (drop c.args.from c.args.value.now)) c.args.out.now c.args.at (left-start c.args.quoted c.args.value.now (escaped c.args.quoted (drop c.args.from c.args.value.now)) c.args.out.now c.args.at c.args.from c.requires.2 refl) c.length_from.result c.length_from.ensures.value_value (omega (arith, c.if-length_from-value.true)) c.put_bytes.ensures
