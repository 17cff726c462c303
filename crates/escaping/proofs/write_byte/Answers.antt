-- `escaping::write_byte` meets its contract.
use mathlib.Core.Path.{sym, ◌∙◌}
use Rattle.escapes.proofs.Asking.{in-quotes}
use Rattle.escaping.proofs.Bytes.{escaped-put, bare-put}
use Rattle.escaping.proofs.write_byte.Goals as goal

pub write_escape-requires : goal.write_escape-requires
write_escape-requires c =
    (c.requires.0, c.requires.1, (in-quotes c.args.quoted c.args.b (sym c.ends_run.ensures ∙ c.if-ends_run.true)).0)

pub returns-then-ends_run : goal.returns-then-ends_run
returns-then-ends_run c = escaped-put c.args.quoted c.args.b c.ends_run.ensures c.if-ends_run.true c.write_escape.ensures

pub returns : goal.returns
returns c =
    bare-put c.args.quoted c.args.b c.ends_run.ensures c.if-ends_run.false c.args.out.now c.args.at c.requires.1 c.write_bytes.ensures.value c.write_bytes.ensures.out_after
