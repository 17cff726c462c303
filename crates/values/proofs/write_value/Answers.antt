-- `values::write_value` meets its contract.
use mathlib.Core.Path.{refl, sym, ◌∙◌}
use native.Mathlib.Omega.{arith}
use Rattle.buffers.proofs.Writes.{put-past}
use Rattle.escaping.specs.Rows.{rows}
use Rattle.values.proofs.Writing.{plain-put}
use Rattle.values.proofs.write_value.Goals as goal

pub returns-then-at-out : goal.returns-then-at-out
returns-then-at-out c = put-past _ _ _ (omega arith)

pub returns-then-is_plain : goal.returns-then-is_plain
returns-then-is_plain c =
    plain-put c.args.quoted c.args.value.now c.args.out.now c.args.at (sym c.is_plain.ensures ∙ c.if-is_plain.true) c.put_bytes.ensures

pub write_escaped-requires : goal.write_escaped-requires
unfolding rows
write_escaped-requires c = (refl, c.requires)
