-- `escaping::write_escape` meets its contract.
use native.Mathlib.Omega.{arith}
use Rattle.escaping.proofs.Bytes.{row_within, escape-put}
use Rattle.escaping.proofs.write_escape.Goals as goal

pub slice_bounds-write_bytes-end-2 : goal.slice_bounds-write_bytes-end-2
slice_bounds-write_bytes-end-2 c = row_within c.args.b c.requires.0

pub bounds-escapes-row : goal.bounds-escapes-row
bounds-escapes-row c = omega (arith, row_within c.args.b c.requires.0)

pub returns : goal.returns
returns c =
    escape-put c.args.out.now c.args.at c.args.b c.requires.0 c.requires.2 c.requires.1 c.write_bytes.ensures.out_after c.write_bytes-2.ensures.out_after c.wide.ensures.0
