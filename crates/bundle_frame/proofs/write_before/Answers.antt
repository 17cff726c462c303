-- `write_before` meets its contract.
use Prim.Native.Nat.{ℕ, ◌+◌, ◌*◌, ◌≤◌}
use mathlib.Core.Path.{ap, ◌∙◌}
use lib.ListN.{length}
use Rattle.buffers.specs.Writes.{written}
use Rattle.bundles.specs.Bundles.{HEADER, header_bytes}
use Rattle.bundle_frame.proofs.Frame.{frame-said, frame-left}
use Rattle.bundle_frame.proofs.write_before.Goals as goal

pub returns : goal.returns
returns c =
    let out = c.args.out.now in
    let table = c.args.table.now in
    let fits : HEADER + 4 * length table + c.args.bytes ≤ length out = c.requires.bytes_in_bounds in record {
      value = frame-said out table c.args.bytes fits;
      out_after = frame-left out table c.args.bytes fits _ _ _
          (c.write_header.ensures ∙ ap (λ (rows : ℕ). written out 0 (header_bytes rows c.args.bytes)) c.row_count.ensures)
          c.write_words.ensures c.clear_bytes.ensures;
    }
