-- `bundle_encoding::write_bundle` meets its contract.
use Prim.Native.Nat.{ℕ, ◌+◌, ◌*◌, ◌≤◌}
use mathlib.Core.Path.{ap, ◌∙◌}
use native.Mathlib.Omega.{arith}
use lib.ListN.{length}
use Rattle.buffers.specs.Writes.{written}
use Rattle.bundles.specs.Bundles.{HEADER, header_bytes}
use Rattle.bundle_encoding.proofs.Writing.{bundle-left, no_room, written-done}
use Rattle.bundle_encoding.proofs.write_bundle.Goals as goal

pub returns-then-out-size : goal.returns-then-out-size
returns-then-out-size c =
    let all = no_room c.args.out.now c.args.table.now c.args.pool.now _ _ (omega arith) c.refuse.ensures.value c.refuse.ensures.out_after in record { value = all.0; out_after = all.1 }

pub returns : goal.returns
returns c =
    let out = c.args.out.now in
    let table = c.args.table.now in
    let pool = c.args.pool.now in
    let fits : HEADER + 4 * length table + length pool ≤ length out = omega arith in let all = written-done out table pool _ fits
    (bundle-left out table pool fits _ _ _ _
    (c.write_header.ensures ∙ ap (λ (rows : ℕ). written out 0 (header_bytes rows (length pool))) c.row_count.ensures)
    c.write_words.ensures c.append_bytes.ensures c.clear_bytes.ensures) in record { value = all.0; out_after = all.1 }
