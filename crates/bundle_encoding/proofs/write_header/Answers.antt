-- `bundle_encoding::write_header` meets its contract.
use mathlib.Core.Path.{ap, ◌∙◌}
use mathlib.Core.List.{List}
use Prim.Native.Nat.{ℕ}
use Rattle.buffers.specs.Writes.{written}
use Rattle.bundle_encoding.proofs.Writing.{header-bytes}
use Rattle.bundle_encoding.proofs.write_header.Goals as goal

pub returns : goal.returns
returns c =
    c.append_bytes.ensures ∙ ap (λ (l : List ℕ). written c.args.out.now 0 l) (header-bytes c.args.rows c.args.bytes _ _ _ _ _ _ c.byte.ensures c.byte-2.ensures c.byte-3.ensures c.byte-4.ensures c.byte-5.ensures c.byte-6.ensures)
