-- `bundle_parts::pool_start` meets its contract.
use Prim.Native.Nat.{ℕ, ◌+◌, ◌*◌}
use mathlib.Core.Path.{◌≡◌, refl, sym, ◌∙◌}
use mathlib.Core.List.{List}
use native.Mathlib.Omega.{arith}
use Rattle.bundles.specs.Bundles.{HEADER, bundle_rows, row_bytes, pool_start}
use Rattle.bundles.proofs.Opening.{new-bytes, old-bytes}
use Rattle.bundle_parts.proofs.pool_start.Goals as goal

start : (bytes : List ℕ) (row rows : ℕ) → row_bytes bytes ≡ row → rows ≡ bundle_rows bytes → HEADER + row * rows ≡ pool_start bytes
start bytes row rows is read = rw (is, read) refl

pub returns-then-is_old : goal.returns-then-is_old
returns-then-is_old c = (start _ _ _ (old-bytes _ (sym c.is_old.ensures ∙ c.if-is_old.true)) c.row_count-rows.ensures.0, omega arith)

pub returns : goal.returns
returns c = (start _ _ _ (new-bytes _ (sym c.is_old.ensures ∙ c.if-is_old.false)) c.row_count-rows.ensures.0, omega arith)
