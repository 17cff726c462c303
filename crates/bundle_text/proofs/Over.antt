-- The text of equal tables.
-- Assumes nothing.
use Prim.Native.Nat.{ℕ}
use mathlib.Core.List.{List}
use mathlib.Core.Path.{◌≡◌, ap}
use Rattle.markup.specs.Writing.{text_written}

pub over-table : {table table' : List ℕ} (pool : List ℕ) (start size : ℕ) → table ≡ table' → text_written table pool start size ≡ text_written table' pool start size
over-table pool start size e = ap (λ (t : List ℕ). text_written t pool start size) e
