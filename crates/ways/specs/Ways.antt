-- Ways outward, from a row to rows that it lies in.
use Rattle.std.specs.Prelude.{ℕ, zero, suc, ◌<◌, ◌≡◌, List, get_or}
use Rattle.scopes.specs.Rows.{up}

-- The first n places of the way hold position q, that of the row that it lies in, and so outward; the next one outward is top.
abbrev pub Leads : List ℕ → List ℕ → ℕ → ℕ → ℕ → Type 0
Leads table way zero q top = top ≡ q
Leads table way (suc n) q top = (top ≡ up table (get_or way n 0)) × (0 < get_or way n 0) × Leads table way n q (get_or way n 0)
