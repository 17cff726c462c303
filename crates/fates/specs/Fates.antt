-- What becomes of each row of a table that is salvaged.
use Rattle.std.specs.Prelude.{ℕ, ◌≤◌, ◌<◌, ◌≡◌, Bool, true, false, List, get_or}
use Rattle.rules.specs.Table.{Node}
use Rattle.rules.specs.Answers.{check_number}
use Rattle.rules.specs.Refusals.{unless_refused, verdict}
use Rattle.rules.specs.declared.Refusal.{Refusal}
use Rattle.dropped_rows.specs.Dropped.{drop_refusal, kept}

-- Row r is kept.
unfoldable pub keeps : List Node → ℕ → Bool
keeps ns r = unless_refused (drop_refusal ns (kept ns r) r) (λ (x : Refusal). false) true

-- the fate of row r: 0, or the number of the refusal that it is dropped for
unfoldable pub fate_of : List Node → ℕ → ℕ
fate_of ns r = (check_number (verdict (drop_refusal ns (kept ns r) r))).number

-- The fates of the rows before row r are noted, and of no others.
pub record Fated (ns : List Node) (fates : List ℕ) (r : ℕ) : Type 0 where
  pub below : (q : ℕ) → q < r → get_or fates q 0 ≡ fate_of ns q
  pub above : (q : ℕ) → r ≤ q → get_or fates q 0 ≡ 0
