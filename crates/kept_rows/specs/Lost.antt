-- The rows of an original that stop the comparison with its proposal.
use Rattle.std.specs.Prelude.{ℕ, Bool, ◌&&◌, not, List, length, ltb}
use Rattle.rules.specs.Table.{Node, node}
use Rattle.proposals.specs.Proposals.{is_level1_row, keeps_row}

-- A row of DOM Level 1, or one that is missing or not kept.
unfoldable pub is_lost : List Node → List Node → ℕ → Bool
is_lost original proposal r = not (not (is_level1_row original r) && (ltb r (length proposal) && keeps_row (node original r) (node proposal r)))
