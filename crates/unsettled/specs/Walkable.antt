-- What the path of scopes needs to go through a table.
use Rattle.std.specs.Prelude.{ℕ, ◌+◌, ◌*◌, ◌≤◌, ◌<◌, ◌≡◌, List, length, eqb}
use Rattle.std.proofs.Math.Option.{none}
use Rattle.rules.specs.Lists.{same_bytes}
use Rattle.rules.specs.Table.{xml_prefix, nodes, node, row_count}
use Rattle.rules.specs.Refusals.{check_refusal}
use Rattle.notes.specs.Notes.{NOTES}
use Rattle.numbers.specs.Numbers.{Names, Spelling}
use Rattle.numbers.specs.Noted.{NodeNumbered}
use Rattle.stacks.specs.Stacks.{TOPS, NUMBERED, under_at}
use Rattle.scopes.specs.Standing.{Linked, Standing}

-- The table is accepted, its names have numbers, its declarations are linked, and the arrays have room for all of them.
pub record Walkable (table pool notes tops path : List ℕ) : Type 0 where
  pub accepted : check_refusal table pool ≡ none
  pub spelling : ℕ → List ℕ
  pub names : ℕ
  pub spelled : Spelling spelling names
  pub numbered : (r : ℕ) → r < length (nodes table pool) → NodeNumbered notes spelling names r (node (nodes table pool) r)
  pub xml : (n : ℕ) (bytes : List ℕ) → Names spelling names n bytes → eqb n (under_at path NUMBERED 0) ≡ same_bytes bytes xml_prefix
  pub topped : TOPS * names + TOPS ≤ length tops
  pub noted : NOTES * row_count table ≤ length notes
  pub placed : 4 * row_count table + 4 ≤ length path
  pub linked : Linked table notes (row_count table)

-- The same, and the arrays stand at no row.
pub record Prepared (table pool notes tops path : List ℕ) : Type 0 where
  pub walkable : Walkable table pool notes tops path
  pub standing : Standing table notes tops path 0
