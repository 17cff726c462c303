-- The text of an element that is not refused, and what it is written from.
use Rattle.std.specs.Prelude.{ℕ, ◌*◌, ◌≤◌, ◌<◌, ◌≡◌, List, length, replicate}
use Rattle.rules.specs.Table.{nodes, row_count}
use Rattle.notes.specs.Notes.{NOTES}
use Rattle.markup.specs.Trees.{written_tree}
use Rattle.markup.specs.Markup.{markup}
use Rattle.markup_names.specs.Pooled.{Pooled}
use Rattle.markup_values.specs.Marks.{Marked}
use Rattle.tags.specs.Links.{Linked}

-- the text of element e
unfoldable pub element_text : List ℕ → List ℕ → ℕ → List ℕ
element_text table pool e = markup (written_tree (nodes table pool) e)

-- What the text of row e is written from is at hand: links, the mark of the pool, the lengths of its runs if there are any, and fields
-- that lie in the pool.
pub record AtHand (table pool links runs : List ℕ) (e : ℕ) : Type 0 where
  pub within : e < row_count table
  pub linked : Linked table links
  pub marked : Marked pool links runs
  pub pooled : Pooled table pool

-- Links that are cleared, as many as the table needs.
pub record Clear (table links : List ℕ) : Type 0 where
  pub cleared : links ≡ replicate (length links) 0
  pub room : NOTES * row_count table ≤ length links
