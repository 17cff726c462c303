-- The numbers of the names of rows, as they are noted.
use Rattle.std.specs.Prelude.{ℕ, ◌<◌, cond, List, [], eqb}
use Rattle.rules.specs.Table.{DECLARATION, Node, node_at}
use Rattle.notes.specs.Notes.{PREFIX, LOCAL_NAME, URI, VALUE, note_at}
use Rattle.numbers.specs.Numbers.{Names, Spelling}

-- the value that has a number: a declaration's
abbrev pub declared_uri : Node → List ℕ
declared_uri n = cond (eqb n.type DECLARATION) n.value.bytes []

-- The notes of row r have the numbers of a node's names.
pub record NodeNumbered (notes : List ℕ) (spelling : ℕ → List ℕ) (last r : ℕ) (n : Node) : Type 0 where
  pub prefix : Names spelling last (note_at notes r PREFIX) n.prefix.bytes
  pub local : Names spelling last (note_at notes r LOCAL_NAME) n.local.bytes
  pub uri : Names spelling last (note_at notes r URI) n.uri.bytes
  pub value : Names spelling last (note_at notes r VALUE) (declared_uri n)

-- So have the notes of the first n rows of a table.
pub record Numbered (table pool notes : List ℕ) (spelling : ℕ → List ℕ) (last n : ℕ) : Type 0 where
  pub spelled : Spelling spelling last
  pub rows : (r : ℕ) → r < n → NodeNumbered notes spelling last r (node_at table pool r)
