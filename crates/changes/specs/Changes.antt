-- What the writes of normalization leave in the working buffers: a table, a pool and the notes of the rows.
use Rattle.std.specs.Prelude.{ℕ, ◌+◌, List, ◌≡◌, length}
use Rattle.rules.specs.Table as Table
use Rattle.buffers.specs.Writes.{written, placed}
use Rattle.notes.specs.Notes.{PREFIX, LOCAL_NAME, URI, VALUE, note_at, noted}

-- The notes of a new declaration for row r: of its prefix, as its URI.
unfoldable pub noted_for : List ℕ → ℕ → ℕ → List ℕ
noted_for notes new r =
    noted (noted (noted (noted notes new PREFIX 0) new LOCAL_NAME (note_at notes r PREFIX)) new URI 0) new VALUE (note_at notes r URI)

-- The name stands behind the bytes of the pool that counted, row a has it as its prefix, and its number, and so many bytes count now.
pub record Named (table table' pool pool' notes notes' : List ℕ) (a bytes grown number : ℕ) (name : List ℕ) : Type 0 where
  pub prefix : table' ≡ placed table a Table.PREFIX (record { offset = record { 0 = bytes }; length = length name })
  pub appended : pool' ≡ written pool bytes name
  pub numbered : notes' ≡ noted notes a PREFIX number
  pub size : grown ≡ bytes + length name
