-- The sizes that writing by blocks goes by.
use Rattle.std.specs.Prelude.{ℕ}

-- the bytes that a short run is copied by
abbrev pub BLOCK : ℕ
BLOCK = 16

-- the room for a short run and an escape
abbrev pub ROOM : ℕ
ROOM = 24
