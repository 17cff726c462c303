-- The words of a row: where they stand in the table, and what the definitions read of them.
-- Assumes nothing.
use Prim.Native.Nat.{ℕ, ◌+◌, ◌*◌, ◌<◌}
use mathlib.Core.Bool.{Bool, true, false, ◌||◌}
use mathlib.Core.List.{List}
use mathlib.Core.Path.{◌≡◌, refl, ap}
use native.Mathlib.Omega.{arith}
use lib.ListN.{get_or}
use lib.Dec.{ltb}
use Rattle.rules.specs.Table.{WIDTH, TYPE, PARENT, nodes, node, row_count, part, word, field_at}
use Rattle.rules.specs.declared.Place.{Place}
use Rattle.rules.proofs.Table.{node-nodes}
use Rattle.rows.specs.Reading.{place_at}

pub word_at : (table : List ℕ) (r k row at : ℕ) → row ≡ r → at ≡ k → get_or table (row * WIDTH + at) 0 ≡ word table r k
word_at table r k row at p q =
    let same : row * WIDTH + at ≡ WIDTH * r + k = omega arith in
    ap (λ (i : ℕ). get_or table i 0) same

pub row-less : (table : List ℕ) (r row count : ℕ) → row ≡ r → count ≡ row_count table → ltb row count ≡ ltb r (row_count table)
row-less table r row count p q = rw (p, q) refl

-- A field's place and its bytes, from what its two words are.
module _ (table pool : List ℕ) (r field offset size : ℕ) (first : offset ≡ word table r field) (second : size ≡ word table r (field + 1)) where
  pub field-place : ◌≡◌ {A = Place} (record { offset = record { 0 = offset }; length = size }) (place_at table r field)
  field-place = rw (first, second) refl

  pub field-part : part pool offset size ≡ (field_at table pool r field).bytes
  field-part = rw (first, second) refl

module _ (table pool : List ℕ) (r : ℕ) (within : r < row_count table) where
  pub type-word : (node (nodes table pool) r).type ≡ word table r TYPE
  type-word = ap (λ m. m.type) (node-nodes table pool r within)

  pub parent-word : (node (nodes table pool) r).parent ≡ word table r PARENT
  parent-word = ap (λ m. m.parent) (node-nodes table pool r within)

-- A test of two numbers, as a test of a list of them.
pub or-false : (a b : Bool) → (a || b) ≡ (a || (b || false))
or-false true b = refl
or-false false true = refl
or-false false false = refl
