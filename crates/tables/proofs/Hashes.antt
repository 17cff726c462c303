-- The hash of a name in tables, and the parts of tables as they are lent.
-- Assumes nothing.
use Prim.Native.Nat.{ℕ, ◌+◌, ◌-◌, ◌%◌, ◌≤◌}
use mathlib.Core.Path.{◌≡◌, ◌∙◌}
use mathlib.Core.List.{List}
use native.Mathlib.Omega.{arith}
use borrow.Author.Tests.{eq-eqb, ne_eqb}
use lib.ListN.{length, get_or, take, drop, length-drop}
use lib.Seq.{take_all}
use Rattle.hash.specs.Hash.{hash_of}
use Rattle.keyed.specs.Keyed.{sum_from}
use Rattle.sum_tables.specs.SumTables.{number_at}
use Rattle.tables.specs.Tables.{MADE, ONE, TWO, keyed_hash, hash_in}

pub keyed-folded :
    (one two : ℕ) (name : List ℕ) {sum1 sum2 r : ℕ} → r ≡ (sum1 + sum2) % 65536 → sum1 ≡ sum_from one 0 name → sum2 ≡ sum_from two 0 name
    → r ≡ keyed_hash one two name
unfolding keyed_hash
keyed-folded one two name e f g = e ∙ rw (f, g)

module _ (tables name : List ℕ) where
  pub plain-hash : get_or tables MADE 0 ≡ 0 → hash_of name ≡ hash_in tables name
  unfolding hash_in
  plain-hash z = rw (eq-eqb (get_or tables MADE 0) 0 z)

  pub keyed-hash : (get_or tables MADE 0 ≡ 0 → ⊥) → {one two : ℕ} → one ≡ number_at tables ONE → two ≡ number_at tables TWO → keyed_hash one two name ≡ hash_in tables name
  unfolding hash_in
  keyed-hash z e f = rw (ne_eqb (get_or tables MADE 0) 0 z, e, f)

-- The rest of the tables, as it is lent.
pub lent : (tables : List ℕ) (a : ℕ) → a ≤ length tables → take (length tables - a) (drop a tables) ≡ drop a tables
lent tables a h = take_all (length tables - a) (drop a tables) (rw length-drop (omega arith))
