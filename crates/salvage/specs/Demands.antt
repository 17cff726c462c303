-- What salvage gives. These speak of outcomes: the answer and the whole output buffers.
use Rattle.std.specs.Prelude.{ℕ, ◌*◌, ◌/◌, ◌≤◌, ◌<◌, ◌≡◌, Bool, true, false, not, List, [], ◌∷◌, length, take, replicate, T, eqb, Ok}
use Rattle.std.proofs.Math.Option.{none}
use Rattle.rules.specs.Lists.{is_one_of, any_of}
use Rattle.rules.specs.Table.{WIDTH, NONE, PARENT, ATTRIBUTE, DECLARATION, LEVEL1_ATTRIBUTE, Node, word, row_count, nodes, node}
use Rattle.rules.specs.Answers.{number_of, salvaged_number, salvaged_rows}
use Rattle.rules.specs.Refusals.{checked}
use Rattle.rules.specs.Outputs.{padded}
use Rattle.rules.specs.declared.Refusal.{Refusal}
use Rattle.dropped_rows.specs.Dropped.{kept}
use Rattle.salvage.specs.Salvage.{drops, SalvageOutcome, fault_refusal, salvaged}

unfoldable pub done : SalvageOutcome → Bool
done o = eqb (salvaged_number o.answer).number 0

-- The answered part of the output table.
abbrev pub result_table : SalvageOutcome → List ℕ
result_table o = take (WIDTH * salvaged_rows o.answer) o.table

-- The result always passes the check, over the input's pool.
abbrev pub SalvagePasses : Type 0
SalvagePasses =
    (table pool : List ℕ) (table_size list_size : ℕ) → T (done (salvaged table pool table_size list_size)) →
    checked (result_table (salvaged table pool table_size list_size)) pool ≡ Ok tt

-- A table that passes comes back unchanged with an empty list, where the output table has room for it.
abbrev pub PassedUnchanged : Type 0
PassedUnchanged =
    (table pool : List ℕ) (table_size list_size : ℕ) → checked table pool ≡ Ok tt → row_count table ≤ table_size / WIDTH →
    salvaged table pool table_size list_size
    ≡ record { answer = Ok (record { rows = row_count table; dropped = 0 }); table = padded table_size table; list = replicate list_size 0 }

-- Salvaging a result again changes nothing.
abbrev pub SalvagedAgain : Type 0
SalvagedAgain =
    (table pool : List ℕ) (table_size list_size : ℕ) → T (done (salvaged table pool table_size list_size)) →
    (table_size' list_size' : ℕ) → salvaged_rows (salvaged table pool table_size list_size).answer ≤ table_size' / WIDTH →
    salvaged (result_table (salvaged table pool table_size list_size)) pool table_size' list_size'
    ≡ record {
      answer = Ok (record { rows = salvaged_rows (salvaged table pool table_size list_size).answer; dropped = 0 });
      table = padded table_size' (result_table (salvaged table pool table_size list_size));
      list = replicate list_size' 0;
    }

-- Row r is kept.
abbrev pub is_kept : List Node → ℕ → Bool
is_kept ns r = is_one_of (kept ns (length ns)) r

-- The new number of a kept row: how many rows before it are kept.
abbrev pub new_number : List Node → ℕ → ℕ
new_number ns r = length (kept ns r)

-- Kept rows keep their order.
abbrev pub KeepsOrder : Type 0
KeepsOrder =
    (ns : List Node) (p r : ℕ) → p < r → r < length ns → is_kept ns p ≡ true → is_kept ns r ≡ true → new_number ns p < new_number ns r

-- A kept row of a table stands in the result at its new number with all its words but the parent; that is NONE where it was, and
-- else a kept row, by its new number.
pub record Moved (table pool result : List ℕ) (r : ℕ) : Type 0 where
  pub others : (k : ℕ) → k < WIDTH → (k ≡ PARENT → ⊥) → word result (new_number (nodes table pool) r) k ≡ word table r k
  pub alone : word table r PARENT ≡ NONE → word result (new_number (nodes table pool) r) PARENT ≡ NONE
  pub parent :
      (word table r PARENT ≡ NONE → ⊥) →
      (is_kept (nodes table pool) (word table r PARENT) ≡ true)
      × (word result (new_number (nodes table pool) r) PARENT ≡ new_number (nodes table pool) (word table r PARENT))

abbrev pub KeepsWords : Type 0
KeepsWords =
    (table pool : List ℕ) (table_size list_size : ℕ) → T (done (salvaged table pool table_size list_size)) →
    (r : ℕ) → r < row_count table → is_kept (nodes table pool) r ≡ true → Moved table pool (result_table (salvaged table pool table_size list_size)) r

-- Nothing is lost silently: every row is kept or listed, and never both; what is listed is what is not kept.
abbrev pub KeptOrListed : Type 0
KeptOrListed =
    (table pool : List ℕ) (r : ℕ) → r < length (nodes table pool) →
    is_kept (nodes table pool) r
    ≡ not (any_of (λ (x : Refusal). eqb (number_of x).row r) (drops (nodes table pool)))

-- Only attributes and declarations are dropped, which own and hold no row.
abbrev pub DropsOwned : Type 0
DropsOwned =
    (table pool : List ℕ) → fault_refusal table pool ≡ none → (r : ℕ) → r < length (nodes table pool) →
    is_kept (nodes table pool) r ≡ false →
    (is_one_of (ATTRIBUTE ∷ DECLARATION ∷ LEVEL1_ATTRIBUTE ∷ []) (node (nodes table pool) r).type ≡ true)
    × ((s : ℕ) → s < length (nodes table pool) → (node (nodes table pool) s).parent ≡ r → ⊥)
