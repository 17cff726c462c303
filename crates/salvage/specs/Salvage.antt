-- RULES 15, salvage (Q-10): a table without the rows that draw 6, and those that draw 7 against a kept row, and a list of these.
use Rattle.std.specs.Prelude.{ℕ, ◌*◌, ◌/◌, Bool, cond, ◌||◌, List, [], ◌∷◌, map, length, replicate, eqb, ltb, Result, Ok, Err}
use Rattle.std.proofs.Math.Option.{Option}
use Rattle.rules.specs.Lists.{gathered}
use Rattle.rules.specs.Table.{WIDTH, MOST_ROWS, NONE, Node, nodes, words, node, row_count}
use Rattle.rules.specs.Answers.{number_of}
use Rattle.rules.specs.Refusals.{refused_if, first_refusal, lowest_refusal, unless_refused, bad_size, faults}
use Rattle.rules.specs.Outputs.{padded}
use Rattle.rules.specs.declared.Refusal.{Refusal}
use Rattle.dropped_rows.specs.Dropped.{kept, drops_below}
use Rattle.bundles.specs.Bundles.{write_bundle}
use Rattle.bundles.specs.Operations.{over_bundle}
use Rattle.rules.specs.declared.Salvaged.{Salvaged}
use Rattle.rules.specs.declared.Rescued.{Rescued}

-- A parent's new number is how many rows before it are kept; NONE stays.
unfoldable pub new_parent : List Node → ℕ → ℕ
new_parent ns parent = cond (eqb parent NONE) NONE (length (kept ns parent))

abbrev pub with_parent : ℕ → Node → Node
with_parent parent n =
    record { type = n.type; parent = parent; prefix = n.prefix; local = n.local; uri = n.uri; value = n.value; maker = n.maker }

-- The result's rows.
unfoldable pub salvaged_nodes : List Node → List Node
salvaged_nodes ns = map (λ (r : ℕ). with_parent (new_parent ns (node ns r).parent) (node ns r)) (kept ns (length ns))

-- What each dropped row is dropped for, rows ascending.
unfoldable pub drops : List Node → List Refusal
drops ns = drops_below ns (length ns)

-- The list: two words for each, its old number and its refusal.
abbrev pub ENTRY : ℕ
ENTRY = 2

unfoldable pub listed : List Refusal → List ℕ
listed xs = gathered (λ (x : Refusal). (number_of x).row ∷ (number_of x).number ∷ []) xs

-- 1 to 5, with 12, 13 and 14, at the first row that draws one of them, whatever rows before it draw 6 or 7.
unfoldable pub fault_refusal : List ℕ → List ℕ → Option Refusal
fault_refusal table pool =
    first_refusal
    (refused_if (bad_size table pool) Refusal.Size
    ∷ lowest_refusal (λ (r : ℕ). first_refusal (faults (nodes table pool) (length pool) r)) (row_count table)
    ∷ [])

-- 10: the table or the list is too short.
unfoldable pub too_short : ℕ → ℕ → List Node → Bool
too_short table_size list_size ns =
    ltb (table_size / WIDTH) (length (salvaged_nodes ns)) || ltb (list_size / ENTRY) (length (drops ns))

unfoldable pub salvage_refusal : List ℕ → List ℕ → ℕ → ℕ → Option Refusal
salvage_refusal table pool table_size list_size =
    first_refusal (fault_refusal table pool ∷ refused_if (too_short table_size list_size (nodes table pool)) Refusal.RowRoom ∷ [])

-- What salvage answers and leaves in the output table and the list. The pool is the input's.
pub record SalvageOutcome : Type 0 where
  pub answer : Result Salvaged Refusal
  pub table : List ℕ
  pub list : List ℕ

unfoldable pub salvaged : List ℕ → List ℕ → ℕ → ℕ → SalvageOutcome
salvaged table pool table_size list_size =
    let ns = nodes table pool in
    unless_refused (salvage_refusal table pool table_size list_size)
    (λ (x : Refusal). record { answer = Err x; table = replicate table_size 0; list = replicate list_size 0 })
    (record {
      answer = Ok (record { rows = length (salvaged_nodes ns); dropped = length (drops ns) });
      table = padded table_size (words (salvaged_nodes ns));
      list = padded list_size (listed (drops ns));
    })

-- The same from a bundle into a bundle, which keeps the whole pool, and a list: 30 to 32, then those above, where 10 speaks of
-- 1,024 rows and of the list, and 33 last.
pub record RescueOutcome : Type 0 where
  pub answer : Result Rescued Refusal
  pub bytes : List ℕ
  pub list : List ℕ

unfoldable pub rescue_refused : ℕ → ℕ → Refusal → RescueOutcome
rescue_refused size list_size x = record { answer = Err x; bytes = replicate size 0; list = replicate list_size 0 }

unfoldable pub rescued : List ℕ → List ℕ → ℕ → ℕ → RescueOutcome
rescued table pool size list_size =
    let ns = nodes table pool in
    let bundle = write_bundle (words (salvaged_nodes ns)) pool in
    unless_refused
    (first_refusal (salvage_refusal table pool (WIDTH * MOST_ROWS) list_size ∷ refused_if (ltb size (length bundle)) Refusal.BundleRoom ∷ []))
    (rescue_refused size list_size)
    (record { answer = Ok (record { bytes = length bundle; dropped = length (drops ns) }); bytes = padded size bundle; list = padded list_size (listed (drops ns)) })

unfoldable pub bundle_salvaged : List ℕ → ℕ → ℕ → RescueOutcome
bundle_salvaged bytes size list_size =
    over_bundle bytes (rescue_refused size list_size) (λ table pool. rescued table pool size list_size)
