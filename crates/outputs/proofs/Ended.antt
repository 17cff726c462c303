-- The limit of rows, the room, and what the outputs hold at the end.
-- Assumes nothing.
use Rattle.std.specs.Prelude.{Result, Ok, Err}
use Prim.Native.Nat.{ℕ, ◌-◌, ◌*◌, ◌/◌, ◌≤◌, ◌<◌}
use mathlib.Core.Path.{◌≡◌, refl, ◌∙◌, ap}
use mathlib.Core.Logic.{inl, inr}
use mathlib.Core.Bool.{true, false, ◌||◌}
use mathlib.Core.List.{List, [], ◌∷◌, ◌++◌}
use native.Mathlib.Nat.{le_refl}
use native.Mathlib.Omega.{arith}
use lib.ListN.{length, take, drop, replicate, length-append, length-drop}
use lib.Seq.{length-take-le, take_at}
use lib.Dec.{ltb}
use borrow.Author.Tests.{ltb-false}
use Rattle.rules.specs.Table.{WIDTH, MOST_ROWS, MOST_BYTES}
use Rattle.rules.specs.Refusals.{verdict, refused_if}
use Rattle.rules.specs.Outputs.{Outcome, padded, refusal}
use Rattle.rules.specs.declared.Refusal.{Refusal}
use Rattle.rules.proofs.Refusals.{not-refused, AllNone, all_none, verdict-accepted, verdict-refused}
use Rattle.rules.proofs.Lists.{both_false}
use Rattle.rules.proofs.Bounds.{Limit}
use Rattle.buffers.specs.Writes.{cleared}
use Rattle.buffers.proofs.Meaning.{padded-part}
use Rattle.outputs.specs.Ended.{room_lack, completed, ended}
use Rattle.rules.specs.declared.Filled.{Filled}

-- The limit of rows.
pub limit-large : (words : ℕ) → MOST_ROWS < words / WIDTH → Limit words MOST_ROWS
limit-large words h = (le_refl MOST_ROWS, omega arith, inl refl)

pub limit-small : (words : ℕ) → words / WIDTH ≤ MOST_ROWS → Limit words (words / WIDTH)
limit-small words h = (h, le_refl (words / WIDTH), inr refl)

-- What a call answers and leaves in its outputs is an outcome.
abbrev pub Answers : Outcome → Result Filled Refusal → List ℕ → List ℕ → Type 0
Answers outcome answer table pool = (answer ≡ outcome.answer) × ((table ≡ outcome.table) × (pool ≡ outcome.pool))

cleared-all : (l : List ℕ) → cleared l 0 ≡ replicate (length l) 0
cleared-all l = let all : length l - 0 ≡ length l = omega arith in rw all refl

pub refuses : (table pool : List ℕ) (x : Refusal) {table' pool' : List ℕ} → table' ≡ cleared table 0 → pool' ≡ cleared pool 0 → Answers (refusal (length table) (length pool) x) (Err x) table' pool'
unfolding refusal
refuses table pool x t p = (refl, (t ∙ cleared-all table, p ∙ cleared-all pool))

-- The room.
module _ (limit size rows bytes : ℕ) where
  pub no_row_room : ltb limit rows ≡ true → verdict (room_lack limit size rows bytes) ≡ Err Refusal.RowRoom
  unfolding room_lack
  no_row_room h = rw h refl

  pub no-byte-room : ltb limit rows ≡ false → (ltb MOST_BYTES bytes || ltb size bytes) ≡ true → verdict (room_lack limit size rows bytes) ≡ Err Refusal.PoolRoom
  unfolding room_lack
  no-byte-room h q = rw (h, q) refl

  pub room-enough : ltb limit rows ≡ false → (ltb MOST_BYTES bytes || ltb size bytes) ≡ false → verdict (room_lack limit size rows bytes) ≡ Ok tt
  unfolding room_lack
  room-enough h q = rw (h, q) refl

  module _ (enough : verdict (room_lack limit size rows bytes) ≡ Ok tt) where
    nothing : AllNone (refused_if (ltb limit rows) Refusal.RowRoom ∷ refused_if (ltb MOST_BYTES bytes || ltb size bytes) Refusal.PoolRoom ∷ [])
    unfolding room_lack
    nothing =
        all_none (refused_if (ltb limit rows) Refusal.RowRoom ∷ refused_if (ltb MOST_BYTES bytes || ltb size bytes) Refusal.PoolRoom ∷ [])
        (verdict-accepted (room_lack limit size rows bytes) enough)

    pub enough-rows : rows ≤ limit
    enough-rows = ltb-false limit rows (not-refused (ltb limit rows) Refusal.RowRoom nothing.0)

    pub enough-bytes : bytes ≤ size
    enough-bytes = ltb-false size bytes (both_false (ltb MOST_BYTES bytes) (ltb size bytes) (not-refused (ltb MOST_BYTES bytes || ltb size bytes) Refusal.PoolRoom nothing.1.0)).1

module _ (limit : ℕ) (table : List ℕ) (size : ℕ) (work : List ℕ) (rows bytes : ℕ) where
  -- The three ways to end.
  pub ended-no-row-room : ltb limit rows ≡ true → ended limit table size work rows bytes ≡ refusal (length table) size Refusal.RowRoom
  unfolding ended room_lack
  ended-no-row-room h = rw h refl

  pub ended-no-byte-room : ltb limit rows ≡ false → (ltb MOST_BYTES bytes || ltb size bytes) ≡ true → ended limit table size work rows bytes ≡ refusal (length table) size Refusal.PoolRoom
  unfolding ended room_lack
  ended-no-byte-room h q = rw (h, q) refl

  pub ended-completed : ltb limit rows ≡ false → (ltb MOST_BYTES bytes || ltb size bytes) ≡ false → ended limit table size work rows bytes ≡ completed table size work rows bytes
  unfolding ended room_lack
  ended-completed h q = rw (h, q) refl

  -- What the room for the result tells of the answer.
  pub answer-done : verdict (room_lack limit size rows bytes) ≡ Ok tt → Ok (record { rows = rows; bytes = bytes }) ≡ (ended limit table size work rows bytes).answer
  unfolding ended completed
  answer-done e = rw (verdict-accepted (room_lack limit size rows bytes) e) refl

  pub answer-refused : (x : Refusal) → verdict (room_lack limit size rows bytes) ≡ Err x → Err x ≡ (ended limit table size work rows bytes).answer
  unfolding ended refusal
  answer-refused x e = rw (verdict-refused (room_lack limit size rows bytes) x e) refl

  -- The two ways of `finish`.
  pub ended-refused : {x : Refusal} → verdict (room_lack limit size rows bytes) ≡ Err x → {answer : Result Filled Refusal} {table' pool' : List ℕ} → Answers (refusal (length table) size x) answer table' pool' → Answers (ended limit table size work rows bytes) answer table' pool'
  unfolding ended
  ended-refused {x} e given = rw (verdict-refused (room_lack limit size rows bytes) x e) given

  pub ended-done : verdict (room_lack limit size rows bytes) ≡ Ok tt → WIDTH * rows ≤ length table → bytes ≤ length work → {table' : List ℕ} (pool : List ℕ) {copied pool' : List ℕ} → length pool ≡ size → table' ≡ cleared table (WIDTH * rows) → copied ≡ take bytes work ++ drop (length (take bytes work)) pool → pool' ≡ cleared copied bytes → Answers (ended limit table size work rows bytes) (Ok (record { rows = rows; bytes = bytes })) table' pool'
  unfolding ended completed
  ended-done e table_room work_room pool {copied} same is-table is-copied is-pool =
      let fits = enough-bytes limit size rows bytes e in
      let part : length (take bytes work) ≡ bytes = length-take-le bytes work work_room in
      let whole : length copied ≡ size = ap length is-copied ∙ simp (length-append, length-drop) (omega (arith, part, same)) in
      let front : take bytes copied ≡ take bytes work = ap (take bytes) is-copied ∙ take_at (take bytes work) (drop (length (take bytes work)) pool) bytes part in
      rw (verdict-accepted (room_lack limit size rows bytes) e) (
        refl,
        (
          is-table ∙ padded-part table (WIDTH * rows) table_room,
          is-pool ∙ padded-part copied bytes (rw whole fits) ∙ ap (λ (n : ℕ). padded n (take bytes copied)) whole ∙ ap (padded size) front,
        ),
      )
