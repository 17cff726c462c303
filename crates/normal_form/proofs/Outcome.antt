-- The outcome of a finished normalization is the one that the rules tell.
-- Assumes nothing.
use Rattle.std.specs.Prelude.{Result, Ok, Err, ⊤}
use Prim.Native.Nat.{ℕ, ◌*◌, ◌≤◌}
use mathlib.Core.Path.{◌≡◌, refl, sym, ◌∙◌, ap}
use mathlib.Core.Logic.{inl}
use mathlib.Core.Bool.{true, false, ◌||◌, true≢false}
use mathlib.Core.List.{List, [], ◌∷◌}
use mathlib.Core.Option.{Option, none, some, none-ne-some}
use native.Mathlib.Nat.{le_refl}
use native.Mathlib.Omega.{arith}
use lib.ListN.{length, take}
use lib.Seq.{length-take-le}
use lib.Dec.{ltb}
use borrow.Author.Tests.{ltb-true, ltb-false}
use Rattle.rules.specs.Table.{WIDTH, MOST_ROWS, MOST_BYTES, nodes}
use Rattle.rules.specs.Refusals.{verdict, first_refusal, check_refusal}
use Rattle.rules.specs.Answers.{filled_rows, filled_bytes}
use Rattle.rules.specs.Outputs.{Outcome, refusal}
use Rattle.rules.specs.Normalization.{State, level1_refusal, room_refusal, normal_form, normalization_refusal, success, too_many_rows, too_many_bytes, normalized}
use Rattle.rules.specs.declared.Refusal.{Refusal}
use Rattle.rules.proofs.Lists.{by_cases}
use Rattle.rules.proofs.Table.{length-words}
use Rattle.rules.proofs.Bounds.{Limit, too-many-rows, not-too-many-rows, rows-refused, bytes-refused, normalized-success}
use Rattle.element_steps.specs.Buffers.{Finished}
use Rattle.outputs.specs.Ended.{room_lack, completed, ended}
use Rattle.outputs.proofs.Ended.{Answers, enough-rows, ended-no-row-room, ended-no-byte-room, ended-completed, answer-done, answer-refused}
use Rattle.input.specs.Input.{input_refusal}
use Rattle.input.proofs.Input.{unchecked, unleveled}
use Rattle.normal_form.specs.Result.{Holds, Made}
use Rattle.rules.specs.declared.Filled.{Filled}

answer-of : {a b : Outcome} → a ≡ b → a.answer ≡ b.answer
answer-of e = ap (λ (o : Outcome). o.answer) e

refused-alike : (m n pool_size : ℕ) (x : Refusal) → (refusal m pool_size x).answer ≡ (refusal n pool_size x).answer
unfolding refusal
refused-alike m n pool_size x = refl

module _ (table pool : List ℕ) (input : input_refusal table pool ≡ none) (table_size : ℕ) {limit : ℕ} (limited : Limit table_size limit) (pool_size : ℕ)
    {out work : List ℕ} {rows bytes : ℕ} (finished : Finished out work limit rows bytes (normal_form (nodes table pool) pool)) where
  abbrev made : State
  made = normal_form (nodes table pool) pool

  module _ (fits : rows ≤ limit) where
    count : length made.rows ≡ rows
    count =
        let w : WIDTH * length made.rows ≡ length (take (WIDTH * rows) out) = sym (length-words made.rows) ∙ ap length (sym (finished.words fits)) in
        let l = length-take-le (WIDTH * rows) out (finished.table_room fits) in
        omega arith

    held : length made.pool ≡ bytes
    held = ap length (sym (finished.held fits)) ∙ length-take-le bytes work (finished.pool_room fits)

    same_bytes : too_many_bytes pool_size made ≡ (ltb MOST_BYTES bytes || ltb pool_size bytes)
    unfolding too_many_bytes
    same_bytes = rw held refl

    same-result : length out ≡ table_size → completed out pool_size work rows bytes ≡ success table_size pool_size made
    unfolding completed success
    same-result size = rw (count, held, finished.words fits, finished.held fits, size) refl

    same-done : (completed out pool_size work rows bytes).answer ≡ (success table_size pool_size made).answer
    unfolding completed success
    same-done = rw (count, held) refl

  same_rows : too_many_rows table_size made ≡ ltb limit rows
  same_rows =
      by_cases (ltb limit rows)
      (λ more. too-many-rows table_size limit made limited (finished.full (ltb-true limit rows more)) ∙ sym more)
      (λ fits. let f = ltb-false limit rows fits in not-too-many-rows table_size limit made limited (rw (count f) f) ∙ sym fits)

  -- The three ways to end.
  no_row_room : ltb limit rows ≡ true → normalized table pool table_size pool_size ≡ refusal table_size pool_size Refusal.RowRoom
  no_row_room more = rows-refused table pool table_size pool_size (unchecked table pool input) (unleveled table pool input) (same_rows ∙ more)

  module _ (fits : ltb limit rows ≡ false) where
    no-byte-room : (ltb MOST_BYTES bytes || ltb pool_size bytes) ≡ true → normalized table pool table_size pool_size ≡ refusal table_size pool_size Refusal.PoolRoom
    no-byte-room over =
        bytes-refused table pool table_size pool_size (unchecked table pool input) (unleveled table pool input) (same_rows ∙ fits)
        (same_bytes (ltb-false limit rows fits) ∙ over)

    fits_both : (ltb MOST_BYTES bytes || ltb pool_size bytes) ≡ false → normalized table pool table_size pool_size ≡ success table_size pool_size made
    fits_both over =
        normalized-success table pool table_size pool_size (unchecked table pool input) (unleveled table pool input) (same_rows ∙ fits)
        (same_bytes (ltb-false limit rows fits) ∙ over)

  same_outcome : length out ≡ table_size → ended limit out pool_size work rows bytes ≡ normalized table pool table_size pool_size
  same_outcome size =
      by_cases (ltb limit rows)
      (λ more. ended-no-row-room limit out pool_size work rows bytes more ∙ ap (λ (n : ℕ). refusal n pool_size Refusal.RowRoom) size ∙ sym (no_row_room more))
      (λ fits.
      by_cases (ltb MOST_BYTES bytes || ltb pool_size bytes)
      (λ over.
      ended-no-byte-room limit out pool_size work rows bytes fits over ∙ ap (λ (n : ℕ). refusal n pool_size Refusal.PoolRoom) size ∙ sym (no-byte-room fits over))
      (λ over. ended-completed limit out pool_size work rows bytes fits over ∙ same-result (ltb-false limit rows fits) size ∙ sym (fits_both fits over)))

  pub outcome-ended : length out ≡ table_size → {answer : Result Filled Refusal} {out_table out_pool : List ℕ} → Answers (ended limit out pool_size work rows bytes) answer out_table out_pool → Answers (normalized table pool table_size pool_size) answer out_table out_pool
  outcome-ended size given = rw (sym (same_outcome size)) given

  -- The answer alone, whatever the length of the table.
  same_answer : (ended limit out pool_size work rows bytes).answer ≡ (normalized table pool table_size pool_size).answer
  same_answer =
      by_cases (ltb limit rows)
      (λ more.
      answer-of (ended-no-row-room limit out pool_size work rows bytes more) ∙ refused-alike (length out) table_size pool_size Refusal.RowRoom ∙ sym (answer-of (no_row_room more)))
      (λ fits.
      by_cases (ltb MOST_BYTES bytes || ltb pool_size bytes)
      (λ over.
      answer-of (ended-no-byte-room limit out pool_size work rows bytes fits over)
      ∙ refused-alike (length out) table_size pool_size Refusal.PoolRoom
      ∙ sym (answer-of (no-byte-room fits over)))
      (λ over.
      answer-of (ended-completed limit out pool_size work rows bytes fits over)
      ∙ same-done (ltb-false limit rows fits)
      ∙ sym (answer-of (fits_both fits over))))

  room-done : verdict (room_lack limit pool_size rows bytes) ≡ Ok tt → (Ok (record { rows = rows; bytes = bytes }) ≡ (normalized table pool table_size pool_size).answer) × Holds out work rows bytes made
  room-done e =
      let fits = enough-rows limit pool_size rows bytes e in (
        answer-done limit out pool_size work rows bytes e ∙ same_answer,
        record { table_room = finished.table_room fits; pool_room = finished.pool_room fits; words = finished.words fits; held = finished.held fits },
      )

  room-refused : (x : Refusal) → verdict (room_lack limit pool_size rows bytes) ≡ Err x → Err x ≡ (normalized table pool table_size pool_size).answer
  room-refused x e = answer-refused limit out pool_size work rows bytes x e ∙ same_answer

-- What the input draws, its normalization does.
first_two : (a b c : Option Refusal) (x : Refusal) → first_refusal (a ∷ b ∷ []) ≡ some x → first_refusal (a ∷ b ∷ c ∷ []) ≡ some x
first_two (some y) b c x e = e
first_two none (some y) c x e = e
first_two none none c x e = absurd (none-ne-some x e)

module _ (table pool : List ℕ) (table_size pool_size : ℕ) (x : Refusal) (e : input_refusal table pool ≡ some x) where
  same-refusal : normalization_refusal table pool table_size pool_size ≡ some x
  unfolding input_refusal normalization_refusal
  same-refusal =
      first_two (check_refusal table pool) (level1_refusal (nodes table pool)) (room_refusal table_size pool_size (normal_form (nodes table pool) pool)) x e

  refused-answer : Err x ≡ (normalized table pool table_size pool_size).answer
  unfolding normalized refusal
  refused-answer = rw same-refusal refl

  pub input-refused : {answer : Result Filled Refusal} {out_table out_pool : List ℕ} → Answers (refusal table_size pool_size x) answer out_table out_pool → Answers (normalized table pool table_size pool_size) answer out_table out_pool
  unfolding normalized
  input-refused given = rw same-refusal given

-- As many rows as a table may have stand in as many words.
limit-most : Limit (WIDTH * MOST_ROWS) MOST_ROWS
limit-most = (le_refl MOST_ROWS, le_refl MOST_ROWS, inl refl)

-- What a normalization in place answers and leaves.
module _ {out work table pool : List ℕ} where
  made-done : (rows bytes : ℕ) → Ok (record { rows = rows; bytes = bytes }) ≡ (normalized table pool (WIDTH * MOST_ROWS) MOST_BYTES).answer → Holds out work rows bytes (normal_form (nodes table pool) pool) → Made (Ok (record { rows = rows; bytes = bytes })) out work table pool
  unfolding filled_rows filled_bytes
  made-done rows bytes told has =
      record {
        told = told;
        holds = λ n k e.
            let same_rows : rows ≡ n = ap filled_rows e in
            let same_bytes : bytes ≡ k = ap filled_bytes e in
            rw (sym same_rows, sym same_bytes) has;
      }

  made-refused : (x : Refusal) → Err x ≡ (normalized table pool (WIDTH * MOST_ROWS) MOST_BYTES).answer → Made (Err x) out work table pool
  made-refused x told = record { told = told; holds = λ n k e. let bad : true ≡ false = cc in absurd (true≢false bad) }

  pub input-made : (x : Refusal) → input_refusal table pool ≡ some x → Made (Err x) out work table pool
  input-made x e = made-refused x (refused-answer table pool (WIDTH * MOST_ROWS) MOST_BYTES x e)

  module _ (input : input_refusal table pool ≡ none) {rows bytes : ℕ} (finished : Finished out work MOST_ROWS rows bytes (normal_form (nodes table pool) pool))
      {judged : Result ⊤ Refusal} (room : judged ≡ verdict (room_lack MOST_ROWS MOST_BYTES rows bytes)) where
    pub result-made : judged ≡ Ok tt → Made (Ok (record { rows = rows; bytes = bytes })) out work table pool
    result-made e =
        let is = room-done table pool input (WIDTH * MOST_ROWS) limit-most MOST_BYTES finished (sym room ∙ e) in
        made-done rows bytes is.0 is.1

    pub result-refused : (x : Refusal) → judged ≡ Err x → Made (Err x) out work table pool
    result-refused x e = made-refused x (room-refused table pool input (WIDTH * MOST_ROWS) limit-most MOST_BYTES finished x (sym room ∙ e))
