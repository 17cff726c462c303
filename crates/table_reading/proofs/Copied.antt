-- What a read is refused for, and what it leaves.
-- Assumes nothing.
use Rattle.std.specs.Prelude.{Result, Ok, Err, ⊤}
use Prim.Native.Nat.{ℕ, ◌*◌, ◌/◌, ◌≤◌, ◌<◌}
use mathlib.Core.Path.{◌≡◌, refl, sym, ap, ◌∙◌}
use mathlib.Core.List.{List, [], ◌∷◌, ◌++◌}
use mathlib.Core.Option.{none}
use native.Mathlib.Omega.{arith}
use lib.ListN.{length, take, drop, length-append, length-drop}
use lib.Seq.{take-append_seam}
use lib.Dec.{ltb}
use borrow.Author.Tests.{ltb-false, lt-ltb, le-ltb}
use Rattle.rules.specs.Table.{WIDTH, row_count}
use Rattle.rules.specs.Refusals.{refused_if, verdict, check_refusal, checked}
use Rattle.rules.specs.Outputs.{padded, Outcome, refusal}
use Rattle.rules.specs.declared.Refusal.{Refusal}
use Rattle.rules.proofs.Refusals.{not-refused, all_none, verdict-accepted, verdict-refused}
use Rattle.rules.proofs.Accepted.{unrefused}
use Rattle.buffers.specs.Writes.{cleared}
use Rattle.buffers.proofs.Meaning.{padded-part}
use Rattle.outputs.proofs.Ended.{Answers}
use Rattle.bundles.specs.Operations.{table_read_refusal, table_read}
use Rattle.rules.specs.declared.Filled.{Filled}

module _ (table pool : List ℕ) (table_size pool_size : ℕ) where
  pub drawn-first : {drawn : Result ⊤ Refusal} → drawn ≡ checked table pool → (x : Refusal) → drawn ≡ Err x → drawn ≡ verdict (table_read_refusal table pool table_size pool_size)
  unfolding table_read_refusal checked
  drawn-first is x e = e ∙ (rw (verdict-refused (check_refusal table pool) x (sym is ∙ e)) refl)

  module _ (is : (Ok tt) ≡ checked table pool) where
    pass : check_refusal table pool ≡ none
    unfolding checked
    pass = verdict-accepted (check_refusal table pool) (sym is)

    pub no_row_room : table_size / WIDTH < row_count table → Err Refusal.RowRoom ≡ verdict (table_read_refusal table pool table_size pool_size)
    unfolding table_read_refusal
    no_row_room h = rw (pass, lt-ltb (table_size / WIDTH) (row_count table) h) refl

    module _ (enough : row_count table ≤ table_size / WIDTH) where
      pub no-byte-room : pool_size < length pool → Err Refusal.PoolRoom ≡ verdict (table_read_refusal table pool table_size pool_size)
      unfolding table_read_refusal
      no-byte-room h = rw (pass, le-ltb (table_size / WIDTH) (row_count table) enough, lt-ltb pool_size (length pool) h) refl

      pub read-room : length pool ≤ pool_size → (Ok tt) ≡ verdict (table_read_refusal table pool table_size pool_size)
      unfolding table_read_refusal
      read-room h = rw (pass, le-ltb (table_size / WIDTH) (row_count table) enough, le-ltb pool_size (length pool) h) refl

  -- What a read that is not refused has: whole rows, and room for them and the pool.
  pub record Fits : Type 0 where
    pub unrefused : table_read_refusal table pool table_size pool_size ≡ none
    pub whole : WIDTH * row_count table ≡ length table
    pub words : length table ≤ table_size
    pub bytes : length pool ≤ pool_size

  pub fits : verdict (table_read_refusal table pool table_size pool_size) ≡ Ok tt → Fits
  unfolding table_read_refusal
  fits e =
      let few = refused_if (ltb (table_size / WIDTH) (row_count table)) Refusal.RowRoom in
      let small = refused_if (ltb pool_size (length pool)) Refusal.PoolRoom in
      let unref = verdict-accepted (table_read_refusal table pool table_size pool_size) e in
      let a = all_none (check_refusal table pool ∷ few ∷ small ∷ []) unref in
      let whole = (unrefused table pool a.0).size.whole in
      let rows = ltb-false (table_size / WIDTH) (row_count table) (not-refused _ Refusal.RowRoom a.1.0) in
      record { unrefused = unref; whole = omega arith; words = omega arith; bytes = ltb-false pool_size (length pool) (not-refused _ Refusal.PoolRoom a.1.1.0) }

-- A list copied to the start of a buffer, and the buffer cleared behind it.
copied : (out l : List ℕ) (n : ℕ) → n ≡ length l → length l ≤ length out → (o₁ o₂ : List ℕ) → o₁ ≡ l ++ drop (length l) out → o₂ ≡ cleared o₁ n → o₂ ≡ padded (length out) l
copied out l n is room o₁ o₂ copy clear =
    let long : length o₁ ≡ length out = ap length copy ∙ length-append l (drop (length l) out) ∙ (let cut = length-drop (length l) out in omega arith) in
    let front : take n o₁ ≡ l = ap (take n) copy ∙ ap (λ (k : ℕ). take k (l ++ drop (length l) out)) is ∙ take-append_seam l (drop (length l) out) in
    clear ∙ padded-part o₁ n (omega arith) ∙ ap (λ (k : ℕ). padded k (take n o₁)) long ∙ ap (padded (length out)) front

module _ (table pool out_table out_pool : List ℕ) where
  abbrev outcome : Outcome
  outcome = table_read table pool (length out_table) (length out_pool)

  pub read-refused :
      (x : Refusal) → verdict (table_read_refusal table pool (length out_table) (length out_pool)) ≡ Err x
      → {answer : Result Filled Refusal} {t p : List ℕ} → Answers (refusal (length out_table) (length out_pool) x) answer t p → Answers outcome answer t p
  unfolding table_read
  read-refused x e given = rw (verdict-refused (table_read_refusal table pool (length out_table) (length out_pool)) x e) given

  pub read_done :
      (has : Fits table pool (length out_table) (length out_pool)) (rows : ℕ) → rows ≡ row_count table → {t₁ t₂ p₁ p₂ : List ℕ}
      → t₁ ≡ table ++ drop (length table) out_table → t₂ ≡ cleared t₁ (WIDTH * rows) → p₁ ≡ pool ++ drop (length pool) out_pool → p₂ ≡ cleared p₁ (length pool)
      → Answers outcome (Ok (record { rows = rows; bytes = length pool })) t₂ p₂
  unfolding table_read
  read_done has rows is t₁ t₂ p₁ p₂ =
      let whole = has.whole in
      rw has.unrefused (
        ap (λ (n : ℕ). Ok (record { rows = n; bytes = length pool })) is,
        (copied out_table table (WIDTH * rows) (omega arith) has.words _ _ t₁ t₂, copied out_pool pool (length pool) refl has.bytes _ _ p₁ p₂),
      )
