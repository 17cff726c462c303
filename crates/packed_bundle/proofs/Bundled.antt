-- What packing a bundle answers and leaves: each refusal, and the result.
-- Assumes nothing.
use Prim.Native.Nat.{ℕ, ◌+◌, ◌*◌, ◌≤◌, ◌<◌}
use mathlib.Core.Path.{◌≡◌, refl, ap, ◌∙◌}
use mathlib.Core.Bool.{false}
use mathlib.Core.List.{List}
use mathlib.Core.Option.{none, some}
use native.Mathlib.Omega.{arith}
use borrow.Author.Tests.{lt-ltb, le-ltb}
use lib.ListN.{length, take, length-map}
use Rattle.rules.specs.Table.{WIDTH, MOST_ROWS, MOST_BYTES, row_count, nodes, words}
use Rattle.rules.specs.Refusals.{check_refusal}
use Rattle.rules.specs.Normalization.{too_many_rows, too_many_bytes, room_refusal}
use Rattle.rules.specs.declared.Refusal.{Refusal}
use Rattle.rules.proofs.Table.{length-nodes, length-words}
use Rattle.rules.proofs.Accepted.{unrefused, few-rows}
use Rattle.bundles.specs.Bundles.{HEADER, bundle_pool}
use Rattle.bundles.specs.Opening.{opening_refusal, Opens}
use Rattle.bundles.specs.Operations.{write_refused, write_done, bundle_written, state_bundle}
use Rattle.bundles.proofs.Writing.{length-bundle}
use Rattle.bundles.proofs.Over.{over-refused, over-open}
use Rattle.packing.specs.Packing.{entries, packed_node, packed_form, packing_refusal, packed_into, bundle_packed}

module _ (table pool : List ℕ) (size : ℕ) where
  pub into-refused : (x : Refusal) → check_refusal table pool ≡ some x → packed_into table pool size ≡ write_refused size x
  unfolding packed_into packing_refusal bundle_written
  into-refused x e = rw e refl

  module _ (a : check_refusal table pool ≡ none) where
    row-count : length (packed_form (nodes table pool)).rows ≡ row_count table
    unfolding packed_form
    row-count = length-map (nodes table pool) (packed_node (entries (nodes table pool))) ∙ length-nodes table pool

    row_room : too_many_rows (WIDTH * MOST_ROWS) (packed_form (nodes table pool)) ≡ false
    unfolding too_many_rows
    row_room =
        let few = few-rows table pool (unrefused table pool a).size in
        rw (row-count, le-ltb MOST_ROWS (row_count table) few) refl

    -- 11.
    pub into-past : MOST_BYTES < length (packed_form (nodes table pool)).pool → packed_into table pool size ≡ write_refused size Refusal.PoolRoom
    unfolding packed_into packing_refusal room_refusal too_many_bytes bundle_written
    into-past past = rw (a, row_room, lt-ltb MOST_BYTES (length (packed_form (nodes table pool)).pool) past) refl

    -- The words of the packed rows, and the bytes of the bundle.
    pub packed-words : length (words (packed_form (nodes table pool)).rows) ≡ length table
    packed-words =
        let whole = (unrefused table pool a).size.whole in
        let long = length-words (packed_form (nodes table pool)).rows in
        omega (arith, row-count, long, whole)

    pub bundle-size : length (state_bundle (packed_form (nodes table pool))) ≡ HEADER + 4 * length table + length (packed_form (nodes table pool)).pool
    unfolding state_bundle
    bundle-size =
        length-bundle (words (packed_form (nodes table pool)).rows) (packed_form (nodes table pool)).pool
        ∙ ap (λ (n : ℕ). HEADER + 4 * n + length (packed_form (nodes table pool)).pool) packed-words

    module _ (short : length (packed_form (nodes table pool)).pool ≤ MOST_BYTES) where
      -- 33.
      pub into-short : size < length (state_bundle (packed_form (nodes table pool))) → packed_into table pool size ≡ write_refused size Refusal.BundleRoom
      unfolding packed_into packing_refusal room_refusal too_many_bytes bundle_written
      into-short less = rw (a, row_room, le-ltb MOST_BYTES (length (packed_form (nodes table pool)).pool) short, lt-ltb size (length (state_bundle (packed_form (nodes table pool)))) less) refl

      pub into-done : length (state_bundle (packed_form (nodes table pool))) ≤ size → packed_into table pool size ≡ write_done size (state_bundle (packed_form (nodes table pool)))
      unfolding packed_into packing_refusal room_refusal too_many_bytes bundle_written
      into-done room = rw (a, row_room, le-ltb MOST_BYTES (length (packed_form (nodes table pool)).pool) short, le-ltb size (length (state_bundle (packed_form (nodes table pool)))) room) refl

-- Where opening refuses.
pub pack-not-open : (bytes : List ℕ) (x : Refusal) → opening_refusal bytes ≡ some x → (size : ℕ) → bundle_packed bytes size ≡ write_refused size x
unfolding bundle_packed
pack-not-open bytes x e size = over-refused bytes (write_refused size) (λ t p. packed_into t p size) x e (λ s. into-refused _ _ size Refusal.Size s)

-- And where it does not: that of the table and the pool.
pub pack-open : (bytes buffer : List ℕ) (n : ℕ) → Opens bytes buffer n → (table pool : List ℕ) → table ≡ take (WIDTH * n) buffer → pool ≡ bundle_pool bytes → (size : ℕ) → packed_into table pool size ≡ bundle_packed bytes size
unfolding bundle_packed
pack-open bytes buffer n is table pool first rest size = ap (λ (t : List ℕ). packed_into t pool size) first ∙ over-open bytes buffer n is pool rest (write_refused size) (λ t p. packed_into t p size)
