-- The working table and the working pool have room for the result, whatever the size for which they were made.
-- Assumes nothing.
use Prim.Native.Nat.{ℕ, ◌+◌, ◌*◌, ◌≤◌, ◌<◌, min}
use mathlib.Core.Path.{◌≡◌, subst, sym}
use mathlib.Core.List.{List}
use native.Mathlib.Omega.{arith}
use lib.ListN.{length, replicate, length-replicate}
use Rattle.rules.specs.Table.{WIDTH, MOST_ROWS}
use Rattle.table_size.specs.Small.{FEW_ROWS, FEW_BYTES}
use Rattle.normal_form.specs.Result.{RoomFor}
use Rattle.bundles.specs.Bundles.{bundle_pool}
use Rattle.bundles.specs.Opening.{Opens}
use Rattle.bundles.proofs.Opening.{bundle-agreed, length-pool}
use Rattle.bundle_normalization.specs.Small.{Small}

-- Arrays that were made for so many rows and pool bytes serve a bundle that has no more.
pub room_for :
    (words work : List ℕ) (n bytes most short : ℕ) → WIDTH * min MOST_ROWS (2 * most) ≤ length words → length work ≡ short + 6 * most → short + 6 * most < 65536
    → n ≤ MOST_ROWS → n ≤ most → bytes ≤ short → RoomFor words work n bytes
room_for words work n bytes most short table pool small few within fits =
    record { few = few; table_room = omega arith; pool_room = omega arith; pool_small = omega arith }

-- A pool that is no longer than those it was made for fits into a new working pool.
pub fits_work : (pool : List ℕ) (size : ℕ) → length pool ≤ size → length pool ≤ length (replicate {A = ℕ} size 0)
fits_work pool size h = subst (λ (n : ℕ). length pool ≤ n) (sym (length-replicate {A = ℕ} size 0)) h

-- What a small bundle has, once it is open.
module _ (bytes buffer : List ℕ) (n : ℕ) (is : Opens bytes buffer n) (small : Small bytes) where
  pub rows_few : n ≤ FEW_ROWS
  rows_few =
      let known = bundle-agreed bytes is.bundle in
      let few = small.few known.header in
      let rows = is.rows in
      omega arith

  pub pool-few : length (bundle_pool bytes) ≤ FEW_BYTES
  pool-few =
      let known = bundle-agreed bytes is.bundle in
      let short = small.short known.header in
      let long = length-pool bytes known in
      omega arith
