-- Whether a number below r passes a test.
-- Assumes nothing.
use Rattle.std.proofs.Common.{ℕ, zero, suc, ◌+◌, ◌≤◌, ◌<◌, ◌≡◌, refl, sym, ap, ◌∙◌, Bool, ◌||◌, List, length, take, add-one, add-zero, arith}
use Rattle.std.proofs.Math.Bool.{or_comm, or_assoc, or-false}
use Rattle.std.specs.List.{list_any, range_with_len}
use lib.Seq.{take-suc}
use Rattle.rules.specs.Lists.{any_of}
use Rattle.rules.specs.Table.{Node, no_node, row_count, node_at, nodes, node}
use Rattle.rules.proofs.Lists.{any_of-append}
use Rattle.rules.proofs.Table.{length-nodes, node-nodes}
use Rattle.tree.specs.Earlier.{any_before}

module _ (test : ℕ → Bool) where
  any_more : (r : ℕ) → any_before test (r + 1) ≡ (test r || any_before test r)
  unfolding any_before
  any_more r = rw add-one refl

  -- the numbers from r on, and those below it
  any-from : (r n : ℕ) → (list_any test (range_with_len r n) || any_before test r) ≡ any_before test (r + n)
  any-from r zero = rw add-zero refl
  any-from r (suc n) =
      let far : r + 1 + n ≡ r + suc n = omega arith in
      ap (λ b. b || any_before test r) (or_comm (test r) (list_any test (range_with_len (r + 1) n)))
      ∙ or_assoc (list_any test (range_with_len (r + 1) n)) (test r) (any_before test r)
      ∙ ap (λ b. list_any test (range_with_len (r + 1) n) || b) (sym (any_more r))
      ∙ any-from (r + 1) n
      ∙ ap (any_before test) far

  pub any-range : (r : ℕ) → list_any test (range_with_len 0 r) ≡ any_before test r
  unfolding any_before
  any-range r =
      let far : 0 + r ≡ r = omega arith in
      sym (or-false (list_any test (range_with_len 0 r))) ∙ any-from 0 r ∙ ap (any_before test) far

-- A test of the rows before row r.
pub any-take : (test : Node → Bool) (table pool : List ℕ) (r : ℕ) → r ≤ row_count table → any_of test (take r (nodes table pool)) ≡ any_before (λ j. test (node_at table pool j)) r
unfolding any_before node
any-take test table pool zero h = refl
any-take test table pool (suc r) h =
    let l : r < length (nodes table pool) = rw length-nodes h in
    rw (take-suc (nodes table pool) r no_node l, any_of-append, node-nodes table pool r h, any-take test table pool r (omega arith), or-false)
    (or_comm (any_before (λ j. test (node_at table pool j)) r) (test (node_at table pool r)))
