-- What acceptance gives, and that normalization's own results are accepted.
use Rattle.std.specs.Prelude.{ℕ, ◌/◌, ◌≤◌, ◌<◌, ◌≡◌, List, length, T, Ok}
use Rattle.rules.specs.Table.{WIDTH, DECLARATION, nodes, node}
use Rattle.rules.specs.Normalization.{success, normalized}
use Rattle.rules.specs.Demands.{succeeded, result_table, result_pool, is_bound, KeepsMeaning}
use Rattle.proposals.specs.Proposals.{proposal_checked}

-- Our normalizer's own successful result is always accepted.
abbrev pub OwnResult : Type 0
OwnResult =
    (table pool : List ℕ) (table_size pool_size : ℕ) → T (succeeded (normalized table pool table_size pool_size)) →
    proposal_checked table pool (result_table (normalized table pool table_size pool_size)) (result_pool (normalized table pool table_size pool_size))
    ≡ Ok tt

-- Demand 3, first part, of every accepted proposal.
abbrev pub ProposalMeaning : Type 0
ProposalMeaning =
    (table pool table' pool' : List ℕ) → proposal_checked table pool table' pool' ≡ Ok tt →
    (r : ℕ) → r < length (nodes table pool) → T (is_bound (node (nodes table pool) r)) →
    KeepsMeaning (nodes table pool) (nodes table' pool') r

-- An accepted proposal has the rows of the original and adds nothing but declarations.
abbrev pub ProposalAdds : Type 0
ProposalAdds =
    (table pool table' pool' : List ℕ) → proposal_checked table pool table' pool' ≡ Ok tt →
    (length (nodes table pool) ≤ length (nodes table' pool'))
    × ((r : ℕ) → length (nodes table pool) ≤ r → r < length (nodes table' pool') → (node (nodes table' pool') r).type ≡ DECLARATION)

-- Normalization, given the room, leaves an accepted proposal as it is: the outputs are its rows and its pool.
abbrev pub ProposalNormal : Type 0
ProposalNormal =
    (table pool table' pool' : List ℕ) → proposal_checked table pool table' pool' ≡ Ok tt →
    (table_size pool_size : ℕ) → length (nodes table' pool') ≤ table_size / WIDTH → length pool' ≤ pool_size →
    normalized table' pool' table_size pool_size ≡ success table_size pool_size (record { rows = nodes table' pool'; pool = pool' })
