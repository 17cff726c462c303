-- RULES 13, proposals (Q-8): a table and a pool that a planner, who is not trusted, proposes for an original.
use Rattle.std.specs.Prelude.{ℕ, Bool, ◌&&◌, ◌||◌, not, List, [], ◌∷◌, length, eqb, ltb, leb, Result, ⊤}
use Rattle.std.proofs.Math.Option.{Option, none, some}
use Rattle.rules.specs.Lists.{same_bytes}
use Rattle.rules.specs.Table.{NONE, ATTRIBUTE, DECLARATION, Node, nodes, node, is_level1}
use Rattle.rules.specs.Answers.{number_of}
use Rattle.rules.specs.Refusals.{refused_if, first_refusal, lowest_refusal, verdict, check_refusal}
use Rattle.rules.specs.Demands.{means, is_bound}
use Rattle.rules.specs.declared.Row.{Row}
use Rattle.rules.specs.declared.Refusal.{Refusal}
use Rattle.bundles.specs.Bundles.{bundle_refusal, bundle_table, bundle_pool}

-- 40, 41: a check that failed, told by its row and word.
unfoldable pub failed : (Row → ℕ → Refusal) → Option Refusal → Option Refusal
failed refusal none = none
failed refusal (some x) = some (refusal (record { 0 = (number_of x).row }) (number_of x).word)

-- The lowest row below count that meets a test.
abbrev pub lowest : (ℕ → Bool) → (Row → Refusal) → ℕ → Option Refusal
lowest test refusal count = lowest_refusal (λ (r : ℕ). refused_if (test r) (refusal (record { 0 = r }))) count

-- 42: a row of type 257 or 258.
abbrev pub is_level1_row : List Node → ℕ → Bool
is_level1_row ns r = is_level1 (node ns r).type

-- An attribute without an owner.
abbrev pub is_ownerless : Node → Bool
is_ownerless n = eqb n.type ATTRIBUTE && eqb n.parent NONE

-- The row keeps its type, its parent, its maker and the bytes of its local name, URI and value, save that a declaration's value may
-- differ; an ownerless attribute keeps its prefix.
unfoldable pub keeps_row : Node → Node → Bool
keeps_row n m =
    eqb m.type n.type && eqb m.parent n.parent && eqb m.maker n.maker
    && same_bytes m.local.bytes n.local.bytes && same_bytes m.uri.bytes n.uri.bytes
    && (eqb n.type DECLARATION || same_bytes m.value.bytes n.value.bytes)
    && (not (is_ownerless n) || same_bytes m.prefix.bytes n.prefix.bytes)

-- 43: a row of the original that is missing or not kept,
unfoldable pub is_changed : List Node → List Node → ℕ → Bool
is_changed original proposal r = not (ltb r (length proposal) && keeps_row (node original r) (node proposal r))

-- or a further row that is no declaration.
unfoldable pub is_foreign : List Node → List Node → ℕ → Bool
is_foreign original proposal r = leb (length original) r && not (eqb (node proposal r).type DECLARATION)

-- Further rows have higher numbers than those of the original, so both parts of 43, one after the other, name the lowest row.
abbrev pub changes_refusal : List Node → List Node → Option Refusal
changes_refusal original proposal =
    first_refusal
    (lowest (is_changed original proposal) Refusal.Changed (length original)
    ∷ lowest (is_foreign original proposal) Refusal.Changed (length proposal)
    ∷ [])

-- 44: an element or an owned attribute that does not mean its URI in scope.
unfoldable pub is_unresolved : List Node → ℕ → Bool
is_unresolved proposal r = is_bound (node proposal r) && not (means proposal r)

-- 44, for the lowest row.
abbrev pub unresolved_refusal : List Node → Option Refusal
unresolved_refusal proposal = lowest (is_unresolved proposal) Refusal.Unresolved (length proposal)

-- 42, of a table.
abbrev pub level_refusal : List Node → Option Refusal
level_refusal ns = lowest (is_level1_row ns) Refusal.ProposalLevel1 (length ns)

-- What a proposal is refused for, where the checks of the original and of the proposal drew these refusals: 40 to 44, in order,
-- 42 of the original first.
unfoldable pub judged : Option Refusal → List Node → Option Refusal → List Node → Option Refusal
judged drawn original drawn' proposal =
    first_refusal
    (failed Refusal.Original drawn
    ∷ failed Refusal.Proposal drawn'
    ∷ level_refusal original
    ∷ level_refusal proposal
    ∷ changes_refusal original proposal
    ∷ unresolved_refusal proposal
    ∷ [])

unfoldable pub proposal_refusal : List ℕ → List ℕ → List ℕ → List ℕ → Option Refusal
proposal_refusal table pool table' pool' =
    judged (check_refusal table pool) (nodes table pool) (check_refusal table' pool') (nodes table' pool')

-- The operation: an original, a table and its pool, and a proposal, a table and its pool.
unfoldable pub proposal_checked : List ℕ → List ℕ → List ℕ → List ℕ → Result ⊤ Refusal
proposal_checked table pool table' pool' = verdict (proposal_refusal table pool table' pool')

-- Over bundle bytes: what the check of a bundle draws, 30 to 32 among it, makes it fail.
unfoldable pub bundle_check_refusal : List ℕ → Option Refusal
bundle_check_refusal bytes = first_refusal (bundle_refusal bytes ∷ check_refusal (bundle_table bytes) (bundle_pool bytes) ∷ [])

abbrev pub rows_of : List ℕ → List Node
rows_of bytes = nodes (bundle_table bytes) (bundle_pool bytes)

unfoldable pub bundle_proposal_checked : List ℕ → List ℕ → Result ⊤ Refusal
bundle_proposal_checked original proposal =
    verdict (judged (bundle_check_refusal original) (rows_of original) (bundle_check_refusal proposal) (rows_of proposal))
