-- What opening the two bundles tells.
-- Assumes nothing.
use Rattle.std.specs.Prelude.{Err}
use Prim.Native.Nat.{ℕ, ◌*◌}
use mathlib.Core.Path.{◌≡◌, refl}
use mathlib.Core.List.{List}
use mathlib.Core.Option.{none, some}
use lib.ListN.{take}
use Rattle.rules.specs.Table.{WIDTH}
use Rattle.rules.specs.Answers.{number_of}
use Rattle.rules.specs.Refusals.{check_refusal}
use Rattle.rules.specs.declared.Refusal.{Refusal}
use Rattle.bundles.specs.Bundles.{bundle_pool}
use Rattle.bundles.specs.Opening.{opening_refusal, Opens}
use Rattle.proposals.specs.Proposals.{failed, judged, proposal_refusal, proposal_checked, bundle_check_refusal, bundle_proposal_checked}
use Rattle.bundle_proposals.proofs.Opening.{opening-fails, opened-check}
use Rattle.bundle_proposals.specs.Opened.{opened_checked}

-- The original is no bundle, or fails the check: 40.
pub original-fails : (original proposal : List ℕ) (x : Refusal) → bundle_check_refusal original ≡ some x → Err (Refusal.Original (record { 0 = (number_of x).row }) (number_of x).word) ≡ bundle_proposal_checked original proposal
unfolding bundle_proposal_checked judged failed
original-fails original proposal x e = rw e refl

-- The proposal is no bundle: 41.
pub proposal-unopened : (table pool bytes : List ℕ) → check_refusal table pool ≡ none → (x : Refusal) → opening_refusal bytes ≡ some x → Err (Refusal.Proposal (record { 0 = (number_of x).row }) (number_of x).word) ≡ opened_checked table pool bytes
unfolding judged failed
proposal-unopened table pool bytes accepted x e = rw (accepted, opening-fails bytes x e) refl

-- A bundle that opens.
module _ (bytes buffer : List ℕ) (n : ℕ) (opens : Opens bytes buffer n) where
  pub original-open : (proposal table rest : List ℕ) → table ≡ take (WIDTH * n) buffer → rest ≡ bundle_pool bytes → opened_checked table rest proposal ≡ bundle_proposal_checked bytes proposal
  unfolding bundle_proposal_checked
  original-open proposal table rest first is = rw (first, is, opens.table, opened-check bytes buffer n opens) refl

  pub proposal-open : (table pool rows rest : List ℕ) → rows ≡ take (WIDTH * n) buffer → rest ≡ bundle_pool bytes → proposal_checked table pool rows rest ≡ opened_checked table pool bytes
  unfolding proposal_checked proposal_refusal
  proposal-open table pool rows rest first is = rw (first, is, opens.table, opened-check bytes buffer n opens) refl
