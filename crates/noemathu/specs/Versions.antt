-- RULES 11.8, the calls over bundles of the version before makers, by name: each answers what it answers of the bundle that is
-- written of the same table and pool.
use Rattle.std.specs.Prelude.{ℕ, ◌≡◌, true, List}
use Rattle.std.proofs.Math.Option.{none}
use Rattle.rules.specs.Lists.{all_of}
use Rattle.little_endian.specs.Numbers.{is_byte}
use Rattle.bundles.specs.Bundles.{bundle_refusal}
use Rattle.bundles.specs.Versions.{renewed, AnswersAlike}
use Rattle.packing.specs.Packing.{bundle_packed}
use Rattle.salvage.specs.Salvage.{bundle_salvaged}
use Rattle.markup.specs.Writing.{bundle_text}
use Rattle.proposals.specs.Proposals.{bundle_proposal_checked}

-- The check, the lookups, reading and normalization; XML text, packing and salvage; and a proposal's check, on either side.
pub record CallsAlike (bytes other : List ℕ) : Type 0 where
  pub answers : AnswersAlike bytes other
  pub text : (start size : ℕ) → bundle_text other start size ≡ bundle_text bytes start size
  pub packed : (size : ℕ) → bundle_packed other size ≡ bundle_packed bytes size
  pub salvaged : (size list_size : ℕ) → bundle_salvaged other size list_size ≡ bundle_salvaged bytes size list_size
  pub original : (planned : List ℕ) → bundle_proposal_checked other planned ≡ bundle_proposal_checked bytes planned
  pub proposal : (first : List ℕ) → bundle_proposal_checked first other ≡ bundle_proposal_checked first bytes

abbrev pub CallsRenewed : Type 0
CallsRenewed = (bytes : List ℕ) → all_of is_byte bytes ≡ true → bundle_refusal bytes ≡ none → CallsAlike bytes (renewed bytes)
