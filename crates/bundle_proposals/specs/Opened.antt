-- A proposal for an original that is open.
use Rattle.std.specs.Prelude.{ℕ, List, Result, ⊤}
use Rattle.rules.specs.Table.{nodes}
use Rattle.rules.specs.Refusals.{verdict, check_refusal}
use Rattle.proposals.specs.Proposals.{judged, bundle_check_refusal, rows_of}
use Rattle.rules.specs.declared.Refusal.{Refusal}

-- What the proposal, a bundle, is refused for, where the original is this table and its pool.
abbrev pub opened_checked : List ℕ → List ℕ → List ℕ → Result ⊤ Refusal
opened_checked table pool bytes = verdict (judged (check_refusal table pool) (nodes table pool) (bundle_check_refusal bytes) (rows_of bytes))
