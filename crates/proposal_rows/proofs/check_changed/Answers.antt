-- `check_changed` meets its contract.
use mathlib.Core.Path.{refl}
use mathlib.Core.List.{[], ◌∷◌}
use mathlib.Core.Option.{some}
use Rattle.rules.specs.Table.{nodes}
use Rattle.proposals.specs.Proposals.{level_refusal}
use Rattle.proposal_rows.proofs.Levels.{level-passed, level-first}
use Rattle.std.proofs.lemmas.Result.{err_from_is_err_and}
use Rattle.proposal_rows.proofs.check_changed.Goals as goal

pub returns : goal.returns
returns c =
    λ pool. level-passed (level_refusal (nodes c.args.proposal.now pool)) (some c.args.why ∷ []) (c.check_levels.ensures pool) c.in_ok-check_levels.was refl

pub returns-in_err-check_levels : goal.returns-in_err-check_levels
returns-in_err-check_levels c =
    let p = err_from_is_err_and c.from_residual.result c.from_residual.ensures.1 in
    rw (p.1, p.2)
    (λ pool. level-first (level_refusal (nodes c.args.proposal.now pool)) (some c.args.why ∷ []) (c.check_levels.ensures pool) _ c.in_err-check_levels.was)
