-- `check_names` meets its contract.
use native.Mathlib.Omega.{arith}
use Rattle.scope_preparation.proofs.Preparing.{path_room}
use Rattle.proposal_check.proofs.check_names.Goals as goal

pub prepare-requires : goal.prepare-requires
prepare-requires c =
    record { unlinked = c.requires.by_index.1.unlinked; in_bounds = omega (arith, path_room c.requires.cleared c.requires.by_index.1) }

pub check-requires : goal.check-requires
check-requires c =
    let p = c.prepare.ensures _ _ _ c.requires.by_index.1 c.requires.cleared in record { by_index = (_, p.walkable); standing = p.standing }

pub returns : goal.returns
returns c = λ pool ground. c.check.ensures pool (c.prepare.ensures _ _ _ ground c.requires.cleared).walkable
