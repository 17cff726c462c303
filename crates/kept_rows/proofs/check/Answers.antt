-- `check` meets its contract.
use native.Mathlib.Omega.{arith}
use Rattle.rules.specs.Table.{nodes}
use Rattle.pairs.proofs.Laws.{zeros-pairs}
use Rattle.name_pairs.proofs.Laws.{zeros-met}
use Rattle.kept_rows.proofs.Rows.{placed, kept-refused, kept-level2, kept-passed, refused-not}
use Rattle.std.proofs.lemmas.Result.{err_from_is_err_and}
use Rattle.kept_rows.proofs.check.Goals as goal

pub check_kept-requires : goal.check_kept-requires
check_kept-requires c =
    let mine = c.requires.noted.0 in
    let theirs = c.requires.noted.1 in record { placed = (placed c.args.original.now c.args.pool.now c.requires.pool_value.0, placed c.args.proposal.now c.args.other.now c.requires.pool_value.1); meeting = record { first = mine; second = theirs; known = zeros-met mine.spelling theirs.spelling 3073 (omega arith) }; pairs = zeros-pairs c.args.pool.now c.args.other.now 1536 (omega arith); alike = c.begin_alike-alike.ensures }

pub check_further-requires : goal.check_further-requires
check_further-requires c =
    ((placed c.args.original.now c.args.pool.now c.requires.pool_value.0).few, (placed c.args.proposal.now c.args.other.now c.requires.pool_value.1).few)

pub returns : goal.returns
returns c =
    record { pool_value_2 = λ is. kept-level2 (nodes c.args.original.now c.args.pool.now) (nodes c.args.proposal.now c.args.other.now) c.check_kept.ensures c.in_ok-check_kept.was; value = λ level. kept-passed (nodes c.args.original.now c.args.pool.now) (nodes c.args.proposal.now c.args.other.now) c.check_kept.ensures c.in_ok-check_kept.was c.check_further.ensures }

pub returns-in_err-check_kept : goal.returns-in_err-check_kept
returns-in_err-check_kept c =
    let p = err_from_is_err_and c.from_residual.result c.from_residual.ensures.1 in
    rw (p.1, p.2)
    (record { pool_value_2 = λ is. refused-not is; value = λ level. kept-refused (nodes c.args.original.now c.args.pool.now) (nodes c.args.proposal.now c.args.other.now) c.check_kept.ensures _ c.in_err-check_kept.was level })
