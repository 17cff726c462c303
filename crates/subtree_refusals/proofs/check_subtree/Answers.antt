-- `subtree_refusals::check_subtree` meets its contract.
use Rattle.rules.specs.Table.{nodes}
use Rattle.subtree_refusals.proofs.Subtree.{is-accepted, few-prepared, flags-room, subtree-markup, subtree-characters, subtree-names}
use Rattle.std.proofs.Common.{sym, ap, ◌∙◌, Err}
use Rattle.std.proofs.lemmas.Result.{err_from_is_err_and}
use Rattle.subtree_refusals.proofs.check_subtree.Goals as goal

pub flag_all-requires : goal.flag_all-requires
flag_all-requires c = let small = few-prepared c.requires.prepared in (small, flags-room _ small)

pub check_markup-requires : goal.check_markup-requires
check_markup-requires c = let small = few-prepared c.requires.prepared in (small, rw c.flag_all.auto.flags (flags-room _ small))

pub returns-in_err-check_markup : goal.returns-in_err-check_markup
returns-in_err-check_markup c =
    let p = err_from_is_err_and c.from_residual.result c.from_residual.ensures.1 in
    rw (p.1 ∙ ap Err p.2 ∙ sym c.in_err-check_markup.was)
    (λ kind start.
    subtree-markup (nodes c.args.table.now c.args.pool.now) start c.args.element.0 (c.check_markup.ensures c.args.element.0 c.args.pool.now c.flag_all.ensures) _ c.in_err-check_markup.was)

pub check_characters-requires : goal.check_characters-requires
check_characters-requires c =
    record { pool_value = is-accepted c.requires.prepared; table_in_bounds = rw c.flag_all.auto.flags (flags-room _ (few-prepared c.requires.prepared)) }

pub returns-in_err-check_characters : goal.returns-in_err-check_characters
returns-in_err-check_characters c =
    let p = err_from_is_err_and c.from_residual-in_err-check_characters.result c.from_residual-in_err-check_characters.ensures.1 in
    rw (p.1 ∙ ap Err p.2 ∙ sym c.in_err-check_characters.was)
    (λ kind start.
    subtree-characters (nodes c.args.table.now c.args.pool.now) start c.args.element.0 (c.check_markup.ensures c.args.element.0 c.args.pool.now c.flag_all.ensures) c.in_ok-check_markup.was (c.check_characters.ensures c.args.element.0 c.flag_all.ensures) _ c.in_err-check_characters.was)

pub check_names-requires : goal.check_names-requires
check_names-requires c =
    record { by_index = (_, c.requires.prepared.walkable); standing = c.requires.prepared.standing; element_bound = (c.requires.element_bound, rw c.flag_all.auto.flags (flags-room _ (few-prepared c.requires.prepared))) }

pub returns : goal.returns
returns c =
    λ kind start.
    subtree-names (nodes c.args.table.now c.args.pool.now) start c.args.element.0 (c.check_markup.ensures c.args.element.0 c.args.pool.now c.flag_all.ensures) c.in_ok-check_markup.was (c.check_characters.ensures c.args.element.0 c.flag_all.ensures) c.in_ok-check_characters.was
    (c.check_names.ensures c.args.pool.now c.requires.prepared.walkable c.flag_all.ensures kind c.requires.writable_to)
