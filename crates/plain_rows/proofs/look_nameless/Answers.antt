-- `look_nameless` meets its contract.
use mathlib.Core.Path.{refl}
use Rattle.plain_rows.proofs.Laws.{nameless-told, text-type, text-element, plain-told}
use Rattle.plain_rows.proofs.look_nameless.Goals as goal

pub returns : goal.returns
returns c =
    let t = c.args.table.now in
    let pool = c.args.pool.now in
    let r = c.args.row.0 in
    let text = c.requires.row_value in
    λ e.
    plain-told t pool c.args.dictionary.now r c.requires.row_bound.0 c.requires.row_bound.1 c.requires.inside (text-type text)
    (nameless-told t pool c.args.dictionary.now r c.requires.dictionary text c.parent-owner.ensures refl refl refl refl c.place.ensures c.place-2.ensures c.place-3.ensures c.is_nothing-prefix.ensures c.is_nothing-local.ensures c.is_nothing-uri.ensures e)
    c.requires.good_value (text-element text)
