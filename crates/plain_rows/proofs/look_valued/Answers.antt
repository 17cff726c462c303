-- `look_valued` meets its contract.
use mathlib.Core.Path.{sym, ◌∙◌}
use Rattle.rules.specs.Table.{TYPE, word, VALUE}
use Rattle.rules.proofs.Lists.{true-not-false}
use Rattle.plain_rows.proofs.Laws.{named-type, nothing_read, value-nothing, plain-told}
use Rattle.plain_rows.proofs.look_valued.Goals as goal

pub returns-then-not-names : goal.returns-then-not-names
returns-then-not-names c = λ e. absurd (true-not-false e c.not_plain.ensures)

pub returns-then-not-is_nothing : goal.returns-then-not-is_nothing
returns-then-not-is_nothing c = λ e. absurd (true-not-false e c.not_plain-then-not-is_nothing.ensures)

pub returns-then-names-eq-ELEMENT : goal.returns-then-names-eq-ELEMENT
returns-then-names-eq-ELEMENT c =
    let t = c.args.table.now in
    let pool = c.args.pool.now in
    let r = c.args.row.0 in
    let nothing = sym c.is_nothing.ensures ∙ c.if-not-is_nothing.false in
    λ e.
    plain-told t pool c.args.dictionary.now r c.requires.row_bound.0 c.requires.row_bound.1 c.requires.inside (named-type (word t r TYPE) c.requires.row_value) (c.look_named-names.ensures e) (value-nothing t pool r c.place.ensures nothing) (λ x. nothing_read t pool r VALUE c.place.ensures nothing)

pub returns-then-not-has_good_value : goal.returns-then-not-has_good_value
returns-then-not-has_good_value c = λ e. absurd (true-not-false e c.not_plain-then-not-has_good_value.ensures)

pub returns : goal.returns
returns c =
    let t = c.args.table.now in
    let r = c.args.row.0 in
    λ e.
    let n = c.look_named-names.ensures e in
    plain-told t c.args.pool.now c.args.dictionary.now r c.requires.row_bound.0 c.requires.row_bound.1 c.requires.inside (named-type (word t r TYPE) c.requires.row_value) n (c.has_good_value.ensures (c.if-not-has_good_value.false)) (λ x. absurd (c.if-names-eq-ELEMENT.false (n.kind ∙ x)))
