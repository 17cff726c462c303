-- `look` meets its contract.
use mathlib.Core.Path.{sym, ◌∙◌}
use Rattle.rules.proofs.Lists.{true-not-false}
use Rattle.plain_rows.proofs.Laws.{type-read}
use Rattle.plain_rows.proofs.look.Goals as goal

pub returns-then-not-is_inside : goal.returns-then-not-is_inside
returns-then-not-is_inside c = λ e. absurd (true-not-false e c.not_plain.ensures)

pub returns-then-not-has_good_value : goal.returns-then-not-has_good_value
returns-then-not-has_good_value c = λ e. absurd (true-not-false e c.not_plain-then-not-has_good_value.ensures)

pub look_nameless-requires : goal.look_nameless-requires
look_nameless-requires c =
    record { row_bound = c.requires.row_bound; dictionary = c.requires.dictionary; inside = c.is_inside.ensures (c.if-not-is_inside.false); row_value = sym c.kind-kind.ensures ∙ c.if-kind-eq-TEXT.true; good_value = c.has_good_value.ensures (c.if-not-has_good_value.false) }

pub returns-then-kind : goal.returns-then-kind
returns-then-kind c = λ e. absurd (true-not-false e c.not_plain-then-kind.ensures)

pub look_valued-requires : goal.look_valued-requires
look_valued-requires c =
    record { row_bound = c.requires.row_bound; ascii_value = c.requires.ascii_value; dictionary = c.requires.dictionary; inside = c.is_inside.ensures (c.if-not-is_inside.false); row_value = type-read c.kind-kind.ensures c.if-kind.false }
