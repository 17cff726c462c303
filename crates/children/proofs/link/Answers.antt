-- `children::link` meets its contract.
use Prim.Native.Nat.{◌+◌}
use native.Mathlib.Omega.{arith}
use mathlib.Core.Path.{refl, sym, ap, ◌∙◌}
use borrow.Author.Tests.{ltb-true}
use Rattle.rules.specs.Table.{PARENT, word, row_count}
use Rattle.notes.specs.Notes.{note_at, noted}
use Rattle.children.specs.Children.{is_under, first_word}
use Rattle.children.proofs.Linking.{linked, passed, own_read, own-one, own-outside, own-other, words-fit}
use Rattle.children.proofs.link.Goals as goal

pub link-next-requires : goal.link-next-requires
link-next-requires c =
    let less = ltb-true c.parent-parent.result.0 (row_count c.args.table.now) (sym c.has_row.ensures ∙ c.if-has_row.true) in
    omega arith

pub set_link-requires-then-has_row : goal.set_link-requires-then-has_row
set_link-requires-then-has_row c =
    let less = ltb-true c.parent-parent.result.0 (row_count c.args.table.now) (sym c.has_row.ensures ∙ c.if-has_row.true) in
    omega (arith, less, c.requires.table_bound.1, c.first_word-first.ensures.0, c.first_word-first.ensures.1, c.set_link.auto.notes)

pub returns-then-has_row : goal.returns-then-has_row
returns-then-has_row c =
    let table = c.args.table.now in
    let owned = c.args.owned in
    let r = c.args.row.0 in
    let links = c.args.links.now in
    let o = c.parent-parent.result.0 in
    let less = ltb-true o (row_count table) (sym c.has_row.ensures ∙ c.if-has_row.true) in let all = linked (is_under owned table) (first_word owned) links (row_count table) r c.requires.table_bound.2 c.requires.listed o c.link-next.result.0 (words-fit owned) less c.requires.table_bound.1 (own_read owned table r c.kind.result o c.kind.ensures c.parent-parent.ensures (sym c.is_kind.ensures ∙ c.if-is_kind.true)) (own-one owned table r c.kind.result o c.kind.ensures c.parent-parent.ensures) (c.link-next.ensures ∙ ap (note_at links o) c.first_word-first.ensures.0)
    c.set_link.new.notes c.set_link-then-has_row.new.notes (c.set_link.ensures ∙ ap (λ k. noted links r (k + 1) c.link-next.result.0) c.first_word-first.ensures.0) (c.set_link-then-has_row.ensures ∙ ap (noted c.set_link.new.notes o c.first_word-first.result) c.position_of.ensures ∙ ap (λ k. noted c.set_link.new.notes o k (r + 1)) c.first_word-first.ensures.0) in record { listed_2 = all.0; relinked = all.1 }

pub returns-else-has_row : goal.returns-else-has_row
returns-else-has_row c =
    let table = c.args.table.now in
    let owned = c.args.owned in
    let r = c.args.row.0 in record { listed_2 = passed (is_under owned table) (first_word owned) c.args.links.now (row_count table) r c.requires.table_bound.2 c.requires.listed (own-outside owned table r c.kind.result c.parent-parent.result.0 c.kind.ensures c.parent-parent.ensures (row_count table) (sym c.has_row.ensures ∙ c.if-has_row.false)); relinked = λ q k h a b. refl }

pub returns-else-is_kind : goal.returns-else-is_kind
returns-else-is_kind c =
    let table = c.args.table.now in
    let owned = c.args.owned in
    let r = c.args.row.0 in record { listed_2 = passed (is_under owned table) (first_word owned) c.args.links.now (row_count table) r c.requires.table_bound.2 c.requires.listed (λ e h. own-other owned table r c.kind.result (word table r PARENT) c.kind.ensures refl (sym c.is_kind.ensures ∙ c.if-is_kind.false) e); relinked = λ q k h a b. refl }
