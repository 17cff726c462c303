-- `accept` meets its contract.
use mathlib.Core.Path.{refl}
use borrow.Author.Tests.{not-true, not-false}
use Rattle.rules.proofs.Lists.{true-not-false}
use Rattle.fast_path.specs.Passing.{every_row}
use Rattle.fast_path.proofs.Laws.{links-kept, owned-still, numbered_next, other-reached, other-passed, compared, key-read, attribute-reached, attribute-still, attribute-passed}
use Rattle.fast_path.proofs.accept.Goals as goal

pub returns-then-not-told : goal.returns-then-not-told
returns-then-not-told c =
    record { reached_2 = λ e. absurd (true-not-false e refl); passed = λ e. absurd (true-not-false e refl); reached_3 = λ e. c.requires.reached; by_index = λ q k i j. refl }

pub returns-then-kind-ne-ATTRIBUTE : goal.returns-then-kind-ne-ATTRIBUTE
returns-then-kind-ne-ATTRIBUTE c =
    let g = c.requires.reached in
    let p = c.look-told.ensures (not-false _ c.if-not-told.false) in record { reached_2 = λ e. other-reached c.requires.row_bound g p c.note.ensures c.if-kind-ne-ATTRIBUTE.true; passed = λ e. other-passed c.requires.row_bound g p c.note.ensures c.if-kind-ne-ATTRIBUTE.true; reached_3 = λ e. absurd (true-not-false refl e); by_index = links-kept c.requires.row_bound g p c.note.ensures }

pub add-requires : goal.add-requires
add-requires c =
    let g = c.requires.reached in
    let p = c.look-told.ensures (not-false _ c.if-not-told.false) in record { row_bound = c.requires.row_bound; some_entered = record { enters = every_row; those = owned-still c.requires.row_bound g p c.note.ensures }; row_value = compared c.requires.row_bound g p c.note.ensures c.if-kind-ne-ATTRIBUTE.false; key_value = key-read c.requires.row_bound g p c.note.ensures c.if-kind-ne-ATTRIBUTE.false }

pub returns : goal.returns
returns c =
    let g = c.requires.reached in
    let p = c.look-told.ensures (not-false _ c.if-not-told.false) in
    let a = c.if-kind-ne-ATTRIBUTE.false in
    let double = c.add.ensures.by_index every_row c.args.pool.now _ _ (owned-still c.requires.row_bound g p c.note.ensures) (numbered_next c.requires.row_bound g p c.note.ensures) in record { reached_2 = λ e. attribute-reached c.requires.row_bound g p c.note.ensures a c.add.result c.add.ensures.chains_after (not-true _ e); passed = λ e. attribute-passed c.requires.row_bound g p c.note.ensures a double (not-true _ e); reached_3 = λ e. attribute-still c.requires.row_bound g p c.note.ensures a c.add.result c.add.ensures.chains_after (not-false _ e); by_index = links-kept c.requires.row_bound g p c.note.ensures }
