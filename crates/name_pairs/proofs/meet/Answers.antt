-- `meet` meets its contract.
use mathlib.Core.Path.{sym, ◌∙◌}
use Rattle.rules.proofs.Lists.{same_bytes-equal}
use Rattle.name_pairs.proofs.Laws.{compared, met-noted}
use Rattle.name_pairs.proofs.meet.Goals as goal

pub returns-then-not-same : goal.returns-then-not-same
returns-then-not-same c =
    let told = compared c.same.ensures c.part-there.ensures.result_value c.part.ensures.result_value in record { value = sym (c.if-not-same.true) ∙ told; by_index = λ s s' known one two. known }

pub returns : goal.returns
returns c =
    let told = compared c.same.ensures c.part-there.ensures.result_value c.part.ensures.result_value in
    let equal = sym (c.if-not-same.false) ∙ told in record { value = equal; by_index = λ a b known one two. met-noted known c.args.first.0 c.args.second.0 c.requires.0 (one ∙ sym (same_bytes-equal _ _ (sym equal)) ∙ sym two) }
