-- `checker::check_sized` meets its contract.
use mathlib.Core.Path.{sym, ◌∙◌}
use Rattle.checker.proofs.Whole.{still-enough, has-flag}
use Rattle.checker.proofs.check_sized.Goals as goal

pub check_rows-first-requires : goal.check_rows-first-requires
check_rows-first-requires c = record { enough = c.requires.enough; judging = c.requires.judging; dictionary = c.requires.dictionary }

pub is_hard-requires : goal.is_hard-requires
is_hard-requires c = has-flag c.requires.enough _ c.check_rows-first.auto.dictionary

pub check_hard-requires : goal.check_hard-requires
check_hard-requires c =
    record { enough = still-enough c.requires.enough c.check_rows-first.auto.dictionary c.check_rows-first.auto.notes; judging = c.requires.judging }

pub returns-then-is_hard : goal.returns-then-is_hard
returns-then-is_hard c =
    record { value = c.check_hard.ensures.value; named = c.check_hard.ensures.named; by_index = λ q n l o. c.check_hard.ensures.by_index q n l o ∙ c.check_rows-first.ensures.by_index q n l o }

pub returns : goal.returns
returns c =
    let plain = sym c.is_hard.ensures ∙ c.if-is_hard.false in record { value = c.check_rows-first.ensures.value plain; named = c.check_rows-first.ensures.named plain; by_index = c.check_rows-first.ensures.by_index }
