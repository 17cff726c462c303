-- `salvage_judge::judge_sized` meets its contract.
use mathlib.Core.Path.{refl, sym, ◌∙◌}
use Rattle.checker.proofs.Whole.{still-enough, has-flag}
use Rattle.salvage_judge.proofs.judge_sized.Goals as goal

pub judge_rows-first-requires : goal.judge_rows-first-requires
judge_rows-first-requires c =
    record { enough = c.requires.enough; judging = c.requires.judging; dictionary = c.requires.dictionary; table_in_bounds = λ on. c.requires.table_in_bounds; fated = λ on. c.requires.fated }

pub is_hard-requires : goal.is_hard-requires
is_hard-requires c = has-flag c.requires.enough _ c.judge_rows-first.auto.dictionary

pub judge_hard-requires : goal.judge_hard-requires
judge_hard-requires c =
    record { enough = still-enough c.requires.enough c.judge_rows-first.auto.dictionary c.judge_rows-first.auto.notes; judging = c.requires.judging; table_in_bounds = rw c.judge_rows-first.auto.fates c.requires.table_in_bounds }

pub returns-then-is_hard : goal.returns-then-is_hard
returns-then-is_hard c = c.judge_hard.ensures

pub returns : goal.returns
returns c = c.judge_rows-first.ensures.judged (sym c.is_hard.ensures ∙ c.if-is_hard.false) refl
