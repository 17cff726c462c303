-- `salvage_judge::judge_hard` meets its contract.
use mathlib.Core.Path.{refl}
use native.Mathlib.Omega.{arith}
use Rattle.rules.specs.Table.{nodes}
use Rattle.checker.proofs.Whole.{still-enough}
use Rattle.salvage_judge.proofs.Whole.{fated-cleared}
use Rattle.salvage_judge.proofs.judge_hard.Goals as goal

pub harden-requires : goal.harden-requires
harden-requires c =
    let words = c.requires.enough.words in
    (omega arith, c.requires.enough.bytes)

pub judge_rows-requires : goal.judge_rows-requires
judge_rows-requires c =
    record { enough = still-enough c.requires.enough c.harden.auto.dictionary refl; judging = c.requires.judging; dictionary = (c.harden.ensures.dictionary, c.harden.ensures.dictionary_bound); table_in_bounds = λ on. rw c.clear_words.auto.table c.requires.table_in_bounds; fated = λ on. fated-cleared (nodes c.args.table.now c.args.pool.now) c.args.fates.now c.clear_words.ensures }

pub returns : goal.returns
returns c = c.judge_rows.ensures.judged refl refl
