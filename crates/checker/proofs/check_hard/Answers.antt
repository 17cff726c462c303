-- `checker::check_hard` meets its contract.
use mathlib.Core.Path.{refl}
use native.Mathlib.Omega.{arith}
use Rattle.checker.proofs.Whole.{still-enough}
use Rattle.checker.proofs.check_hard.Goals as goal

pub harden-requires : goal.harden-requires
harden-requires c =
    let words = c.requires.enough.words in
    (omega arith, c.requires.enough.bytes)

pub check_rows-requires : goal.check_rows-requires
check_rows-requires c =
    record { enough = still-enough c.requires.enough c.harden.auto.dictionary refl; judging = c.requires.judging; dictionary = (c.harden.ensures.dictionary, c.harden.ensures.dictionary_bound) }

pub returns : goal.returns
returns c =
    record { value = c.check_rows.ensures.value refl; named = c.check_rows.ensures.named refl; by_index = c.check_rows.ensures.by_index }
