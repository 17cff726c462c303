-- `input::enter_names` meets its contract.
use Prim.Native.Nat.{◌+◌, ◌*◌}
use native.Mathlib.Omega.{arith}
use Rattle.dictionary.proofs.Laws.{has_last}
use Rattle.input.proofs.Numbered.{names-entered}
use Rattle.input.proofs.enter_names.Goals as goal

pub enter_all-requires : goal.enter_all-requires
enter_all-requires c = record { dictionary = c.requires.dictionary.0; by_index = λ k. c.requires.by_index.0 (4 * k + 3) }

pub last-last-requires : goal.last-last-requires
last-last-requires c = has_last c.requires.dictionary.0

pub returns-then-last-xml : goal.returns-then-last-xml
returns-then-last-xml c =
    names-entered c.args.dictionary.now c.args.pool.now c.args.path.now _ _ _ c.requires.by_index.0 c.enter_all.ensures c.enter_all.auto.records c.requires.by_index.1 c.number_of_name-xml.ensures.result_bound c.number_of_name-xml.ensures.by_index c.set_xml.ensures _
    (omega (arith, c.last-last.ensures, c.if-last-xml.true))

pub returns : goal.returns
returns c =
    names-entered c.args.dictionary.now c.args.pool.now c.args.path.now _ _ _ c.requires.by_index.0 c.enter_all.ensures c.enter_all.auto.records c.requires.by_index.1 c.number_of_name-xml.ensures.result_bound c.number_of_name-xml.ensures.by_index c.set_xml.ensures _
    (omega (arith, c.last-last.ensures, c.if-last-xml.false))
