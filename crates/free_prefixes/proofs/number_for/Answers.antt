-- `free_prefixes::number_for` meets its contract.
use Rattle.free_prefixes.proofs.Free.{number-there, number-next}
use Rattle.free_prefixes.proofs.number_for.Goals as goal

pub returns-then-number-gt0 : goal.returns-then-number-gt0
returns-then-number-gt0 c =
    let all = number-there c.args.path.now c.args.k c.args.names c.numbered-number.ensures c.if-number-gt0.true in record { result_value = all.0; path_after = all.1 }

pub returns : goal.returns
returns c =
    let all = number-next c.args.path.now c.args.k c.args.names c.numbered-number.ensures c.if-number-gt0.false c.set_numbered.ensures in record { result_value = all.0; path_after = all.1 }
