-- `key` meets its contract.
use Rattle.interning.proofs.Keying.{keyed-entries}
use Rattle.interning.proofs.key.Goals as goal

pub returns : goal.returns
returns c =
    let all = keyed-entries c.args.entries.now c.make.new.tables c.requires.in_bounds.0 c.requires.by_index c.make.auto.tables c.args.pool.now c.make.ensures.made in record { entries = all.0; entries_after = all.1 }
