-- `bundles::refuse` meets its contract.
use Rattle.bundles.proofs.Writing.{refused-left}
use Rattle.bundles.proofs.refuse.Goals as goal

pub returns : goal.returns
returns c = let all = refused-left c.args.out.now _ _ c.clear_bytes.ensures in record { value = all.0; out_after = all.1 }
