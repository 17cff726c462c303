-- `enter` meets its contract.
use native.Mathlib.Omega.{arith}
use lib.ListN.{length-set}
use Rattle.doubles.proofs.Adding.{entered-none, entered-linked}
use Rattle.doubles.proofs.enter.Goals as goal

pub bounds-chains-bucket-then-bucket-lt-BUCKETS : goal.bounds-chains-bucket-then-bucket-lt-BUCKETS
bounds-chains-bucket-then-bucket-lt-BUCKETS c = simp length-set (omega arith)

pub returns-then-bucket-lt-BUCKETS : goal.returns-then-bucket-lt-BUCKETS
returns-then-bucket-lt-BUCKETS c =
    entered-linked c.args.chains.now c.args.bucket c.args.row.0 c.if-bucket-lt-BUCKETS.true c.position_of-position.ensures

pub returns-else-bucket-lt-BUCKETS : goal.returns-else-bucket-lt-BUCKETS
returns-else-bucket-lt-BUCKETS c = entered-none c.args.chains.now c.args.bucket c.args.row.0 (omega arith)
