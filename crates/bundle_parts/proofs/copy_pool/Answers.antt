-- `bundle_parts::copy_pool` meets its contract.
use mathlib.Core.Path.{ap, ◌∙◌}
use lib.ListN.{length, take}
use Rattle.buffers.proofs.Meaning.{copied}
use Rattle.bundle_parts.proofs.copy_pool.Goals as goal

pub pool-bytes-requires : goal.pool-bytes-requires
pool-bytes-requires c = c.requires.bundle_in_bounds

pub copy_bytes-requires : goal.copy_bytes-requires
copy_bytes-requires c = rw c.pool-bytes.ensures c.requires.bundle_in_bounds_2

pub returns : goal.returns
returns c =
    record { value = ap length c.pool-bytes.ensures; work_after = ap (take (length c.pool-bytes.result.now)) c.copy_bytes.ensures ∙ copied _ _ ∙ c.pool-bytes.ensures }
