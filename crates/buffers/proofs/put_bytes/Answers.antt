-- `buffers::put_bytes` meets its contract.
use native.Mathlib.Omega.{arith}
use mathlib.Core.Path.{refl}
use Rattle.buffers.proofs.Writes.{put-past, put-fits}
use Rattle.buffers.proofs.put_bytes.Goals as goal

pub returns-then-at-out : goal.returns-then-at-out
returns-then-at-out c = put-past _ _ _ (omega arith)

pub returns-then-end-out : goal.returns-then-end-out
returns-then-end-out c = record { size = refl; fits = λ h. absurd (omega arith); past = λ h. omega arith }

pub returns : goal.returns
returns c = put-fits _ _ _ (omega arith) c.write_bytes.ensures.value c.write_bytes.ensures.out_after
