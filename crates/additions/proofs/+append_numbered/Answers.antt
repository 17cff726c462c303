use Prim.Native.Nat.{ℕ}
use mathlib.Core.Path.{sym, ap, ◌∙◌}
use mathlib.Core.List.{[], ◌∷◌}
use lib.ListN.{length}
use native.Mathlib.Omega.{arith}
use Rattle.buffers.specs.Writes.{written}
use Rattle.additions.proofs.Numbered.{numbered-last, more-length, numbered-stored}
use Rattle.additions.proofs.+append_numbered.Goals as goal

pub append_bytes-requires : goal.append_bytes-requires
append_bytes-requires t c =
    let size = ap length (numbered-last c.args.k (omega arith)) in
    omega arith

pub returns-then-k-lt10 : goal.returns-then-k-lt10
returns-then-k-lt10 t c =
    let same = numbered-last c.args.k (omega arith) ∙ ap (λ (x : ℕ). 78 ∷ 83 ∷ x ∷ []) (sym c.digit.ensures) in record { value = sym (ap length same); pool_after = c.append_bytes.ensures ∙ ap (written c.args.pool.now c.args.at.0) (sym same) }

pub append_numbered-front-requires : goal.append_numbered-front-requires
append_numbered-front-requires t c =
    let size = more-length c.args.k (omega arith) in
    (omega arith, omega arith)

pub overflow_add-end : goal.overflow_add-end
overflow_add-end t c =
    let size = more-length c.args.k (omega arith) in
    omega arith

pub bounds-pool-end : goal.bounds-pool-end
bounds-pool-end t c =
    let size = more-length c.args.k (omega arith) in
    omega arith

pub overflow_add-result : goal.overflow_add-result
overflow_add-result t c =
    let size = more-length c.args.k (omega arith) in
    omega arith

pub returns : goal.returns
returns t c =
    let k = c.args.k in record { value = omega (arith, more-length k (omega arith)); pool_after = numbered-stored k c.args.pool.now c.args.at.0 (omega arith) (omega arith) c.append_numbered-front.ensures.value c.append_numbered-front.ensures.pool_after c.digit-2.ensures }
