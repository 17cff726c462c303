use mathlib.Core.Path.{sym, ◌∙◌}
use native.Mathlib.Omega.{arith}
use Rattle.bindings.proofs.Asking.{search-start, search-next, search-end}
use Rattle.free_prefixes.proofs.least_unused.Goals as goal

pub loop-k-init : goal.loop-k-init
loop-k-init c = search-start _ _ _

pub is_used-requires : goal.is_used-requires
is_used-requires c =
    let most = c.loop-k.invariant.high c.requires.0 c.requires.1 in (omega (arith, c.requires.1.placed), c.requires.1.topped _ most)

pub overflow_add-k : goal.overflow_add-k
overflow_add-k c = record { fits = omega (arith, c.loop-k.invariant.high c.requires.0 c.requires.1, c.requires.1.small) }

pub loop-k-smaller : goal.loop-k-smaller
loop-k-smaller c = omega (arith, c.loop-k.invariant.high c.requires.0 c.requires.1, c.requires.1.small)

pub loop-k-preserved : goal.loop-k-preserved
loop-k-preserved c = search-next _ _ c.loop-k.invariant (sym c.is_used.ensures ∙ c.loop-k-test.true)

pub returns : goal.returns
returns c = search-end _ _ c.loop-k.invariant (sym c.is_used.ensures ∙ c.loop-k-test.false)
