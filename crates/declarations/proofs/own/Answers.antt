use Prim.Native.Nat.{ℕ}
use mathlib.Core.Path.{ap, ◌∙◌}
use native.Mathlib.Omega.{arith}
use lib.Dec.{eqb}
use Rattle.rules.specs.Lookups.{declares}
use Rattle.declarations.proofs.Meanings.{tree, local-names}
use Rattle.declarations.proofs.Walking.{walk_first, walk-within, walk-next, walk-falls, walking-first, walking-next, walking-end}
use Rattle.declarations.proofs.own.Goals as goal

pub link-at-requires : goal.link-at-requires
link-at-requires c = omega (arith, c.requires.ready.noted, c.requires.element.within)

pub loop-at-init : goal.loop-at-init
loop-at-init c =
    (walk_first _ _ c.requires.ready _ c.requires.element _ c.link-at.ensures, λ pool name meant. walking-first _ _ c.requires.ready _ c.requires.element pool (tree meant) (declares name) _ c.link-at.ensures)

pub row_at-row-requires : goal.row_at-row-requires
row_at-row-requires c = c.loop-at-test.true

pub name-requires : goal.name-requires
name-requires c =
    let within = walk-within _ _ c.requires.ready _ c.requires.element _ c.loop-at.invariant.0 c.loop-at-test.true _ c.row_at-row.ensures in
    omega (arith, c.requires.ready.noted, within)

pub link-at-requires-in-loop-at : goal.link-at-requires-in-loop-at
link-at-requires-in-loop-at c =
    let within = walk-within _ _ c.requires.ready _ c.requires.element _ c.loop-at.invariant.0 c.loop-at-test.true _ c.row_at-row.ensures in
    omega (arith, c.requires.ready.noted, within)

pub loop-at-smaller : goal.loop-at-smaller
loop-at-smaller c =
    walk-falls _ _ c.requires.ready _ c.requires.element _ c.loop-at.invariant.0 c.loop-at-test.true _ c.row_at-row.ensures _ c.link-at-in-loop-at.ensures

pub loop-at-preserved : goal.loop-at-preserved
loop-at-preserved c =
    let within = walk-within _ _ c.requires.ready _ c.requires.element _ c.loop-at.invariant.0 c.loop-at-test.true _ c.row_at-row.ensures in (
      walk-next _ _ c.requires.ready _ c.requires.element _ c.loop-at.invariant.0 c.loop-at-test.true _ c.row_at-row.ensures _ c.link-at-in-loop-at.ensures,
      λ pool name meant.
          walking-next _ _ c.requires.ready _ c.requires.element pool (tree meant) (declares name) _ _ (c.loop-at.invariant.1 pool name meant) c.loop-at.invariant.0 c.loop-at-test.true _ c.row_at-row.ensures _ c.link-at-in-loop-at.ensures _
          (ap (λ (n : ℕ). eqb n c.args.prefix.0) c.name.ensures ∙ meant.asked _ _ (local-names meant _ within)) _ c.earlier-first.ensures,
    )

pub returns : goal.returns
returns c =
    λ pool name meant. walking-end _ _ c.requires.ready _ c.requires.element pool (tree meant) (declares name) _ _ (c.loop-at.invariant.1 pool name meant) (omega arith)
