use native.Mathlib.Omega.{arith}
use Rattle.rules.specs.Table.{nodes}
use Rattle.rules.specs.Lookups.{gives_prefix}
use Rattle.declarations.proofs.Meanings.{tree}
use Rattle.declarations.proofs.Walking.{walk_first, walk-within, walk-type, walk-next, walk-falls, walking-first, walking-next, walking-end}
use Rattle.prefixes.proofs.own_giving.Goals as goal

pub link-at-requires : goal.link-at-requires
link-at-requires c = omega (arith, c.requires.started.along.ready.noted, c.requires.element.within)

pub loop-at-init : goal.loop-at-init
loop-at-init c =
    (walk_first _ _ c.requires.started.along.ready _ c.requires.element _ c.link-at.ensures, λ pool name meant xml. walking-first _ _ c.requires.started.along.ready _ c.requires.element pool (tree meant) (gives_prefix (nodes c.args.table.now pool) c.args.path.now name) _ c.link-at.ensures)

pub row_at-row-requires : goal.row_at-row-requires
row_at-row-requires c = c.loop-at-test.true

pub gives_prefix-is-requires : goal.gives_prefix-is-requires
gives_prefix-is-requires c =
    record { started = c.requires.started; declaration_bound = (walk-within _ _ c.requires.started.along.ready _ c.requires.element _ c.loop-at.invariant.0 c.loop-at-test.true _ c.row_at-row.ensures, walk-type _ _ c.requires.started.along.ready _ c.requires.element _ c.loop-at.invariant.0 c.loop-at-test.true _ c.row_at-row.ensures) }

pub link-at-requires-in-loop-at : goal.link-at-requires-in-loop-at
link-at-requires-in-loop-at c =
    let within = walk-within _ _ c.requires.started.along.ready _ c.requires.element _ c.loop-at.invariant.0 c.loop-at-test.true _ c.row_at-row.ensures in
    omega (arith, c.requires.started.along.ready.noted, within)

pub loop-at-smaller : goal.loop-at-smaller
loop-at-smaller c =
    walk-falls _ _ c.requires.started.along.ready _ c.requires.element _ c.loop-at.invariant.0 c.loop-at-test.true _ c.row_at-row.ensures _ c.link-at-in-loop-at.ensures

pub loop-at-preserved : goal.loop-at-preserved
loop-at-preserved c = (
  walk-next _ _ c.requires.started.along.ready _ c.requires.element _ c.loop-at.invariant.0 c.loop-at-test.true _ c.row_at-row.ensures _ c.link-at-in-loop-at.ensures,
  λ pool name meant xml.
      walking-next _ _ c.requires.started.along.ready _ c.requires.element pool (tree meant) (gives_prefix (nodes c.args.table.now pool) c.args.path.now name) _ _ (c.loop-at.invariant.1 pool name meant xml) c.loop-at.invariant.0 c.loop-at-test.true _ c.row_at-row.ensures _ c.link-at-in-loop-at.ensures _
      (c.gives_prefix-is.ensures pool name meant xml) _ c.earlier-first.ensures,
)

pub returns : goal.returns
returns c =
    λ pool name meant xml. walking-end _ _ c.requires.started.along.ready _ c.requires.element pool (tree meant) (gives_prefix (nodes c.args.table.now pool) c.args.path.now name) _ _ (c.loop-at.invariant.1 pool name meant xml) (omega arith)
