use Prim.Native.Nat.{◌<◌}
use native.Mathlib.Omega.{arith}
use mathlib.Core.Path.{sym, ◌∙◌}
use Rattle.rules.specs.Table.{row_count}
use Rattle.unsettled.proofs.Walking.{few, ready, asked, walkable-kept}
use Rattle.meanings.proofs.Writable.{writable-told, writable-next}
use Rattle.meanings.proofs.first_unwritable.Goals as goal

pub overflow_cast-rows : goal.overflow_cast-rows
overflow_cast-rows c = omega (arith, few c.requires.by_index.1)

pub is_writable-requires-clause-asked : goal.is_writable-requires-clause-asked
is_writable-requires-clause-asked c =
    let less : c.loop-r.r < row_count c.args.table.now = omega arith in
    asked (walkable-kept (walkable-kept c.requires.by_index.1 c.loop-r.tops c.loop-r.path c.loop-r.auto.tops c.loop-r.auto.path c.loop-r.invariant.xml) _ _ c.approach-position.auto.tops c.approach-position.auto.path c.approach-position.ensures.path_unchanged) c.approach-position.result.0 c.approach-position.ensures.standing_2.0 c.loop-r.r less

pub go-requires-clause-ready : goal.go-requires-clause-ready
go-requires-clause-ready c =
    ready (walkable-kept (walkable-kept c.requires.by_index.1 c.loop-r.tops c.loop-r.path c.loop-r.auto.tops c.loop-r.auto.path c.loop-r.invariant.xml) _ _ c.approach-position.auto.tops c.approach-position.auto.path c.approach-position.ensures.path_unchanged)

pub returns-then-not-is_writable-clause-by_index_2 : goal.returns-then-not-is_writable-clause-by_index_2
returns-then-not-is_writable-clause-by_index_2 c = λ pool w q l k. c.loop-r.invariant.writable pool w q l

pub returns-then-not-is_writable-clause-path_unchanged : goal.returns-then-not-is_writable-clause-path_unchanged
returns-then-not-is_writable-clause-path_unchanged c =
    c.go.ensures.untouched 0 ∙ c.approach-position.ensures.path_unchanged ∙ c.loop-r.invariant.xml

pub loop-r-preserved : goal.loop-r-preserved
loop-r-preserved c =
    let t = c.args.table.now in
    let less : c.loop-r.r < row_count t = omega arith in
    record {
      xml = c.approach-position.ensures.path_unchanged ∙ c.loop-r.invariant.xml;
      standing = c.approach-position.ensures.standing_2.0;
      low = c.approach-position.ensures.standing_2.1;
      noted = c.approach-position.ensures.noted_2;
      writable = λ pool w.
          writable-next c.loop-r.r (c.loop-r.invariant.writable pool w)
          (writable-told (walkable-kept (walkable-kept w c.loop-r.tops c.loop-r.path c.loop-r.auto.tops c.loop-r.auto.path c.loop-r.invariant.xml) _ _ c.approach-position.auto.tops c.approach-position.auto.path c.approach-position.ensures.path_unchanged) c.loop-r.r less c.approach-position.ensures.standing_3 (sym c.is_writable.ensures ∙ c.if-not-is_writable.false));
    }

pub go-requires-2-clause-ready : goal.go-requires-2-clause-ready
go-requires-2-clause-ready c =
    ready (walkable-kept c.requires.by_index.1 c.loop-r.tops c.loop-r.path c.loop-r.auto.tops c.loop-r.auto.path c.loop-r.invariant.xml)

pub returns-clause-by_index_2 : goal.returns-clause-by_index_2
returns-clause-by_index_2 c = λ pool w q l k. c.loop-r.invariant.writable pool w q (omega arith)
