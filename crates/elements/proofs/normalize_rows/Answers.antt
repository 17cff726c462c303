use Rattle.std.proofs.Common.{◌<◌, ◌∙◌, arith}
use Rattle.elements.proofs.Pass.{pass-start, pass-past, pass-within, pass-go, pass-other, pass-element, pass-next, pass-as}
use Rattle.elements.proofs.normalize_rows.Goals as goal
use Rattle.elements.proofs.normalize_rows.Goals.{then-kind-eq-ELEMENT, else-kind-eq-ELEMENT}

pub loop-r-init : goal.loop-r-init
loop-r-init c = pass-start c.requires

pub kind-requires : goal.kind-requires
kind-requires c = pass-within c.requires c.loop-r.invariant (omega arith) c.if-rows-limit.false

pub forward-requires : goal.forward-requires
forward-requires c =
    let all = pass-go c.requires c.loop-r.invariant (omega arith) c.if-rows-limit.false c.position_of-to.ensures in record { ready = all.0; from_lt_to = all.1.0; standing = all.1.1 }

pub normalize_element-made-requires : goal.normalize_element-made-requires
normalize_element-made-requires c =
    (_, pass-element c.requires c.loop-r.invariant (omega arith) c.if-rows-limit.false c.kind.ensures c.if-kind-eq-ELEMENT.true c.position_of-to.ensures c.forward.auto.tops c.forward.auto.path c.forward.ensures.untouched c.forward.ensures.standing_2)

pub loop-r-preserved : goal.loop-r-preserved
loop-r-preserved c =
    let less : c.loop-r.r < c.args.sizes.rows = omega arith in
    let fits = c.if-rows-limit.false in
    elim c.if-kind-eq-ELEMENT.branch [
      | then-kind-eq-ELEMENT w ↦
          let there = w.position_of-to.ensures in
          let here = pass-element c.requires c.loop-r.invariant less fits c.kind.ensures w.if-kind-eq-ELEMENT.true there w.forward.auto.tops w.forward.auto.path w.forward.ensures.untouched w.forward.ensures.standing_2 in
          pass-as w.table-is w.pool-is w.notes-is w.tops-is w.path-is w.rows-is w.bytes-is w.names-is (w.position-is ∙ there)
          (pass-next c.requires c.loop-r.invariant less fits c.kind.ensures w.if-kind-eq-ELEMENT.true there w.forward.auto.tops w.forward.auto.path w.forward.ensures.untouched w.forward.ensures.standing_2 (w.normalize_element-made.ensures _ here)
          w.normalize_element-made.auto.table w.normalize_element-made.auto.pool w.normalize_element-made.auto.notes w.normalize_element-made.auto.tops w.normalize_element-made.auto.path)
      | else-kind-eq-ELEMENT w ↦
          pass-as w.table-is w.pool-is w.notes-is w.tops-is w.path-is w.rows-is w.bytes-is w.names-is w.position-is
          (pass-other c.requires c.loop-r.invariant less fits c.kind.ensures w.if-kind-eq-ELEMENT.false)
    ]

pub returns-then-rows-limit : goal.returns-then-rows-limit
returns-then-rows-limit c = pass-past c.requires c.loop-r.invariant c.if-rows-limit.true
