use Rattle.std.proofs.Common.{refl, sym, ◌∙◌, arith}
use borrow.Author.Tests.{ltb-true, ltb-false}
use Rattle.declarations.proofs.Path.{searching-hit, searching-next, searching-end}
use Rattle.in_scope.proofs.serving.Goals as goal

pub returns-then-has_row : goal.returns-then-has_row
returns-then-has_row c =
    λ pool name meant other. searching-hit _ _ _ _ _ (c.loop-element.invariant pool name meant other) (omega arith) _ refl _ (c.own_serving-declaration.ensures pool name meant other) (ltb-true _ _ (sym c.has_row.ensures ∙ c.if-has_row.true))

pub loop-element-preserved : goal.loop-element-preserved
loop-element-preserved c =
    λ pool name meant other. searching-next _ _ _ _ _ (c.loop-element.invariant pool name meant other) (omega arith) _ refl _ (c.own_serving-declaration.ensures pool name meant other) (ltb-false _ _ (sym c.has_row.ensures ∙ c.if-has_row.false))

pub returns : goal.returns
returns c =
    λ pool name meant other. let few = c.requires.ready.few in searching-end _ _ _ _ _ (c.loop-element.invariant pool name meant other) (omega (arith, few)) (omega arith)
