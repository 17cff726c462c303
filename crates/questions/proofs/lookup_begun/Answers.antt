-- `questions::lookup_begun` meets its contract.
use Rattle.std.proofs.Common.{sym, ap, ◌∙◌, Ok}
use lib.Seq.{length-take-le}
use Rattle.declarations.proofs.Meanings.{meant-relinked}
use Rattle.questions.proofs.Going.{some-elements, found, nothing, refused}
use Rattle.std.proofs.lemmas.Result.{err_from_is_err_and}
use Rattle.questions.proofs.lookup_begun.Goals as goal

pub climb-n-requires : goal.climb-n-requires
climb-n-requires c = let w = c.requires _ c.in_ok-number.was in record { unlinked = w.unlinked; row_bound = (w.within, w.places) }

pub returns-then-n-eq0 : goal.returns-then-n-eq0
returns-then-n-eq0 c =
    λ pool begins.
    let g = begins.0 _ c.in_ok-number.was in
    nothing _ _ _ _ _ g.unrefused _ _ (c.climb-n.ensures.by_index pool) c.if-n-eq0.true

pub slice_bounds-along-end-2 : goal.slice_bounds-along-end-2
slice_bounds-along-end-2 c = sym (length-take-le _ _ c.climb-n.ensures.upper_bound)

pub along-requires : goal.along-requires
along-requires c =
    record { along = c.climb-n.ensures.along; start = some-elements _ _ c.climb-n.ensures.upper_bound c.if-n-eq0.false }

pub returns : goal.returns
returns c =
    λ pool begins.
    let g = begins.0 _ c.in_ok-number.was in
    ap Ok (c.along.ensures pool (meant-relinked _ g.meant c.climb-n.ensures.relinked)) ∙ found _ _ _ _ _ g.unrefused _ (c.climb-n.ensures.by_index pool)

pub returns-in_err-number : goal.returns-in_err-number
returns-in_err-number c =
    let p = err_from_is_err_and c.from_residual.result c.from_residual.ensures.1 in
    rw (p.1, p.2)
    (λ pool begins. refused _ _ _ _ _ _ (begins.1 _ c.in_err-number.was))
