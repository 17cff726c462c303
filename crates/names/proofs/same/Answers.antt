use Rattle.std.proofs.Common.{◌-◌, length, sym, ◌∙◌}
use Rattle.std.specs.List.{slice_get}
use Rattle.short_strings.proofs.Bytes.{differ}
use Rattle.names.proofs.Last.{told-other, nothing-behind, left-decides, front-left, group-differs}
use Rattle.names.proofs.same.Goals as goal

pub returns-then-a-b : goal.returns-then-a-b
returns-then-a-b c = differ c.args.a.now c.args.b.now length c.if-a-b.true

pub returns-then-ne : goal.returns-then-ne
returns-then-ne c =
    differ c.args.a.now c.args.b.now (λ l. slice_get l (length l - 1))
    (λ e. told-other c.last.result c.last-2.result c.ne.ensures c.if-ne.true (c.last.ensures.value ∙ e ∙ sym c.last-2.ensures.value))

pub loop-a_front-init : goal.loop-a_front-init
loop-a_front-init c = nothing-behind c.args.a.now c.args.b.now c.if-a-b.false

pub returns-then-not-same_all : goal.returns-then-not-same_all
returns-then-not-same_all c = group-differs 1024 c.loop-a_front.invariant c.in-Some.ensures.cases c.split_at.ensures.front c.split_at.ensures.back (sym c.same_all.ensures ∙ c.if-not-same_all.true)

pub loop-a_front-preserved : goal.loop-a_front-preserved
loop-a_front-preserved c = front-left 1024 c.loop-a_front.invariant c.in-Some.ensures.cases c.split_at.ensures.front c.split_at.ensures.back (sym c.same_all.ensures ∙ c.if-not-same_all.false)

pub returns-then-not-same_all-2 : goal.returns-then-not-same_all-2
returns-then-not-same_all-2 c = group-differs 32 c.loop-a_front-2.invariant c.in-Some-split_last_chunk.ensures.cases c.split_at-in-Some-split_last_chunk.ensures.front c.split_at-in-Some-split_last_chunk.ensures.back (sym c.same_all-in-Some-split_last_chunk.ensures ∙ c.if-not-same_all-2.true)

pub loop-a_front-2-preserved : goal.loop-a_front-2-preserved
loop-a_front-2-preserved c = front-left 32 c.loop-a_front-2.invariant c.in-Some-split_last_chunk.ensures.cases c.split_at-in-Some-split_last_chunk.ensures.front c.split_at-in-Some-split_last_chunk.ensures.back (sym c.same_all-in-Some-split_last_chunk.ensures ∙ c.if-not-same_all-2.false)

pub returns : goal.returns
returns c = c.same_short-2.ensures ∙ left-decides c.loop-a_front-2.invariant
