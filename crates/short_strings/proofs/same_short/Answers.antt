use Rattle.std.proofs.Common.{◌≡◌, ◌*◌, ◌/◌, length, drop, ap, sym, ◌∙◌, arith}
use Rattle.rules.proofs.Lists.{equal-same_bytes}
use Rattle.short_strings.proofs.Bytes.{differ}
use Rattle.short_strings.proofs.Groups.{all-left, next-compared, other-compared, told-same, told-other}
use Rattle.short_strings.proofs.same_short.Goals as goal

pub returns-then-a-b : goal.returns-then-a-b
returns-then-a-b c = differ c.args.a.now c.args.b.now length c.if-a-b.true

pub returns-then-ne : goal.returns-then-ne
returns-then-ne c =
    let b = c.args.b.now in
    let other : c.as_chunks.result.1.now ≡ c.as_chunks-2.result.1.now → ⊥ = told-other _ _ c.ne.ensures c.if-ne.true in
    let level = ap (λ n. drop (n / 4 * 4) b) c.if-a-b.false in
    differ c.args.a.now b (drop (length c.args.a.now / 4 * 4)) (λ e. other (c.as_chunks.ensures.back ∙ e ∙ level ∙ sym c.as_chunks-2.ensures.back))

pub loop-a_four-init : goal.loop-a_four-init
loop-a_four-init c =
    let a = c.args.a.now in
    let b = c.args.b.now in
    let same : c.as_chunks.result.1.now ≡ c.as_chunks-2.result.1.now = told-same _ _ c.ne.ensures c.if-ne.false in
    let level = ap (λ n. drop (n / 4 * 4) b) c.if-a-b.false in
    all-left 4 a b _ _ (length a / 4) (cc) (cc)
    (record {
      within = omega arith;
      level = c.if-a-b.false;
      behind = equal-same_bytes (sym c.as_chunks.ensures.back ∙ same ∙ c.as_chunks-2.ensures.back ∙ sym level);
    })

pub returns-then-not-same_four : goal.returns-then-not-same_four
returns-then-not-same_four c =
    let step = c.in-Some.ensures.steps in
    differ c.args.a.now c.args.b.now (λ l. l)
    (other-compared 4 _ _ _ _ _ _ (rw (step.0, step.1) at c.loop-a_four.invariant) (sym c.same_four.ensures ∙ c.if-not-same_four.true))

pub loop-a_four-preserved : goal.loop-a_four-preserved
loop-a_four-preserved c =
    let step = c.in-Some.ensures.steps in
    next-compared 4 _ _ _ _ _ _ (rw (step.0, step.1) at c.loop-a_four.invariant) (sym c.same_four.ensures ∙ c.if-not-same_four.false)
