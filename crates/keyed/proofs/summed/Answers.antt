use Rattle.std.proofs.Common.{◌≡◌, ◌+◌, ◌*◌, ◌/◌, ℕ, get_or, drop, length, sym, ap, ◌∙◌, arith}
use Rattle.keyed.specs.Keyed.{pushed, sum_from}
use Rattle.keyed.proofs.Sums.{sum_done, sum-two, sum-last, pair-at, odd-byte}
use Rattle.keyed.proofs.summed.Goals as goal

pub loop-pair-preserved : goal.loop-pair-preserved
loop-pair-preserved c =
    let bytes = c.args.bytes.now in
    let i = c.loop-pair.pair-index in
    let pair = rw (← c.as_chunks.ensures.front) at (pair-at bytes (length bytes / 2) i (omega arith)) in
    let next : 2 * (i + 1) ≡ 2 * i + 2 = omega arith in
    let read : (base h : ℕ) → pushed base (pushed base h (c.wide-first.result + 1)) (c.wide-second.result + 1) ≡ pushed base (pushed base h (get_or bytes (2 * i) 0 + 1)) (get_or bytes (2 * i + 1) 0 + 1) =
    λ base h.
    ap (λ (x : ℕ). pushed base (pushed base h (x + 1)) (c.wide-second.result + 1)) (c.wide-first.ensures.0 ∙ pair.0)
    ∙ ap (λ (x : ℕ). pushed base (pushed base h (get_or bytes (2 * i) 0 + 1)) (x + 1)) (c.wide-second.ensures.0 ∙ pair.1) in
    record {
      one_bound = c.push_two-one.ensures.upper_bound;
      two_bound = c.push_two-two.ensures.upper_bound;
      one_left = rw next (ap (λ (x : ℕ). sum_from c.args.bases.one x (drop (2 * i + 2) bytes)) (c.push_two-one.ensures.value ∙ read c.args.bases.one c.loop-pair.one) ∙ sum-two c.args.bases.one c.loop-pair.one (2 * i) bytes (omega arith) ∙ c.loop-pair.invariant.one_left);
      two_left = rw next (ap (λ (x : ℕ). sum_from c.args.bases.two x (drop (2 * i + 2) bytes)) (c.push_two-two.ensures.value ∙ read c.args.bases.two c.loop-pair.two) ∙ sum-two c.args.bases.two c.loop-pair.two (2 * i) bytes (omega arith) ∙ c.loop-pair.invariant.two_left);
    }

pub returns-in-Some : goal.returns-in-Some
returns-in-Some c =
    let bytes = c.args.bytes.now in
    let i = 2 * c.loop-pair.pair-index in
    let full = c.in-Some.ensures.item.3.0 in
    let last = c.wide-last.ensures.0 ∙ odd-byte bytes c.loop-pair.pair-index c.as_chunks.ensures.back (omega arith) (c.in-Some.ensures.item.3.1 0) in
    record {
      one_value = sum-last c.args.bases.one c.loop-pair.one i bytes (omega (arith, full)) (omega arith) last c.push.ensures.value ∙ c.loop-pair.invariant.one_left;
      two_value = sum-last c.args.bases.two c.loop-pair.two i bytes (omega (arith, full)) (omega arith) last c.push-in-Some.ensures.value ∙ c.loop-pair.invariant.two_left;
    }

pub returns : goal.returns
returns c =
    let bytes = c.args.bytes.now in
    let i = 2 * c.loop-pair.pair-index in
    let empty = c.in_default.ensures.item.3 in
    record {
      one_value = sym (sum_done c.args.bases.one c.loop-pair.one i bytes (omega (arith, empty))) ∙ c.loop-pair.invariant.one_left;
      two_value = sym (sum_done c.args.bases.two c.loop-pair.two i bytes (omega (arith, empty))) ∙ c.loop-pair.invariant.two_left;
    }
