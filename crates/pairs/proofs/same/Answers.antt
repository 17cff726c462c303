-- `same` meets its contract.
use mathlib.Core.Path.{sym, ◌∙◌}
use native.Mathlib.Omega.{arith}
use Rattle.rules.proofs.Lists.{both_true}
use borrow.Author.Tests.{eqb-true}
use Rattle.pairs.proofs.Laws.{other_length, no_bytes, same_place, known-pair, remembered-pair, compared}
use Rattle.pairs.proofs.same.Goals as goal

pub returns-then-first-second : goal.returns-then-first-second
returns-then-first-second c =
    record { value = other_length c.args.pool.now c.args.other.now c.args.first.offset.0 c.args.second.offset.0 c.args.first.length c.args.second.length c.requires.within c.requires.within_2 (λ e. omega (arith, e)); pairs_2 = c.requires.pairs }

pub returns-then-first-eq0 : goal.returns-then-first-eq0
returns-then-first-eq0 c =
    record { value = no_bytes c.args.pool.now c.args.other.now c.args.first.offset.0 c.args.second.offset.0 c.args.first.length c.args.second.length (omega arith) (omega arith); pairs_2 = c.requires.pairs }

pub returns-then-alike-first : goal.returns-then-alike-first
returns-then-alike-first c =
    let both = both_true _ _ c.if-alike-first.true in record { value = same_place c.args.pool.now c.args.other.now c.args.first.offset.0 c.args.second.offset.0 c.args.first.length c.args.second.length (c.requires.alike both.0) c.requires.within (omega arith) (eqb-true _ _ both.1); pairs_2 = c.requires.pairs }

pub same_bytes-requires : goal.same_bytes-requires
same_bytes-requires c = record { within = (c.requires.within, c.requires.within_2); length_value = omega arith }

pub returns-then-first-lt-SHORT : goal.returns-then-first-lt-SHORT
returns-then-first-lt-SHORT c = record { value = c.same_bytes.ensures; pairs_2 = c.requires.pairs }

pub returns-then-is_known : goal.returns-then-is_known
returns-then-is_known c =
    record { value = known-pair c.requires.pairs c.slot_of-slot.result c.args.first.offset.0 c.args.second.offset.0 c.args.first.length c.args.second.length c.is_known.ensures c.if-is_known.true (omega arith); pairs_2 = c.requires.pairs }

pub returns-then-not-same : goal.returns-then-not-same
returns-then-not-same c =
    let told = compared c.same.ensures c.part-there.ensures.result_value c.part.ensures.result_value in record { value = sym (c.if-not-same.true) ∙ told; pairs_2 = c.requires.pairs }

pub remember-requires : goal.remember-requires
remember-requires c =
    record { slot_bound = (c.slot_of-slot.ensures, c.requires.pairs.words); offset_bound = (omega (arith, c.requires.within.0, c.requires.within.1), omega (arith, c.requires.within.0, c.requires.within.1), omega (arith, c.requires.within_2.0, c.requires.within_2.1)) }

pub returns : goal.returns
returns c =
    let told = compared c.same.ensures c.part-there.ensures.result_value c.part.ensures.result_value in
    let equal = sym (c.if-not-same.false) ∙ told in record { value = equal; pairs_2 = remembered-pair c.requires.pairs c.slot_of-slot.result c.args.first.offset.0 c.args.second.offset.0 c.args.first.length c.args.second.length c.slot_of-slot.ensures (omega (arith, c.if-first-second.false)) (sym equal) c.remember.ensures }
