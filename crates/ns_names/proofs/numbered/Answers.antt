use Rattle.std.proofs.Common.{◌≡◌, ◌-◌, length, take, drop, sym, ◌∙◌, arith}
use Rattle.std.proofs.lemmas.List.{length-drop}
use Rattle.std.proofs.Math.Seq.{take_all}
use Rattle.ns_names.proofs.Reading.{number_short, number-other, number-other-second, number-start, read-end, read-fails, read_step, follows-small}
use Rattle.ns_names.proofs.numbered.Goals as goal

pub returns-then-name-lt2 : goal.returns-then-name-lt2
returns-then-name-lt2 c = sym (number_short c.args.name.now (omega arith))

pub returns-then-name-ne78 : goal.returns-then-name-ne78
returns-then-name-ne78 c = sym (number-other c.args.name.now (omega arith) c.if-name-ne78.true)

pub returns-then-name-ne83 : goal.returns-then-name-ne83
returns-then-name-ne83 c = sym (number-other-second c.args.name.now (omega arith) c.if-name-ne83.true)

pub loop-byte-init : goal.loop-byte-init
loop-byte-init c =
    let name = c.args.name.now in
    let digits : take (length name - 2) (drop 2 name) ≡ drop 2 name = take_all (length name - 2) (drop 2 name) (rw length-drop (omega arith)) in
    record { few = omega arith; left = rw digits (number-start name (omega arith) c.if-name-ne78.false c.if-name-ne83.false) }

pub returns-then-not-follows : goal.returns-then-not-follows
returns-then-not-follows c =
    let digits = take (length c.args.name.now - 2) (drop 2 c.args.name.now) in
    sym (read-fails digits c.loop-byte.k c.loop-byte.byte-index (omega arith) (sym c.follows.ensures ∙ c.if-not-follows.true)) ∙ c.loop-byte.invariant.left

pub overflow_sub-k : goal.overflow_sub-k
overflow_sub-k c = (follows-small _ _ (sym c.follows.ensures ∙ c.if-not-follows.false)).0

pub loop-byte-preserved : goal.loop-byte-preserved
loop-byte-preserved c =
    let digits = take (length c.args.name.now - 2) (drop 2 c.args.name.now) in
    let digit = sym c.follows.ensures ∙ c.if-not-follows.false in
    record {
      few = (follows-small _ _ digit).1;
      left = read_step digits c.loop-byte.k c.loop-byte.byte-index (omega arith) digit ∙ c.loop-byte.invariant.left;
    }

pub returns : goal.returns
returns c =
    let digits = take (length c.args.name.now - 2) (drop 2 c.args.name.now) in
    sym (read-end digits c.loop-byte.k c.loop-byte.byte-index (omega arith)) ∙ c.loop-byte.invariant.left
