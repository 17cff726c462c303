use Rattle.std.proofs.Common.{◌≡◌, ◌+◌, ◌-◌, refl, arith}
use Rattle.dictionary.specs.Dictionary.{spelling}
use Rattle.dictionary.proofs.Laws.{has_last, has_words}
use Rattle.ns_names.proofs.Entering.{entered-start, entered-next}
use Rattle.ns_names.proofs.enter_all.Goals as goal

pub last-last-requires : goal.last-last-requires
last-last-requires c = has_last c.requires.dictionary

pub loop-n-init : goal.loop-n-init
loop-n-init c =
    record { next = omega arith; entered = entered-start (spelling c.args.dictionary.now c.args.pool.now) c.args.records.now c.requires.by_index }

pub name_of-requires : goal.name_of-requires
name_of-requires c = has_words c.requires.dictionary c.loop-n.n (record { known = omega arith; spelled = refl })

pub loop-n-preserved : goal.loop-n-preserved
loop-n-preserved c =
    let spell = spelling c.args.dictionary.now c.args.pool.now in
    let n : c.loop-n.n - 1 + 1 ≡ c.loop-n.n = omega arith in
    let m : c.loop-n.n + 1 - 1 ≡ c.loop-n.n - 1 + 1 = omega arith in
    record {
      next = omega arith;
      entered = rw m (entered-next spell c.args.records.now c.loop-n.invariant.entered (rw n c.name_of.ensures) c.numbered-k.ensures (rw n c.enter.ensures));
    }

pub returns : goal.returns
returns c =
    let end : c.loop-n.n - 1 ≡ c.last-last.result.0 = omega arith in
    rw (← c.last-last.ensures, ← end) c.loop-n.invariant.entered

pub returns-2 : goal.returns-2
returns-2 c =
    let spell = spelling c.args.dictionary.now c.args.pool.now in
    let n : c.loop-n.n - 1 + 1 ≡ c.loop-n.n = omega arith in
    let end : c.loop-n.n - 1 + 1 ≡ c.last-last.result.0 = omega arith in
    rw (← c.last-last.ensures, ← end) (entered-next spell c.args.records.now c.loop-n.invariant.entered (rw n c.name_of.ensures) c.numbered-k.ensures (rw n c.enter.ensures))
