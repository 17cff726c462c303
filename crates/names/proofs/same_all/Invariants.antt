-- `names::same_all` meets its contract. The invariant: the bytes seen and the bytes that are left decide.
use Rattle.std.proofs.Common.{◌≡◌, ◌&&◌, length}
use Rattle.rules.specs.Lists.{same_bytes}
use Rattle.names.proofs.same_all.Given as goal

abbrev pub invariant-loop-one : goal.invariant-loop-one
invariant-loop-one l = (length l.one-iterator.a.rest.now ≡ length l.one-iterator.b.rest.now) × ((l.all && same_bytes l.one-iterator.a.rest.now l.one-iterator.b.rest.now) ≡ same_bytes l.a l.b)
