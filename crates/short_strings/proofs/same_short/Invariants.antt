-- `short_strings::same_short` meets its contract. The invariant: the groups are left, and the strings are equal behind them.
use Rattle.short_strings.proofs.Groups.{Left}
use Rattle.short_strings.proofs.same_short.Given as goal

abbrev pub invariant-loop-a_four : goal.invariant-loop-a_four
invariant-loop-a_four l = Left 4 l.a l.b l.a_four-iterator.a.iter.rest.now l.a_four-iterator.b.iter.rest.now
