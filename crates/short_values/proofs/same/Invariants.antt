-- `same` meets its contract. The invariant: the strings are equal from i on.
use Rattle.short_strings.proofs.Bytes.{EqualFrom}
use Rattle.short_values.proofs.same.Given as goal

abbrev pub invariant-loop-i : goal.invariant-loop-i
invariant-loop-i l = EqualFrom l.a l.b l.i

abbrev pub decreases-loop-i : goal.decreases-loop-i
decreases-loop-i l = l.i
