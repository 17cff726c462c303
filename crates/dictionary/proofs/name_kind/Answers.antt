-- `name_kind` meets its contract.
use mathlib.Core.Path.{ap, ◌∙◌}
use mathlib.Core.List.{List}
use Prim.Native.Nat.{ℕ}
use Rattle.entries.specs.Entries.{KIND, word}
use Rattle.dictionary.proofs.Places.{has-places, lent, kind-named}
use Rattle.dictionary.proofs.name_kind.Goals as goal

pub returns : goal.returns
returns c =
    λ pool name g named. c.word.ensures ∙ ap (λ (e : List ℕ). word e c.args.number.0 KIND) (lent c.args.dictionary.now (has-places g)) ∙ kind-named g c.args.number.0 named
