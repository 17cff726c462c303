-- `reach_from` meets its contract.
use Prim.Native.Nat.{ℕ}
use mathlib.Core.Path.{ap, ◌∙◌}
use mathlib.Core.List.{List}
use Rattle.rules.specs.Lists.{all_of}
use Rattle.rules.specs.Refusals.{is_name_byte}
use Rattle.ends.proofs.Reaching.{reach-on, reach-none}
use Rattle.ends.proofs.reach_from.Goals as goal

pub returns-then-all_named : goal.returns-then-all_named
returns-then-all_named c =
    reach-on c.args.colons c.args.pool.now c.args.start c.args.end (c.all_named.ensures ∙ ap (λ (l : List ℕ). all_of (is_name_byte c.args.colons) l) c.part.ensures.result_value) c.if-all_named.true c.requires.reach

pub returns : goal.returns
returns c =
    reach-none c.args.colons c.args.pool.now c.args.start (c.all_named.ensures ∙ ap (λ (l : List ℕ). all_of (is_name_byte c.args.colons) l) c.part.ensures.result_value) c.if-all_named.false
