-- `runs::look_for_run` meets its contract.
use Prim.Native.Nat.{ℕ, ◌-◌}
use mathlib.Core.Path.{◌≡◌, ap, ◌∙◌}
use mathlib.Core.List.{List}
use native.Mathlib.Omega.{arith}
use lib.ListN.{length, take, drop, length-drop}
use Rattle.std.proofs.lemmas.List.{take_all}
use Rattle.std.proofs.Common.{rules}
use Rattle.std.proofs.lemmas.Iterator.{YieldsList-from_slice}
use Rattle.std.proofs.lemmas.Iterator.Search.{position_from_yields_List}
use Rattle.std.specs.List.{position}
use borrow.Author.Tests.{tests}
use Rattle.escapes.specs.Escapes.{is_escaped}
use Rattle.runs.specs.Runs.{run}
use Rattle.runs.proofs.Runs.{run-position}
use Rattle.runs.proofs.look_for_run.Goals as goal

pub returns : goal.returns
returns c =
    let quoted = c.args.quoted in
    let bytes = c.args.bytes.now in
    let rest = take (length bytes - c.args.i) (drop c.args.i bytes) in
    let found : c.position.result ≡ position (is_escaped quoted) rest = position_from_yields_List (is_escaped quoted) _ _ c.position.result c.position.ensures.ran (YieldsList-from_slice rest (cc)) (λ x b q k. search (rules, tests)) in
    let all : rest ≡ drop c.args.i bytes = take_all (length bytes - c.args.i) (drop c.args.i bytes) (omega (arith, length-drop c.args.i bytes)) in
    c.unwrap_or.ensures ∙ run-position quoted rest found ∙ ap (λ (l : List ℕ). length (run quoted l)) all
