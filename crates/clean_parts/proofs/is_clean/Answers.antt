-- `clean_parts::is_clean` meets its contract.
use Prim.Native.Nat.{◌+◌, ◌*◌, ◌/◌}
use mathlib.Core.Path.{◌≡◌, sym, subst}
use mathlib.Core.Bool.{true, false, true≢false}
use native.Mathlib.Omega.{arith}
use borrow.Author.Tests.{eqb-true, leb-true}
use Rattle.clean_parts.specs.Clean.{Clean}
use Rattle.clean_parts.proofs.Parts.{clean-joined}
use Rattle.clean_parts.proofs.is_clean.Goals as goal

pub returns-then-end-stop : goal.returns-then-end-stop
returns-then-end-stop c =
    λ is. subst (Clean c.args.pool.now c.args.start) (eqb-true c.first_forbidden.result c.args.end is) c.first_forbidden.ensures.1

pub returns-then-first_forbidden-stop : goal.returns-then-first_forbidden-stop
returns-then-first_forbidden-stop c =
    λ is. let pool = c.args.pool.now in
    let stop = 256 * (c.args.start / 256 + 1) in
    let front : Clean pool c.args.start stop = subst (Clean pool c.args.start) c.if-first_forbidden-stop.true c.first_forbidden-2.ensures.1 in
    let within = leb-true c.args.end c.index.result is in
    clean-joined pool c.args.start stop c.args.end c.index.result front (subst (Clean pool stop) (sym c.index.ensures) (c.requires.reached (c.args.start / 256 + 1) (omega arith))) within

pub returns : goal.returns
returns c = λ is. let bad : true ≡ false = sym is in absurd (true≢false bad)
