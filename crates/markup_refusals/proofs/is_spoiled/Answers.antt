-- `markup_refusals::is_spoiled` meets its contract.
use Prim.Native.Nat.{ℕ, ◌+◌}
use mathlib.Core.Path.{◌≡◌, sym, ap, ◌∙◌}
use native.Mathlib.Omega.{arith}
use Rattle.rules.specs.Table.{VALUE, word}
use Rattle.rules.specs.declared.Place.{Place}
use Rattle.markup_refusals.proofs.Tests.{pool-bound, value-within, value-bytes, told-true, told-false}
use Rattle.markup_refusals.proofs.is_spoiled.Goals as goal

pub holds_forbidden-requires : goal.holds_forbidden-requires
holds_forbidden-requires c =
    let table = c.args.table.now in
    let pool = c.args.pool.now in
    let r = c.args.row.0 in
    let start : c.wide-start.result ≡ word table r VALUE = c.wide-start.ensures ∙ ap (λ (p : Place). p.offset.0) c.place-value.ensures in
    let long : c.wide.result ≡ word table r (VALUE + 1) = c.wide.ensures ∙ ap (λ (p : Place). p.length) c.place-value.ensures in
    let within = value-within table pool c.requires.pool_value r c.requires.row_bound.0 in record { reached = c.requires.in_bounds.1; in_bounds = (c.requires.in_bounds.0, pool-bound table pool c.requires.pool_value); start_le_end = (omega arith, omega (arith, within, start, long)) }

pub returns-then-is_flagged : goal.returns-then-is_flagged
returns-then-is_flagged c =
    let table = c.args.table.now in
    let pool = c.args.pool.now in
    let r = c.args.row.0 in
    let start : c.wide-start.result ≡ word table r VALUE = c.wide-start.ensures ∙ ap (λ (p : Place). p.offset.0) c.place-value.ensures in
    let long : c.wide.result ≡ word table r (VALUE + 1) = c.wide.ensures ∙ ap (λ (p : Place). p.length) c.place-value.ensures in
    told-true (sym c.is_flagged.ensures ∙ c.if-is_flagged.true)
    (c.holds_forbidden.ensures ∙ value-bytes table pool r start (ap (λ (n : ℕ). c.wide-start.result + n) long))

pub returns : goal.returns
returns c = told-false _ (sym c.is_flagged.ensures ∙ c.if-is_flagged.false)
