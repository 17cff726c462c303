-- `check` meets its contract.
use mathlib.Core.Path.{refl, ap, ◌∙◌}
use native.Mathlib.Omega.{arith}
use Prim.Native.Nat.{ℕ}
use Rattle.doubles.specs.Doubles.{entered}
use Rattle.conflicts.specs.Conflicts.{settled}
use Rattle.conflicts.proofs.Laws.{conflict-declaration, conflict-double, conflict-none}
use Rattle.conflicts.proofs.check.Goals as goal

pub bad_declaration-requires : goal.bad_declaration-requires
bad_declaration-requires c = record { row_bound = (c.requires.row_bound, c.requires.some_entered.those.named); known = c.requires.known }

pub returns-then-bad_declaration : goal.returns-then-bad_declaration
unfolding settled
returns-then-bad_declaration c =
    record { by_index = λ enters pool e g n. conflict-declaration enters c.args.table.now pool c.args.row.0 c.requires.row_bound (c.bad_declaration.ensures pool g (n.rows c.args.row.0 (omega arith))) c.if-bad_declaration.true; chains_after = refl }

pub bucket_at-bucket-requires : goal.bucket_at-bucket-requires
bucket_at-bucket-requires c = (c.requires.row_bound, c.requires.some_entered.those.named)

pub is_double-requires : goal.is_double-requires
is_double-requires c =
    record { row_bound = c.requires.row_bound; some_entered = c.requires.some_entered; bucket_value = c.bucket_at-bucket.ensures }

pub returns-then-is_double : goal.returns-then-is_double
unfolding settled
returns-then-is_double c =
    record {
      by_index = λ enters pool e g n.
          conflict-double enters c.args.table.now pool c.args.row.0 c.requires.row_bound (c.bad_declaration.ensures pool g (n.rows c.args.row.0 (omega arith))) c.if-bad_declaration.false
          (c.is_double.ensures enters pool _ _ e n) c.if-is_double.true;
      chains_after = refl;
    }

pub enter-requires : goal.enter-requires
enter-requires c =
    let g = c.requires.some_entered.those in
    (omega (arith, c.requires.row_bound, g.few), omega (arith, c.requires.row_bound, g.room))

pub returns : goal.returns
unfolding settled
returns c =
    record {
      by_index = λ enters pool e g n.
          conflict-none enters c.args.table.now pool c.args.row.0 c.requires.row_bound (c.bad_declaration.ensures pool g (n.rows c.args.row.0 (omega arith))) c.if-bad_declaration.false
          (c.is_double.ensures enters pool _ _ e n) c.if-is_double.false;
      chains_after = c.enter.ensures ∙ ap (λ (bucket : ℕ). entered c.args.chains.now bucket c.args.row.0) c.bucket_at-bucket.ensures;
    }
