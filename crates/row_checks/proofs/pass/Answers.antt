-- `row_checks::pass` meets its contract.
use mathlib.Core.Path.{◌≡◌, refl}
use native.Mathlib.Omega.{arith}
use Rattle.row_checks.proofs.Going.{going-reached, going-passed, passed-count}
use Rattle.row_checks.proofs.pass.Goals as goal

pub returns-then-dropped-gt0 : goal.returns-then-dropped-gt0
returns-then-dropped-gt0 c = record { from_le_result = omega arith; counted = λ drops fates g. g; by_index = λ q k i j. refl }

pub pass-requires : goal.pass-requires
pass-requires c =
    let g = c.requires.some_going.those in record { ascii_value = c.requires.ascii_value; reached = going-reached g.going g.count (omega (arith, c.if-dropped-gt0.false)) }

pub returns : goal.returns
returns c =
    let none? : c.args.dropped ≡ 0 = omega (arith, c.if-dropped-gt0.false) in record {
      from_le_result = c.pass.ensures.from_le_result;
      counted = λ drops fates g. record {
        going = going-passed g.going g.count none? c.pass.ensures.reached_2 c.pass.ensures.from_le_result c.pass.ensures.by_index;
        count = passed-count g.going g.count none? c.pass.ensures.reached_2 c.pass.ensures.from_le_result c.pass.ensures.by_index;
      };
      by_index = c.pass.ensures.by_index_2;
    }
