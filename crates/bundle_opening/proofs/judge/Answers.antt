-- `bundle_opening::judge` meets its contract.
use mathlib.Core.Path.{◌≡◌, sym, ap, ◌∙◌}
use mathlib.Core.Bool.{false}
use mathlib.Core.Option.{none}
use Prim.Native.Nat.{◌≤◌}
use Rattle.rules.specs.Table.{MOST_ROWS}
use Rattle.rules.specs.Refusals.{verdict}
use Rattle.bundles.specs.Bundles.{bundle_rows, wrong_mark, other_version, bad_lengths, bundle_refusal}
use Rattle.bundles.proofs.Opening.{Agreed, agreed}
use Rattle.bundle_opening.proofs.Opening.{refused-mark, refused-version, refused-lengths, is-bundle, refused-rows, refused-bytes, not-opening-refused}
use Rattle.bundle_opening.proofs.judge.Goals as goal

pub returns-then-wrong_mark : goal.returns-then-wrong_mark
returns-then-wrong_mark c = sym (ap verdict (refused-mark _ (sym c.if-wrong_mark.true ∙ c.wrong_mark.ensures)))

pub returns-then-other_version : goal.returns-then-other_version
returns-then-other_version c =
    let fact : false ≡ wrong_mark c.args.bundle.now = sym c.if-wrong_mark.false ∙ c.wrong_mark.ensures in
    sym (ap verdict (refused-version _ fact (sym c.if-other_version.true ∙ c.other_version.ensures)))

pub returns-then-bad_lengths : goal.returns-then-bad_lengths
returns-then-bad_lengths c =
    let fact : false ≡ other_version c.args.bundle.now = sym c.if-other_version.false ∙ c.other_version.ensures in
    let fact2 : false ≡ wrong_mark c.args.bundle.now = sym c.if-wrong_mark.false ∙ c.wrong_mark.ensures in
    sym (ap verdict (refused-lengths _ fact2 fact (sym c.if-bad_lengths.true ∙ c.bad_lengths.ensures)))

pub row_count-requires : goal.row_count-requires
row_count-requires c =
    let fact : false ≡ bad_lengths c.args.bundle.now = sym c.if-bad_lengths.false ∙ c.bad_lengths.ensures in
    let fact2 : Agreed c.args.bundle.now = agreed c.args.bundle.now (sym fact) in
    fact2.header

pub returns-then-row_count-gt-MOST_ROWS : goal.returns-then-row_count-gt-MOST_ROWS
returns-then-row_count-gt-MOST_ROWS c =
    let fact : false ≡ bad_lengths c.args.bundle.now = sym c.if-bad_lengths.false ∙ c.bad_lengths.ensures in
    let fact2 : false ≡ other_version c.args.bundle.now = sym c.if-other_version.false ∙ c.other_version.ensures in
    let fact3 : false ≡ wrong_mark c.args.bundle.now = sym c.if-wrong_mark.false ∙ c.wrong_mark.ensures in
    let fact4 : bundle_refusal c.args.bundle.now ≡ none = is-bundle c.args.bundle.now fact3 fact2 fact in
    sym (ap verdict (refused-rows _ fact4 (rw (sym c.row_count.ensures.0) c.if-row_count-gt-MOST_ROWS.true)))

pub pool_length-requires : goal.pool_length-requires
pool_length-requires c =
    let fact : false ≡ bad_lengths c.args.bundle.now = sym c.if-bad_lengths.false ∙ c.bad_lengths.ensures in
    let fact2 : Agreed c.args.bundle.now = agreed c.args.bundle.now (sym fact) in
    fact2.header

pub returns-then-pool_length-gt-MOST_BYTES : goal.returns-then-pool_length-gt-MOST_BYTES
returns-then-pool_length-gt-MOST_BYTES c =
    let fact : bundle_rows c.args.bundle.now ≤ MOST_ROWS = rw (sym c.row_count.ensures.0) c.if-row_count-gt-MOST_ROWS.false in
    let fact2 : false ≡ bad_lengths c.args.bundle.now = sym c.if-bad_lengths.false ∙ c.bad_lengths.ensures in
    let fact3 : Agreed c.args.bundle.now = agreed c.args.bundle.now (sym fact2) in
    let fact4 : false ≡ other_version c.args.bundle.now = sym c.if-other_version.false ∙ c.other_version.ensures in
    let fact5 : false ≡ wrong_mark c.args.bundle.now = sym c.if-wrong_mark.false ∙ c.wrong_mark.ensures in
    let fact6 : bundle_refusal c.args.bundle.now ≡ none = is-bundle c.args.bundle.now fact5 fact4 fact2 in
    sym (ap verdict (refused-bytes _ fact6 fact3 fact (rw (sym c.pool_length.ensures.0) c.if-pool_length-gt-MOST_BYTES.true)))

pub returns : goal.returns
returns c =
    let fact : bundle_rows c.args.bundle.now ≤ MOST_ROWS = rw (sym c.row_count.ensures.0) c.if-row_count-gt-MOST_ROWS.false in
    let fact2 : false ≡ bad_lengths c.args.bundle.now = sym c.if-bad_lengths.false ∙ c.bad_lengths.ensures in
    let fact3 : Agreed c.args.bundle.now = agreed c.args.bundle.now (sym fact2) in
    let fact4 : false ≡ other_version c.args.bundle.now = sym c.if-other_version.false ∙ c.other_version.ensures in
    let fact5 : false ≡ wrong_mark c.args.bundle.now = sym c.if-wrong_mark.false ∙ c.wrong_mark.ensures in
    let fact6 : bundle_refusal c.args.bundle.now ≡ none = is-bundle c.args.bundle.now fact5 fact4 fact2 in
    sym (ap verdict (not-opening-refused _ fact6 fact3 fact (rw (sym c.pool_length.ensures.0) c.if-pool_length-gt-MOST_BYTES.false)))
