-- `resolve` meets its contract.
use Prim.Native.Nat.{◌+◌}
use native.Mathlib.Omega.{arith}
use mathlib.Core.Path.{refl, sym, ap, ◌∙◌}
use Rattle.notes.specs.Notes.{PREFIX, URI, note_at}
use Rattle.near_rows.specs.Outward.{is_leaf}
use Rattle.near_rows.proofs.Outward.{noted-leaf, noted-kept}
use Rattle.unsettled.proofs.Walking.{ready, walkable-moved, asked}
use Rattle.resolution.proofs.Known.{remembered-known, leaf-resolved, unasked-resolved, known-resolved, stood-told, stood_settled}
use Rattle.resolution.proofs.resolve.Goals as goal

pub returns-then-is_leaf : goal.returns-then-is_leaf
returns-then-is_leaf c =
    let t = c.args.table.now in
    let notes = c.args.notes.now in
    let r = c.args.row.0 in
    let below = c.requires.row_bound in
    let leaf = ap is_leaf (sym c.kind.ensures) ∙ sym c.is_leaf.ensures ∙ c.if-is_leaf.true in record { standing_2 = c.requires.standing; noted_2 = (noted-leaf t notes c.args.path.now r c.requires.noted leaf, refl); known_2 = c.requires.known; by_index_2 = λ pool w. leaf-resolved w r below leaf }

pub returns-then-not-asks : goal.returns-then-not-asks
returns-then-not-asks c =
    let t = c.args.table.now in
    let notes = c.args.notes.now in
    let r = c.args.row.0 in
    let below = c.requires.row_bound in record { standing_2 = (c.note_nearest-near.ensures.by_index_3 c.args.tops.now c.args.from.0 c.requires.standing.0, c.requires.standing.1); noted_2 = c.note_nearest-near.ensures.noted_2; known_2 = c.requires.known; by_index_2 = λ pool w. unasked-resolved w r below (sym c.asks.ensures ∙ c.if-not-asks.true) }

pub returns-then-is_known : goal.returns-then-is_known
returns-then-is_known c =
    let t = c.args.table.now in
    let notes = c.args.notes.now in
    let r = c.args.row.0 in
    let below = c.requires.row_bound in
    let asks = sym c.asks.ensures ∙ c.if-not-asks.false in record { standing_2 = (c.note_nearest-near.ensures.by_index_3 c.args.tops.now c.args.from.0 c.requires.standing.0, c.requires.standing.1); noted_2 = c.note_nearest-near.ensures.noted_2; known_2 = c.requires.known; by_index_2 = λ pool w. known-resolved w r below asks c.note_nearest-near.ensures.near c.requires.known (c.is_known.ensures c.if-is_known.true) }

pub go-requires : goal.go-requires
go-requires c =
    record { ready = ready (c.note_nearest-near.ensures.by_index_2 _ _ c.requires.by_index.1); from_bound = (c.requires.standing.1, c.note_nearest-near.ensures.near.low); standing = c.note_nearest-near.ensures.by_index_3 c.args.tops.now c.args.from.0 c.requires.standing.0 }

pub is_unsettled-requires : goal.is_unsettled-requires
is_unsettled-requires c =
    record { row_bound = c.requires.row_bound; asked = asked (walkable-moved (c.note_nearest-near.ensures.by_index_2 _ _ c.requires.by_index.1) _ _ c.go.auto.tops c.go.auto.path c.go.ensures.untouched) c.note_nearest-near.result.0 c.go.ensures.standing_2 c.args.row.0 c.requires.row_bound }

pub returns-then-is_unsettled : goal.returns-then-is_unsettled
returns-then-is_unsettled c =
    let t = c.args.table.now in
    let notes = c.args.notes.now in
    let r = c.args.row.0 in
    let below = c.requires.row_bound in
    let asks = sym c.asks.ensures ∙ c.if-not-asks.false in
    let ps = c.go.auto.path ∙ c.note_nearest-near.auto.path in
    let xml = c.go.ensures.untouched 0 ∙ c.note_nearest-near.ensures.noted_2.1 in record { standing_2 = (c.go.ensures.standing_2, c.note_nearest-near.ensures.near.low); noted_2 = (noted-kept t notes c.note_nearest-near.new.path (r + 1) c.go.new.path c.go.ensures.untouched c.note_nearest-near.ensures.noted_2.0, xml); known_2 = c.requires.known; by_index_2 = λ pool w. sym c.if-is_unsettled.true ∙ stood-told w r below asks c.note_nearest-near.ensures.near c.go.auto.tops ps xml c.go.ensures.standing_2 c.is_unsettled.ensures }

pub remember-requires : goal.remember-requires
remember-requires c = (omega (arith, c.requires.by_index.1.noted, c.requires.row_bound), c.requires.known.words)

pub returns : goal.returns
returns c =
    let t = c.args.table.now in
    let notes = c.args.notes.now in
    let r = c.args.row.0 in
    let below = c.requires.row_bound in
    let asks = sym c.asks.ensures ∙ c.if-not-asks.false in
    let ps = c.go.auto.path ∙ c.note_nearest-near.auto.path in
    let xml = c.go.ensures.untouched 0 ∙ c.note_nearest-near.ensures.noted_2.1 in
    let settled = stood_settled c.requires.by_index.1 r below asks c.note_nearest-near.ensures.near c.go.auto.tops ps xml c.go.ensures.standing_2 (sym c.is_unsettled.ensures ∙ c.if-is_unsettled.false) in record { standing_2 = (c.go.ensures.standing_2, c.note_nearest-near.ensures.near.low); noted_2 = (noted-kept t notes c.note_nearest-near.new.path (r + 1) c.go.new.path c.go.ensures.untouched c.note_nearest-near.ensures.noted_2.0, xml); known_2 = remembered-known c.requires.known c.remember.ensures.0 c.note_nearest-near.result.0 (note_at notes r PREFIX) (note_at notes r URI) c.remember.ensures.1 settled c.remember.ensures.2; by_index_2 = λ pool w. sym c.if-is_unsettled.false ∙ stood-told w r below asks c.note_nearest-near.ensures.near c.go.auto.tops ps xml c.go.ensures.standing_2 c.is_unsettled.ensures }
