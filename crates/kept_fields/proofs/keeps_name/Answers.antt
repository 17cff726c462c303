-- `keeps_name` meets its contract.
use native.Mathlib.Omega.{arith}
use Rattle.kept_fields.proofs.Fields.{field-kept, has-note, few-names, known_kept, met-after}
use Rattle.kept_fields.proofs.keeps_name.Goals as goal

pub name-first-requires : goal.name-first-requires
name-first-requires c =
    has-note c.args.original.now c.args.pool.now c.args.mine.now c.requires.meeting.first c.args.row.0 c.requires.row_bound.0 c.args.k c.requires.row_bound.2.0

pub name-second-requires : goal.name-second-requires
name-second-requires c =
    has-note c.args.proposal.now c.args.other.now c.args.theirs.now c.requires.meeting.second c.args.row.0 c.requires.row_bound.1 c.args.k c.requires.row_bound.2.0

pub is_met-requires : goal.is_met-requires
is_met-requires c =
    let first = few-names c.args.original.now c.args.pool.now c.args.mine.now c.requires.meeting.first c.args.row.0 c.requires.row_bound.0 c.args.k c.args.field c.requires.row_bound.2 c.name-first.ensures c.requires.placed.0.few in
    let second = few-names c.args.proposal.now c.args.other.now c.args.theirs.now c.requires.meeting.second c.args.row.0 c.requires.row_bound.1 c.args.k c.args.field c.requires.row_bound.2 c.name-second.ensures c.requires.placed.1.few in
    (omega (arith, first, c.requires.meeting.known.words), omega (arith, second))

pub returns-then-is_met : goal.returns-then-is_met
returns-then-is_met c =
    record { value = known_kept c.args.original.now c.args.pool.now c.args.mine.now c.args.proposal.now c.args.other.now c.args.theirs.now c.args.met.now c.requires.meeting c.args.row.0 c.requires.row_bound.0 c.requires.row_bound.1 c.args.k c.args.field c.requires.row_bound.2 c.name-first.ensures c.name-second.ensures c.is_met.ensures c.if-is_met.true; meeting_2 = c.requires.meeting }

pub meet-requires : goal.meet-requires
meet-requires c =
    let first = few-names c.args.original.now c.args.pool.now c.args.mine.now c.requires.meeting.first c.args.row.0 c.requires.row_bound.0 c.args.k c.args.field c.requires.row_bound.2 c.name-first.ensures c.requires.placed.0.few in
    let second = few-names c.args.proposal.now c.args.other.now c.args.theirs.now c.requires.meeting.second c.args.row.0 c.requires.row_bound.1 c.args.k c.args.field c.requires.row_bound.2 c.name-second.ensures c.requires.placed.1.few in
    (omega (arith, first, c.requires.meeting.known.words), omega (arith, second))

pub returns : goal.returns
returns c =
    record { value = field-kept c.args.original.now c.args.pool.now c.args.proposal.now c.args.other.now c.args.row.0 c.args.field c.place-one.ensures c.place-two.ensures c.meet.ensures.value; meeting_2 = met-after c.args.original.now c.args.pool.now c.args.mine.now c.args.proposal.now c.args.other.now c.args.theirs.now c.args.met.now c.requires.meeting c.args.row.0 c.requires.row_bound.0 c.requires.row_bound.1 c.args.k c.args.field c.requires.row_bound.2 c.name-first.ensures c.name-second.ensures c.place-one.ensures c.place-two.ensures c.meet.ensures.by_index }
