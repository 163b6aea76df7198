-- Tried without: the check leaves these goals open.
use Rattle.std.proofs.Common.{◌≡◌, length, subst, arith}
use Rattle.kallsyms.specs.Fields.{field}
use Rattle.lookup.specs.Index.{spot_of, IsLast}
use Rattle.lookup.proofs.Chaining.{last_before}
use Rattle.lookup.proofs.RowFinding.{Walked, left_less, walk_start, in_names, walk_more, walk_end}
use Rattle.lookup.proofs.indexed.note_found.Goals as goal

pub rows-init : goal.rows-init
rows-init c =
    let index = c.args.index.now in
    let spots = length index.last.items in
    let name : c.name.result.bytes.now ≡ (field 2 c.args.line.now).bytes = rw (← c.in-Some.ensures.1) c.name.ensures.shown.1 in
    walk_start index.names.now spots c.args.line_number c.args.line.now c.args.sightings.now c.last_like-next.result
    (subst (λ bs. IsLast index.names.now spots (spot_of spots bs) (length index.names.now) c.last_like-next.result) name c.last_like-next.ensures)

pub index-next-requires : goal.index-next-requires
index-next-requires c =
    let index = c.args.index.now in
    let here = subst (Walked index.names.now (length index.last.items) c.args.line_number c.args.line.now c.args.sightings.now c.rows.sightings) c.in-Some-next.is c.rows.invariant in
    let lt = in_names index.names.now (length index.last.items) c.args.line_number c.args.line.now c.args.sightings.now c.rows.sightings c.in-Some-next.k here in
    omega (arith, lt, index.indexes.all, index.before.ok.0)

pub rows-smaller : goal.rows-smaller
rows-smaller c =
    let index = c.args.index.now in
    let here = subst (Walked index.names.now (length index.last.items) c.args.line_number c.args.line.now c.args.sightings.now c.rows.sightings) c.in-Some-next.is c.rows.invariant in
    let lt = in_names index.names.now (length index.last.items) c.args.line_number c.args.line.now c.args.sightings.now c.rows.sightings c.in-Some-next.k here in
    rw c.in-Some-next.is (left_less index.names.now (length index.last.items) _ c.in-Some-next.k c.index-next.result.now (last_before index.names.now index.last.items index.before.items c.in-Some-next.k c.index-next.result.now index.indexes lt c.index-next.ensures))

pub rows-preserved : goal.rows-preserved
rows-preserved c =
    let index = c.args.index.now in
    let here = subst (Walked index.names.now (length index.last.items) c.args.line_number c.args.line.now c.args.sightings.now c.rows.sightings) c.in-Some-next.is c.rows.invariant in
    let lt = in_names index.names.now (length index.last.items) c.args.line_number c.args.line.now c.args.sightings.now c.rows.sightings c.in-Some-next.k here in
    let next = last_before index.names.now index.last.items index.before.items c.in-Some-next.k c.index-next.result.now index.indexes lt c.index-next.ensures in
    let line : c.in-Some.fields.line.now ≡ c.args.line.now = c.in-Some.ensures.1 in
    rw c.note_row.ensures (rw line (walk_more index.names.now (length index.last.items) c.args.line_number c.args.line.now c.args.sightings.now c.rows.sightings c.in-Some-next.k here c.index-next.result.now next))

pub returns-clause-noted : goal.returns-clause-noted
returns-clause-noted c =
    let index = c.args.index.now in
    walk_end index.names.now (length index.last.items) c.args.line_number c.args.line.now c.args.sightings.now c.rows.sightings
    (subst (Walked index.names.now (length index.last.items) c.args.line_number c.args.line.now c.args.sightings.now c.rows.sightings) c.in_default-next.is c.rows.invariant)
