-- Tried without: the check leaves these goals open.
use Rattle.std.proofs.Common.{◌≡◌, ◌<◌, length, get_or, sym, ◌∙◌, arith}
use Rattle.lookup.specs.Rows.{noted, name_at}
use Rattle.lookup.specs.declared.sighting.Sighting.TheVariants.{Unlisted}
use Rattle.lookup.proofs.RowNoting.{noted_short, name_read, row_kept, row_same, row_more}
use Rattle.lookup.proofs.rows.note_rows.Goals as goal

pub returns-in_default-clause-noted : goal.returns-in_default-clause-noted
returns-in_default-clause-noted c k =
    row_kept _ _ _ (noted_short c.args.line_number c.args.line.now (name_at c.args.names.now k) (get_or c.args.sightings.now k Unlisted) c.in_default.ensures)

pub loop-i-preserved : goal.loop-i-preserved
loop-i-preserved c =
    let names = c.args.names.now in
    let old = c.args.sightings.now in
    let rows = c.loop-i.sightings in
    let i = c.loop-i.i in
    let least = c.min-rows.ensures in
    let taken = c.loop-i-test.true in
    let in_names : i < length names = omega arith in
    let in_rows : i < length rows = omega arith in
    let line = c.in-Some.ensures.1 in
    let name = c.as_bytes.ensures.value ∙ sym (name_read names i c.index-names-i.result in_names c.index-names-i.is) in
    let row = row_same i old rows _ c.loop-i.invariant in
    let now : c.noted.result ≡ noted c.args.line_number c.args.line.now (name_at names i) (get_or old i Unlisted) = cc in
    row_more i old rows _ c.loop-i.invariant c.noted.result in_rows now
