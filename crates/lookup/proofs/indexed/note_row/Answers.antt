-- Tried without: the check leaves these goals open.
use Rattle.std.proofs.Common.{◌≡◌, ◌<◌, ◌≤◌, min, length, get_or, sym, ap, ◌∙◌, arith}
use Rattle.std.proofs.lemmas.Slice.Eq.{slice_eq-Decides}
use Rattle.std.proofs.lemmas.Bool.Decides.{not_from_Decides, Decides-eqb}
use Rattle.kallsyms.specs.Address.{address}
use Rattle.kallsyms.specs.Fields.{field}
use Rattle.lookup.specs.After.{after}
use Rattle.lookup.specs.Rows.{name_at}
use Rattle.lookup.specs.declared.sighting.Sighting.TheVariants.{Unlisted}
use Rattle.lookup.proofs.RowNoting.{name_read, noted_listed, noted_other, row_listed, row_other, row_none}
use Rattle.lookup.proofs.indexed.note_row.Goals.{else-row-min-via-then-row-min+else-eq, else-row-min-via-else-row-min}
use Rattle.lookup.proofs.indexed.note_row.Goals as goal

pub returns-then-eq : goal.returns-then-eq
returns-then-eq c =
    let names = c.args.names.now in
    let line = c.args.fields.now.line.now in
    let was = get_or c.args.sightings.now c.args.row Unlisted in
    let lt : c.args.row < min (length names) (length c.args.sightings.now) = omega (arith, c.if-row-min.true, c.min.ensures) in
    let name : name_at names c.args.row ≡ c.as_bytes.result.now = name_read names c.args.row c.index-names-row.result (omega (arith, lt)) c.index-names-row.is ∙ sym c.as_bytes.ensures.value in
    let same = (slice_eq-Decides Decides-eqb _ _ _ c.eq.ensures).0 c.if-eq.true in
    let listed : (field 2 line).bytes ≡ name_at names c.args.row = sym (name ∙ same ∙ c.name.ensures.shown.1) in
    let read = c.read_address-address.ensures ∙ ap address c.address.ensures.shown.1 in
    row_listed names c.args.sightings.now c.args.row c.args.line_number line c.after.result lt
    (noted_listed c.args.line_number line (name_at names c.args.row) was c.requires listed ∙ ap (λ a. after c.args.line_number a was) (sym read) ∙ sym c.after.ensures)

pub returns-else-row-min : goal.returns-else-row-min
returns-else-row-min c =
    let names = c.args.names.now in
    let line = c.args.fields.now.line.now in
    let was = get_or c.args.sightings.now c.args.row Unlisted in
    elim c.else-row-min.branch [
      | else-row-min-via-then-row-min+else-eq w ↦
          let lt : c.args.row < min (length names) (length c.args.sightings.now) = omega (arith, w.if-row-min.true, c.min.ensures) in
          let name : name_at names c.args.row ≡ w.as_bytes.result.now = name_read names c.args.row w.index-names-row.result (omega (arith, lt)) w.index-names-row.is ∙ sym w.as_bytes.ensures.value in
          row_other names c.args.sightings.now c.args.row c.args.line_number line lt
          (noted_other c.args.line_number line (name_at names c.args.row) was (λ e. not_from_Decides _ (slice_eq-Decides Decides-eqb _ _ _ w.eq.ensures) w.if-eq.false (sym (w.name.ensures.shown.1 ∙ e ∙ name))))
      | else-row-min-via-else-row-min w ↦
          let ge : min (length names) (length c.args.sightings.now) ≤ c.args.row = omega (arith, w.if-row-min.false, c.min.ensures) in
          row_none names c.args.sightings.now c.args.row c.args.line_number line ge
    ]
