-- Tried without: the check leaves this goal open.
use Rattle.lookup.proofs.RowSaying.{rows_say}
use Rattle.lookup.proofs.rows.RowsNames.note.Goals as goal

pub returns-clause-says : goal.returns-clause-says
returns-clause-says c ls n held =
    rows_say c.args.self.now.names.now c.args.self.now.sightings.now c.note_rows.new.sightings ls c.args.line.now c.args.line_number n c.note_rows.ensures.len c.note_rows.ensures.noted held
