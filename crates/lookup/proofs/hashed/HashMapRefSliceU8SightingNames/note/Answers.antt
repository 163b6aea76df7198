-- Tried without: the check leaves this goal open.
use Rattle.lookup.proofs.Saying.{notes_say}
use Rattle.lookup.specs.Hashed.{sighting_in}
use Rattle.lookup.proofs.hashed.HashMapRefSliceU8SightingNames.note.Goals as goal

pub returns-clause-says : goal.returns-clause-says
returns-clause-says c ls n held =
    notes_say ls c.args.line.now c.args.line_number (sighting_in c.args.self.now) (sighting_in c.note_line.new.sightings) n c.note_line.ensures.listed c.note_line.ensures.others held
