use Rattle.std.proofs.Common.{length}
use Rattle.lookup.proofs.RowFinding.{Walked, left}
use Rattle.lookup.proofs.indexed.note_found.Given as goal

abbrev pub invariant-rows : goal.invariant-rows
invariant-rows l = Walked l.index.names.now (length l.index.last.items) l.line_number l.line l.fn.sightings l.sightings l.next

abbrev pub decreases-rows : goal.decreases-rows
decreases-rows l = left l.next
