use Rattle.lookup.proofs.Chaining.{Chained}
use Rattle.lookup.proofs.index.Index.of.Given as goal

-- the names so far are in turn
abbrev pub invariant-loop-i : goal.invariant-loop-i
invariant-loop-i l = Chained l.names l.spots l.i l.last.items l.before.items
