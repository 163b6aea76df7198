use Rattle.std.proofs.Common.{take}
use Rattle.lookup.specs.Asked.{Asked}
use Rattle.lookup.proofs.scan.unlisted.Given as goal

-- the map has the names so far, and no others
abbrev pub invariant-loop-name : goal.invariant-loop-name
invariant-loop-name l = Asked (take l.name-index l.names) l.sightings
