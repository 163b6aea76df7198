use Rattle.std.proofs.Common.{take}
use Rattle.lookup.specs.Hashed.{HashAsked}
use Rattle.lookup.proofs.hashed.hashed.Given as goal

-- the map has the names so far, and no others
abbrev pub invariant-loop-name : goal.invariant-loop-name
invariant-loop-name l = HashAsked (take l.name-index l.names) l.sightings
