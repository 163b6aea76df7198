use Rattle.std.proofs.Common.{take}
use Rattle.ksyms.specs.Tells.{Tells}
use Rattle.ksyms.proofs.answer.told_of.Given as goal

-- the names so far are told
abbrev pub invariant-loop-i : goal.invariant-loop-i
invariant-loop-i l = Tells (take l.i l.names) (take l.i l.sightings) l.tolds.items
