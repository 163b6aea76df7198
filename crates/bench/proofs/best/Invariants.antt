use Rattle.std.proofs.Common.{◌≡◌}
use Rattle.kallsyms.specs.Cut.{lines_from}
use Rattle.kallsyms.specs.Line.{count_of}
use Rattle.bench.proofs.best.Given as goal

abbrev pub invariant-loop : goal.invariant-loop
invariant-loop g l = l.lines ≡ count_of (lines_from 1 l.bytes)
