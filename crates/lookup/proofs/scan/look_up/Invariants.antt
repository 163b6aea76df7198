use Rattle.std.proofs.Common.{◌≡◌, ℕ, List, ◌++◌, length}
use Rattle.kallsyms.specs.Line.{count_of}
use Rattle.lookup.proofs.scan.look_up.Given as goal

-- with the lines that were read: they come before those that are left, were counted, and say what is noted
abbrev pub invariant-lines : goal.invariant-lines
invariant-lines g l = record {
  read : List (List ℕ);
  whole : read ++ g.S.LineSource.lines l.source ≡ g.S.LineSource.lines l.initial.source;
  counted : l.lines ≡ count_of read;
  names : g.N.Names.keeps l.fn.names l.names;
  says : g.N.Names.holds read l.names;
  end : g.S.LineSource.end l.source ≡ g.S.LineSource.end l.initial.source;
}

abbrev pub decreases-lines : goal.decreases-lines
decreases-lines g l = length (g.S.LineSource.lines l.source)
