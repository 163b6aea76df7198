-- Tried without: the check leaves these goals open.
use Rattle.std.proofs.Common.{[], ◌∷◌, ◌++◌, ◌∙◌, subst, append_assoc, length-append, arith}
use Rattle.kallsyms.proofs.Stepped.{at_line, line_in}
use Rattle.lookup.proofs.scan.look_up.Goals as goal

pub lines-preserved : goal.lines-preserved
lines-preserved g c =
    let before = c.lines.invariant in
    let xs = before.read in
    let h = at_line (g.S.LineSource.lines c.lines.source) c.lines.buffer c.in-Ok-Some.field-0-is c.in-Ok-Some.ensures in
    let l = h.0 in
    let here = line_in l c.next.new.buffer c.in-Ok-Some.len h.2 h.4 in
    let noted = c.note.ensures.says xs (omega arith) before.says in
    record {
      read = xs ++ l ∷ [];
      whole = cc (append_assoc xs (l ∷ []) (g.S.LineSource.lines c.next.new.self), before.whole, h.1);
      counted = omega (arith, length-append xs (l ∷ []));
      names = g.met.N.Names.kept _ _ _ before.names c.note.ensures.names;
      says = subst (λ b. g.N.Names.holds (xs ++ b ∷ []) c.note.new.self) here noted;
      end = h.3 ∙ before.end;
    }
