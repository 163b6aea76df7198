-- Tried without: the check leaves these goals open.
use Rattle.std.proofs.Common.{◌≡◌, ◌++◌, ◌∷◌, [], Err, IfOk, codes, string_bytes, sym, ap, subst, append_assoc}
use Rattle.kallsyms.specs.Faults.{fault_text}
use Rattle.kallsyms.specs.declared.ends.Fault.{Fault}
use Rattle.ksyms.specs.Answers.{end_lines}
use Rattle.ksyms.proofs.answer.end_lines.Goals as goal

broken_line : (f : Fault) → codes "the list is broken: " ++ (fault_text f ++ codes "; only the lines before it were read\n") ≡ end_lines (Err f)
broken_line f =
    ap (λ l. codes "the list is broken: " ++ l) (sym (append_assoc (fault_text f) (codes "; only the lines before it were read") (10 ∷ [])))

pub returns-in-Err : goal.returns-in-Err
returns-in-Err c = rw c.in-Err.is (subst (λ l. IfOk c.format.result (λ s. string_bytes s ≡ l)) (broken_line c.in-Err.fault) c.format.ensures.ok)
