use Rattle.std.proofs.Common.{◌≡◌, ◌++◌, take, string_bytes}
use Rattle.ksyms.specs.Answers.{told_lines}
use Rattle.ksyms.proofs.answer.add_names.Given as goal

-- the lines for the names so far are added
abbrev pub invariant-loop-told : goal.invariant-loop-told
invariant-loop-told l = string_bytes l.text ≡ string_bytes l.fn.text ++ told_lines (take l.told-index l.tolds)
