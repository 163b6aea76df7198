-- How a source of lines ends. Assumes nothing.
use Rattle.std.specs.Prelude.{ℕ, Option, None, Result, Ok, Err}
use Rattle.kallsyms.specs.declared.ends.Fault.{Fault}

-- clean, or with a fault
abbrev pub End : Type 0
End = Result (Unit {0}) Fault

-- the end without a fault
abbrev pub clean : End
clean = Ok tt

-- what a step of a source answers when no line is left
abbrev pub at_end : End → Result (Option ℕ) Fault
at_end (Ok tt) = Ok None
at_end (Err f) = Err f
