-- The texts of faults for people. Assumes nothing.
use Rattle.std.specs.Prelude.{ℕ, List, ◌++◌, codes, decimal}
use Rattle.kallsyms.specs.declared.ends.Fault.{Fault}
use Rattle.kallsyms.specs.declared.ends.Fault.TheVariants.{LineTooLong, ByteTooLarge}

-- the number of the line
abbrev pub line_of : Fault → ℕ
line_of (LineTooLong line) = line
line_of (ByteTooLarge line) = line

-- what is wrong with it
abbrev pub what_of : Fault → List ℕ
what_of (LineTooLong line) = codes "has more than 1024 bytes"
what_of (ByteTooLarge line) = codes "has a byte of 128 or more"

-- both
abbrev pub fault_text : Fault → List ℕ
fault_text f = codes "line " ++ (decimal (line_of f) ++ (codes " " ++ what_of f))
