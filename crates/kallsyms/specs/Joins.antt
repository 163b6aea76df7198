-- What one source after another means. Assumes nothing.
use Rattle.std.specs.Prelude.{ℕ, List, ◌++◌, Ok, Err}
use Rattle.kallsyms.specs.Ends.{End}

-- both lists in turn if the first ends clean, else the first alone
abbrev pub joined_lines : List (List ℕ) → End → List (List ℕ) → List (List ℕ)
joined_lines ls (Ok tt) ms = ls ++ ms
joined_lines ls (Err f) ms = ls

-- the second end if the first is clean, else the first
abbrev pub joined_end : End → End → End
joined_end (Ok tt) e = e
joined_end (Err f) e = Err f
