-- What one step of a source does. Assumes nothing.
use Rattle.std.specs.Prelude.{◌≡◌, ℕ, List, [], ◌∷◌, ◌++◌, length, drop, replicate, Option, Some, Result, Ok}
use Rattle.kallsyms.specs.declared.ends.Fault.{Fault}
use Rattle.kallsyms.specs.Ends.{End, at_end}

-- what a buffer of 1024 bytes holds: a line, and zeros from the line's end on
abbrev pub padded : List ℕ → List ℕ
padded l = l ++ drop (length l) (replicate 1024 0)

-- from the lines, the end and the buffer before a step to its answer, and to the lines, the end and the buffer after it:
-- with no line left the answer is the end, none or the fault, and nothing changes; else the answer is the length of the first line,
-- which stands in the buffer and is no longer among the lines
abbrev pub Steps : List (List ℕ) → End → List ℕ → Result (Option ℕ) Fault → List (List ℕ) → End → List ℕ → Type 0
Steps [] e b r ls' e' b' = (r ≡ at_end e) × (ls' ≡ []) × (e' ≡ e) × (b' ≡ b)
Steps (l ∷ ls) e b r ls' e' b' = (r ≡ Ok (Some (length l))) × (ls' ≡ ls) × (e' ≡ e) × (b' ≡ padded l)
