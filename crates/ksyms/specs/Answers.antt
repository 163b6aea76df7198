-- What the tool writes for a list and names. Assumes nothing.
use Rattle.std.specs.Prelude.{◌≡◌, ℕ, List, [], ◌∷◌, ◌++◌, map, length, All, count_by, string_bytes, String, Ok, Err}
use Rattle.std.specs.List.{flat_map}
use Rattle.std.specs.declared.alloc.Global.{Global}
use Rattle.kallsyms.specs.Line.{count_of}
use Rattle.kallsyms.specs.Cut.{lines_from, end_from}
use Rattle.kallsyms.specs.Ends.{End}
use Rattle.lookup.specs.After.{is_found}
use Rattle.lookup.specs.Says.{Says}
use Rattle.ksyms.specs.Texts.{told_text, broken_text, summary_text}
use Rattle.ksyms.specs.declared.summary.Told.{Told}

-- a text as a line of its own
abbrev pub line_of : List ℕ → List ℕ
line_of t = t ++ 10 ∷ []

-- a line for a list that is broken
abbrev pub end_lines : End → List ℕ
end_lines (Ok tt) = []
end_lines (Err f) = line_of (broken_text f)

-- a line for each name
abbrev pub told_lines : List Told → List ℕ
told_lines tolds = flat_map (λ t. line_of (told_text t.name.now t.sighting)) tolds

-- how many names have one nonzero address
abbrev pub found_in : List Told → ℕ
found_in tolds = count_by (λ t. is_found t.sighting) tolds

-- the whole text: a line for a list that is broken, a line for each name, and a line for the whole
abbrev pub answer_text : List Told → ℕ → End → List ℕ
answer_text tolds lines e = (end_lines e ++ told_lines tolds) ++ line_of (summary_text lines (found_in tolds) (length tolds))

-- a text tells, for each name in turn, what the lines of these bytes say of it, and how many lines there are and how they end
pub record Answers (bytes : List ℕ) (names : List (String Global)) (text : List ℕ) : Type 0 where
  pub tolds : List Told
  pub named : map (λ t. t.name.now) tolds ≡ map string_bytes names
  pub says : All (λ t. Says (lines_from 1 bytes) t.name.now t.sighting) tolds
  pub written : text ≡ answer_text tolds (count_of (lines_from 1 bytes)) (end_from 1 bytes)
