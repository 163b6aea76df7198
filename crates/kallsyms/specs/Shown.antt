-- What a value of `Fields` shows. Assumes nothing.
use Rattle.std.specs.Prelude.{◌≡◌, ℕ, ◌≤◌, List, length}
use Rattle.kallsyms.specs.Fields.{Part, field, fields}
use Rattle.kallsyms.specs.declared.fields.Field.{Field}

-- a part of the code is this part of a line
abbrev pub Is : Field → Part → Type 0
Is f p = (f.start ≡ p.start) × (f.bytes.now ≡ p.bytes)

-- a line has three fields, and these parts are the first three
abbrev pub Shows : List ℕ → Field → Field → Field → Type 0
Shows l a t n = (3 ≤ length (fields 0 l)) × Is a (field 0 l) × Is t (field 1 l) × Is n (field 2 l)
