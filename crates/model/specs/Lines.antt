-- What a line of a kernel list says. Assumes nothing.
use Rattle.std.specs.Prelude.{ℕ, cond, not, ◌&&◌, List, [], ◌∷◌, length, Option, ◌==◌, nat_lt}
use Rattle.std.specs.Option.{unwrap_or}
use Rattle.std.specs.Str.{bytes_eq}
use Rattle.kallsyms.specs.Address.{address}
use Rattle.kallsyms.specs.Fields.{fields, field}

-- a name and its address, none where that does not read; or nothing
pub data Line : Type 0 where
  line : List ℕ → Option ℕ → Line
  short : Line

-- the third field is the name and the first the address; a line of fewer than three fields says nothing
abbrev pub said : List ℕ → Line
said l = cond (nat_lt (length (fields 0 l)) 3) short (line (field 2 l).bytes (address (field 0 l).bytes))

-- the first nonzero address of a name, 0 where there is none
abbrev pub first_address : List ℕ → List Line → ℕ
first_address n [] = 0
first_address n (line m o ∷ ls) = cond (bytes_eq n m && not (unwrap_or o 0 == 0)) (unwrap_or o 0) (first_address n ls)
first_address n (short ∷ ls) = first_address n ls
