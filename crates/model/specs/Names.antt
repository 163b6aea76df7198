-- Names in tables of bytes. Assumes nothing.
use Rattle.std.specs.Prelude.{ℕ, Bool, false, cond, List, [], ◌∷◌, take, drop, Some, None, Option, ◌==◌}
use Rattle.std.specs.Option.{option_map}
use Rattle.std.specs.Str.{bytes_eq}

-- the bytes before the first zero byte, or none without one
abbrev pub to_zero : List ℕ → Option (List ℕ)
to_zero [] = None
to_zero (b ∷ bs) = cond (b == 0) (Some []) (option_map (λ n. b ∷ n) (to_zero bs))

-- the name at an offset of the type strings runs to the next zero byte; it does not read if there is none
abbrev pub name_at : List ℕ → ℕ → Option (List ℕ)
name_at strings offset = to_zero (drop offset strings)

-- whether a name reads and is this one
abbrev pub reads_as : Option (List ℕ) → List ℕ → Bool
reads_as None n = false
reads_as (Some m) n = bytes_eq m n

-- whether a name begins with three underscores
abbrev pub bars : List ℕ → Bool
bars n = bytes_eq (take 3 n) (95 ∷ 95 ∷ 95 ∷ [])

-- the essential name is the part before the first three underscores in a row, else the whole
abbrev pub essential : List ℕ → List ℕ
essential [] = []
essential (b ∷ bs) = cond (bars (b ∷ bs)) [] (b ∷ essential bs)
