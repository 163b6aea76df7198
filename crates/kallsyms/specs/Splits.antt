-- What the fields of a line are, said without looking for them: a relation between a line and its parts. Assumes nothing.
use Rattle.std.specs.Prelude.{◌≡◌, ℕ, ◌+◌, ◌<◌, true, false, List, [], ◌∷◌, ◌++◌, length}
use Rattle.std.specs.List.{AllByRecursion}
use Rattle.kallsyms.specs.Fields.{Part, separates}

-- each byte separates fields
abbrev pub Gap : List ℕ → Type 0
Gap l = AllByRecursion (λ b. separates b ≡ true) l

-- no byte separates fields
abbrev pub Unbroken : List ℕ → Type 0
Unbroken l = AllByRecursion (λ b. separates b ≡ false) l

-- nothing is left, or a separator comes first
abbrev pub Bounded : List ℕ → Type 0
Bounded [] = Unit {0}
Bounded (b ∷ bs) = separates b ≡ true

-- what is left of a line from index n on is a gap, the first part, and so on, and at the end a gap: each part has a byte at least and no separator,
-- begins where the gap before it ends, and is followed by a separator or the end of the line
abbrev pub Splits : ℕ → List Part → List ℕ → Type 0
Splits n [] l = Gap l
Splits n (p ∷ ps) l =
    (gap : List ℕ) × (rest : List ℕ) × (l ≡ gap ++ (p.bytes ++ rest)) × Gap gap × (p.start ≡ n + length gap) × (0 < length p.bytes) × Unbroken p.bytes × Bounded rest
    × Splits (p.start + length p.bytes) ps rest
