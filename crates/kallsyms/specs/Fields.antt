-- The fields of a line, each with its place. Assumes nothing.
use Rattle.std.specs.Prelude.{◌≡◌, ℕ, suc, ◌+◌, ◌≤◌, Bool, false, cond, not, ◌&&◌, ◌||◌, List, [], ◌∷◌, length, drop, ◌==◌, nat_le, slice_index_or}

-- bytes 9 to 13 and 32 separate fields
abbrev pub separates : ℕ → Bool
separates b = (nat_le 9 b && nat_le b 13) || b == 32

-- a part of a line: the index of its first byte, and its bytes
pub record Part : Type 0 where
  pub start : ℕ
  pub bytes : List ℕ

-- whether the next byte is in a field
abbrev pub goes_on : List ℕ → Bool
goes_on [] = false
goes_on (b ∷ bs) = not (separates b)

-- a byte at index n that goes before the first byte of the first field
abbrev pub extend : ℕ → ℕ → List Part → List Part
extend n b [] = []
extend n b (p ∷ ps) = record { start = n; bytes = b ∷ p.bytes } ∷ ps

-- the fields of what is left of a line from index n on: a separator is in no field, any other byte is in one,
-- and two such bytes side by side are in the same one
abbrev pub fields : ℕ → List ℕ → List Part
fields n [] = []
fields n (b ∷ bs) = cond (separates b) (fields (suc n) bs) (cond (goes_on bs) (extend n b (fields (suc n) bs)) (record { start = n; bytes = b ∷ [] } ∷ fields (suc n) bs))

-- the field of a line by its number, from 0; one that is not there is empty
abbrev pub field : ℕ → List ℕ → Part
field k l = slice_index_or (fields 0 l) k (record { start = 0; bytes = [] })

-- the first field of a line from an index on has this start and these bytes, and the others follow it
abbrev pub Begins : List ℕ → ℕ → ℕ → List ℕ → Type 0
Begins l from s bs = (fields from (drop from l) ≡ record { start = s; bytes = bs } ∷ fields (s + length bs) (drop (s + length bs) l)) × (s + length bs ≤ length l)
