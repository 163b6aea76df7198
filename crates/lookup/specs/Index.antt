-- Where the rows of names are, by a number made of each name. Assumes nothing.
use Rattle.std.specs.Prelude.{◌≡◌, ◌≢◌, ℕ, ◌-◌, ◌<◌, List, length, Some, None, Option, String, bit_and, slice_index_or}
use Rattle.std.specs.Hash.FoldHasher as folding
use Rattle.std.specs.declared.alloc.Global.{Global}
use Rattle.lookup.specs.Rows.{name_at}

-- the spot of a name, of so many
abbrev pub spot_of : ℕ → List ℕ → ℕ
spot_of spots bytes = bit_and (folding.finish (folding.write folding.initial bytes)) (spots - 1)

-- this is the last of the first n names that has the spot, or none where none of them has it
pub record IsLast (names : List (String Global)) (spots spot n : ℕ) (o : Option ℕ) : Type 0 where
  pub some : (k : ℕ) → o ≡ Some k → (k < n) × (spot_of spots (name_at names k) ≡ spot) × ((j : ℕ) → k < j → j < n → spot_of spots (name_at names j) ≢ spot)
  pub none : o ≡ None → (j : ℕ) → j < n → spot_of spots (name_at names j) ≢ spot

-- each spot has the last name whose spot it is, and each name the last before it that has its spot
pub record Indexes (names : List (String Global)) (last before : List (Option ℕ)) : Type 0 where
  pub spots : 0 < length last
  pub all : length before ≡ length names
  pub ends : (spot : ℕ) → spot < length last → IsLast names (length last) spot (length names) (slice_index_or last spot None)
  pub steps : (k : ℕ) → k < length names → IsLast names (length last) (spot_of (length last) (name_at names k)) k (slice_index_or before k None)
