-- What a list of lines says of a name. Assumes nothing.
use Rattle.std.specs.Prelude.{◌≡◌, ℕ, ◌<◌, ◌≤◌, ◌⊎◌, List, [], length, Some, None, Option, slice_index_or}
use Rattle.kallsyms.specs.Line.{number_after}
use Rattle.kallsyms.specs.Fields.{fields, field}
use Rattle.kallsyms.specs.Address.{address}
use Rattle.lookup.specs.declared.sighting.Sighting.{Sighting}
use Rattle.lookup.specs.declared.sighting.Sighting.TheVariants.{Unlisted, OnlyZero, At, TwoAddresses, Unreadable}

-- a line lists a name: it has three fields, and the third is the name
abbrev pub Lists : List ℕ → List ℕ → Type 0
Lists name l = (3 ≤ length (fields 0 l)) × ((field 2 l).bytes ≡ name)

-- the line at an index lists the name with an address that reads, or does not
abbrev pub Gives : List (List ℕ) → List ℕ → ℕ → Option ℕ → Type 0
Gives ls name k a = (k < length ls) × Lists name (slice_index_or ls k []) × (address (field 0 (slice_index_or ls k [])).bytes ≡ a)

-- what holds of the address on each line before an index that lists the name
abbrev pub Before : List (List ℕ) → List ℕ → ℕ → (Option ℕ → Type 0) → Type 0
Before ls name k P = (j : ℕ) (a : Option ℕ) → j < k → Gives ls name j a → P a

-- an address is zero, or this one
abbrev pub ZeroOr : ℕ → Option ℕ → Type 0
ZeroOr x a = (a ≡ Some 0) ⊎ (a ≡ Some x)

-- no line lists the name
abbrev pub SaysUnlisted : List (List ℕ) → List ℕ → Type 0
SaysUnlisted ls name = Before ls name (length ls) (λ _. ⊥)

-- every line that lists the name gives zero, and line n is the first of them
pub record SaysOnlyZero (ls : List (List ℕ)) (name : List ℕ) (n : ℕ) : Type 0 where
  pub at : ℕ
  pub numbered : n ≡ number_after at
  pub gives : Gives ls name at (Some 0)
  pub first : Before ls name at (λ _. ⊥)
  pub all : Before ls name (length ls) (λ a. a ≡ Some 0)

-- line n is the first to give an address that is not zero, and every line that lists the name gives zero or this address
pub record SaysAt (ls : List (List ℕ)) (name : List ℕ) (n x : ℕ) : Type 0 where
  pub at : ℕ
  pub numbered : n ≡ number_after at
  pub nonzero : 0 < x
  pub gives : Gives ls name at (Some x)
  pub first : Before ls name at (λ a. a ≡ Some 0)
  pub all : Before ls name (length ls) (ZeroOr x)

-- line n is the first to give an address that is not zero, and line m the first to give another; the lines before m read
pub record SaysTwo (ls : List (List ℕ)) (name : List ℕ) (n x m y : ℕ) : Type 0 where
  pub at : ℕ
  pub numbered : n ≡ number_after at
  pub nonzero : 0 < x
  pub gives : Gives ls name at (Some x)
  pub first : Before ls name at (λ a. a ≡ Some 0)
  pub other : ℕ
  pub other_numbered : m ≡ number_after other
  pub other_nonzero : 0 < y
  pub other_gives : Gives ls name other (Some y)
  pub apart : x ≡ y → ⊥
  pub before : Before ls name other (ZeroOr x)

-- line n is the first that lists the name with an address that does not read, and the lines before it give at most one that is not zero
pub record SaysUnreadable (ls : List (List ℕ)) (name : List ℕ) (n : ℕ) : Type 0 where
  pub at : ℕ
  pub numbered : n ≡ number_after at
  pub gives : Gives ls name at None
  pub one : ℕ
  pub before : Before ls name at (ZeroOr one)

-- what the lines say of the name
abbrev pub Says : List (List ℕ) → List ℕ → Sighting → Type 0
Says ls name Unlisted = SaysUnlisted ls name
Says ls name (OnlyZero n) = SaysOnlyZero ls name n
Says ls name (At n x) = SaysAt ls name n x
Says ls name (TwoAddresses n x m y) = SaysTwo ls name n x m y
Says ls name (Unreadable n) = SaysUnreadable ls name n
