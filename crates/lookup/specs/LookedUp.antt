-- What a lookup leaves in a map of names and answers. Assumes nothing.
use Rattle.std.specs.Prelude.{◌≡◌, ℕ, List, Option, IfSome, IsSome}
use Rattle.std.proofs.Common.{◌∙◌, sym}
use Rattle.std.proofs.lemmas.Map.Made.{IsSome-lookup_same_keys}
use Rattle.std.specs.Borrow.{Bor}
use Rattle.std.specs.BTreeMap.{BTreeMap, keys, get_by, is_at}
use Rattle.std.specs.Cmp.Lexicographic.{slice_cmp}
use Rattle.std.specs.Ordering.{nat_cmp}
use Rattle.kallsyms.specs.Line.{count_of}
use Rattle.kallsyms.specs.Ends.{End}
use Rattle.lookup.specs.Says.{Says}
use Rattle.lookup.specs.declared.scan.Reading.{Reading}
use Rattle.lookup.specs.declared.sighting.Sighting.{Sighting}

-- a map from the bytes of names to what is said of them
abbrev pub Sightings : Type 0
Sightings = BTreeMap (Bor (List ℕ)) Sighting

-- what a map says of the name with these bytes
abbrev pub sighting_of : Sightings → List ℕ → Option Sighting
sighting_of m name = get_by (λ k. slice_cmp nat_cmp name k.now) m

-- the map has at each of its names what the lines say of it
abbrev pub MapHolds : List (List ℕ) → Sightings → Type 0
MapHolds ls m = (name : List ℕ) → IfSome (sighting_of m name) (Says ls name)

-- the second map has the names of the first
abbrev pub MapKeeps : Sightings → Sightings → Type 0
MapKeeps old new = keys new ≡ keys old

-- names that a map keeps twice are kept
pub map_kept : (a b c : Sightings) → MapKeeps a b → MapKeeps b c → MapKeeps a c
map_kept a b c e f = f ∙ e

-- a name that a map keeps is still there
pub map_has : (a b : Sightings) → MapKeeps a b → (name : List ℕ) → IsSome (sighting_of a name) → IsSome (sighting_of b name)
map_has a b same name = (IsSome-lookup_same_keys (is_at (λ k. slice_cmp nat_cmp name k.now)) a.entries b.entries (sym same)).0

-- the names are those that there were, with what the lines say of each,
-- and the answer is how many lines there are, and their end
pub record LookedUp {T : Type 0} (Holds : List (List ℕ) → T → Type 0) (Keeps : T → T → Type 0) (ls : List (List ℕ)) (e : End) (old new : T) (reading : Reading) : Type 0 where
  pub names : Keeps old new
  pub says : Holds ls new
  pub count : reading.lines ≡ count_of ls
  pub end : reading.end ≡ e
