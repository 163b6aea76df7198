-- Names that are asked for, in a map. Assumes nothing.
use Rattle.std.specs.Prelude.{◌≡◌, ℕ, cond, List, [], ◌∷◌, Some, None, Option, string_bytes, String}
use Rattle.std.specs.Str.{bytes_eq}
use Rattle.std.specs.declared.alloc.Global.{Global}
use Rattle.lookup.specs.LookedUp.{Sightings, sighting_of}
use Rattle.lookup.specs.declared.sighting.Sighting.{Sighting}
use Rattle.lookup.specs.declared.sighting.Sighting.TheVariants.{Unlisted}

-- the map has the name, unlisted, and else what it had
abbrev pub Adds : List ℕ → Sightings → Sightings → Type 0
Adds name old new = (bytes : List ℕ) → sighting_of new bytes ≡ cond (bytes_eq name bytes) (Some Unlisted) (sighting_of old bytes)

-- unlisted for one of the names, and else nothing
abbrev pub asked : List (String Global) → List ℕ → Option Sighting
asked [] bytes = None
asked (n ∷ ns) bytes = cond (bytes_eq (string_bytes n) bytes) (Some Unlisted) (asked ns bytes)

-- the map has the names, each unlisted, and no others
abbrev pub Asked : List (String Global) → Sightings → Type 0
Asked names m = (bytes : List ℕ) → sighting_of m bytes ≡ asked names bytes
