-- What is told of the names that were asked. Assumes nothing.
use Rattle.std.specs.Prelude.{◌≡◌, ℕ, List, map, All, string_bytes, String}
use Rattle.std.specs.declared.alloc.Global.{Global}
use Rattle.kallsyms.specs.Cut.{lines_from, end_from}
use Rattle.kallsyms.specs.Line.{count_of}
use Rattle.lookup.specs.Says.{Says}
use Rattle.lookup.specs.declared.scan.Reading.{Reading}
use Rattle.lookup.specs.declared.sighting.Sighting.{Sighting}
use Rattle.ksyms.specs.declared.summary.Told.{Told}

-- the names are told in turn, each with what is said of it
pub record Tells (names : List (String Global)) (sightings : List Sighting) (tolds : List Told) : Type 0 where
  pub named : map (λ t. t.name.now) tolds ≡ map string_bytes names
  pub said : map (λ t. t.sighting) tolds ≡ sightings

-- the names are told in turn, with what the lines of these bytes say of each, and the reading took these lines and their end
pub record Finds (bytes : List ℕ) (names : List (String Global)) (tolds : List Told) (reading : Reading) : Type 0 where
  pub named : map (λ t. t.name.now) tolds ≡ map string_bytes names
  pub says : All (λ t. Says (lines_from 1 bytes) t.name.now t.sighting) tolds
  pub count : reading.lines ≡ count_of (lines_from 1 bytes)
  pub end : reading.end ≡ end_from 1 bytes
