-- One line more, taken into a map. Assumes nothing.
use Rattle.std.specs.Prelude.{◌≡◌, ℕ, List}
use Rattle.std.specs.BTreeMap.{keys}
use Rattle.std.specs.Option.{option_map}
use Rattle.kallsyms.specs.Fields.{field}
use Rattle.kallsyms.specs.Address.{address}
use Rattle.lookup.specs.After.{after}
use Rattle.lookup.specs.LookedUp.{Sightings, sighting_of}
use Rattle.lookup.specs.Says.{Lists}

-- the map has the names that it had, the one that line n lists is after that line, and the others are as they were
pub record Notes (n : ℕ) (l : List ℕ) (old new : Sightings) : Type 0 where
  pub names : keys new ≡ keys old
  pub listed : (name : List ℕ) → Lists name l → sighting_of new name ≡ option_map (after n (address (field 0 l).bytes)) (sighting_of old name)
  pub others : (name : List ℕ) → ¬ Lists name l → sighting_of new name ≡ sighting_of old name
