-- What follows from the definitions. Assumes nothing.
use Rattle.std.specs.Prelude.{◌≡◌, ℕ, List, [], ◌∷◌, ◌++◌, length}
use Rattle.kallsyms.specs.Address.{address}
use Rattle.kallsyms.specs.Fields.{field}
use Rattle.kallsyms.specs.Line.{number_after}
use Rattle.lookup.specs.After.{after}
use Rattle.lookup.specs.Says.{Lists, Says}
use Rattle.lookup.specs.declared.sighting.Sighting.{Sighting}

-- lines say at most one thing of a name
abbrev pub ListsSayOneThing : Type 0
ListsSayOneThing = (ls : List (List ℕ)) (name : List ℕ) (s t : Sighting) → Says ls name s → Says ls name t → s ≡ t

-- from what lines say of a name, and one line more that lists it, `after` gives what they all say
abbrev pub OneLineMore : Type 0
OneLineMore =
    (ls : List (List ℕ)) (l name : List ℕ) (s : Sighting) → Lists name l → Says ls name s
    → Says (ls ++ l ∷ []) name (after (number_after (length ls)) (address (field 0 l).bytes) s)
