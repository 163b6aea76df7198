-- The texts that are printed for people. Assumes nothing.
use Rattle.std.specs.Prelude.{ℕ, List, ◌++◌, codes, decimal}
use Rattle.kallsyms.specs.declared.ends.Fault.{Fault}
use Rattle.kallsyms.specs.Faults.{fault_text}
use Rattle.lookup.specs.declared.sighting.Sighting.{Sighting}
use Rattle.lookup.specs.declared.sighting.Sighting.TheVariants.{Unlisted, OnlyZero, At, TwoAddresses, Unreadable}
use Rattle.texts.specs.Hex.{hex_text}

-- what a list says of a name
abbrev pub told_text : List ℕ → Sighting → List ℕ
told_text name Unlisted = name ++ codes ": not listed"
told_text name (OnlyZero line) = name ++ (codes ": only at address zero, first on line " ++ decimal line)
told_text name (At line address) = name ++ (codes ": " ++ (hex_text address ++ (codes ", line " ++ decimal line)))
told_text name (TwoAddresses line address other_line other_address) =
    name ++ (codes ": two addresses, " ++ (hex_text address ++ (codes " on line " ++ (decimal line ++ (codes " and " ++ (hex_text other_address ++ (codes " on line " ++ decimal other_line)))))))
told_text name (Unreadable line) = name ++ (codes ": the address on line " ++ (decimal line ++ codes " does not read"))

-- what is said of a list that is broken
abbrev pub broken_text : Fault → List ℕ
broken_text f = codes "the list is broken: " ++ (fault_text f ++ codes "; only the lines before it were read")

-- what is said of a whole list: lines read, names found, names asked for
abbrev pub summary_text : ℕ → ℕ → ℕ → List ℕ
summary_text lines found asked =
    codes "lines read: " ++ (decimal lines ++ (codes ", names found: " ++ (decimal found ++ (codes " of " ++ decimal asked))))
