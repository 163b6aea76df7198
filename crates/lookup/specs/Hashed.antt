-- Names in a hash map. Assumes nothing.
use Rattle.std.specs.Prelude.{◌≡◌, ℕ, List, Option, IfSome, IsSome, cond, Some, String}
use Rattle.std.proofs.Common.{◌∙◌, sym}
use Rattle.std.proofs.lemmas.Map.Made.{IsSome-lookup_same_keys}
use Rattle.std.specs.Borrow.{Bor}
use Rattle.std.specs.HashMap.{HashMap, keys, get_by}
use Rattle.std.specs.Option.{option_map}
use Rattle.std.specs.Str.{bytes_eq}
use Rattle.std.specs.declared.alloc.Global.{Global}
use Rattle.kallsyms.specs.Address.{address}
use Rattle.kallsyms.specs.Fields.{field}
use Rattle.lookup.specs.After.{after}
use Rattle.lookup.specs.Asked.{asked}
use Rattle.lookup.specs.Says.{Lists, Says}
use Rattle.lookup.specs.declared.sighting.Sighting.{Sighting}
use Rattle.lookup.specs.declared.sighting.Sighting.TheVariants.{Unlisted}

module _ {S : Type 0} where
  -- what a map says of the name with these bytes
  abbrev pub sighting_in : HashMap (Bor (List ℕ)) Sighting S → List ℕ → Option Sighting
  sighting_in m name = get_by (λ k. bytes_eq name k.now) m

  -- the map has at each of its names what the lines say of it
  abbrev pub HashHolds : List (List ℕ) → HashMap (Bor (List ℕ)) Sighting S → Type 0
  HashHolds ls m = (name : List ℕ) → IfSome (sighting_in m name) (Says ls name)

  -- the second map has the names of the first
  abbrev pub HashKeeps : HashMap (Bor (List ℕ)) Sighting S → HashMap (Bor (List ℕ)) Sighting S → Type 0
  HashKeeps old new = keys new ≡ keys old

  -- names that a map keeps twice are kept
  pub hash_kept : (a b c : HashMap (Bor (List ℕ)) Sighting S) → HashKeeps a b → HashKeeps b c → HashKeeps a c
  hash_kept a b c e f = f ∙ e

  -- a name that a map keeps is still there
  pub hash_has : (a b : HashMap (Bor (List ℕ)) Sighting S) → HashKeeps a b → (name : List ℕ) → IsSome (sighting_in a name) → IsSome (sighting_in b name)
  hash_has a b same name = (IsSome-lookup_same_keys (λ k. bytes_eq name k.now) a.entries b.entries (sym same)).0

  -- the map has the name, unlisted, and else what it had
  abbrev pub HashAdds : List ℕ → HashMap (Bor (List ℕ)) Sighting S → HashMap (Bor (List ℕ)) Sighting S → Type 0
  HashAdds name old new = (bytes : List ℕ) → sighting_in new bytes ≡ cond (bytes_eq name bytes) (Some Unlisted) (sighting_in old bytes)

  -- the map has the names, each unlisted, and no others
  abbrev pub HashAsked : List (String Global) → HashMap (Bor (List ℕ)) Sighting S → Type 0
  HashAsked names m = (bytes : List ℕ) → sighting_in m bytes ≡ asked names bytes

  -- the map has the names that it had, the one that line n lists is after that line, and the others are as they were
  pub record HashNotes (n : ℕ) (l : List ℕ) (old new : HashMap (Bor (List ℕ)) Sighting S) : Type 0 where
    pub names : keys new ≡ keys old
    pub listed : (name : List ℕ) → Lists name l → sighting_in new name ≡ option_map (after n (address (field 0 l).bytes)) (sighting_in old name)
    pub others : (name : List ℕ) → ¬ Lists name l → sighting_in new name ≡ sighting_in old name
