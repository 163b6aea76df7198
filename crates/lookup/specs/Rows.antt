-- Rows beside names. Assumes nothing.
use Rattle.std.specs.Prelude.{◌≡◌, ℕ, ◌<◌, ◌≤◌, Bool, cond, ◌&&◌, List, [], map, length, string_bytes, String, nat_le, slice_index_or}
use Rattle.std.proofs.Common.{◌∙◌}
use Rattle.std.specs.declared.alloc.Global.{Global}
use Rattle.std.specs.Str.{bytes_eq}
use Rattle.kallsyms.specs.Fields.{fields, field}
use Rattle.kallsyms.specs.Address.{address}
use Rattle.lookup.specs.After.{after}
use Rattle.lookup.specs.Says.{Says}
use Rattle.lookup.specs.declared.rows.Rows.{Rows}
use Rattle.lookup.specs.declared.sighting.Sighting.{Sighting}
use Rattle.lookup.specs.declared.sighting.Sighting.TheVariants.{Unlisted}

-- whether a line lists a name
abbrev pub lists : List ℕ → List ℕ → Bool
lists name l = nat_le 3 (length (fields 0 l)) && bytes_eq (field 2 l).bytes name

-- what is said of a name after line n
abbrev pub noted : ℕ → List ℕ → List ℕ → Sighting → Sighting
noted n l name s = cond (lists name l) (after n (address (field 0 l).bytes) s) s

-- the bytes of the name at an index
abbrev pub name_at : List (String Global) → ℕ → List ℕ
name_at names k = slice_index_or (map string_bytes names) k []

-- each row holds what the lines say of the name of the same index, and a row without a name is unlisted
pub record Filled (names : List (String Global)) (ls : List (List ℕ)) (rows : List Sighting) : Type 0 where
  pub says : (k : ℕ) → k < length names → k < length rows → Says ls (name_at names k) (slice_index_or rows k Unlisted)
  pub spare : (k : ℕ) → length names ≤ k → slice_index_or rows k Unlisted ≡ Unlisted

-- the rows hold what the lines say of their names
abbrev pub RowsHold : List (List ℕ) → Rows → Type 0
RowsHold ls r = Filled r.names.now ls r.sightings.now

-- the second has the names of the first, and as many rows, which are the same caller's
pub record RowsKeep (old new : Rows) : Type 0 where
  pub names : new.names.now ≡ old.names.now
  pub rows : length new.sightings.now ≡ length old.sightings.now
  pub same_reference : new.sightings.ghost_name ≡ old.sightings.ghost_name

-- what is kept twice is kept
pub rows_kept : (a b c : Rows) → RowsKeep a b → RowsKeep b c → RowsKeep a c
rows_kept a b c e f = record { names = f.names ∙ e.names; rows = f.rows ∙ e.rows; same_reference = f.same_reference ∙ e.same_reference }
