-- Rows that a line finds by an index. Assumes nothing.
use Rattle.std.specs.Prelude.{◌≡◌, ℕ, List, length}
use Rattle.std.proofs.Common.{◌∙◌}
use Rattle.lookup.specs.Rows.{Filled}
use Rattle.lookup.specs.declared.indexed.Indexed.{Indexed}

-- the rows hold what the lines say of their names
abbrev pub IndexedHolds : List (List ℕ) → Indexed → Type 0
IndexedHolds ls a = Filled a.index.names.now ls a.sightings.items

-- the second has the names of the first, and as many rows
pub record IndexedKeeps (old new : Indexed) : Type 0 where
  pub names : new.index.names.now ≡ old.index.names.now
  pub rows : length new.sightings.items ≡ length old.sightings.items

-- what is kept twice is kept
pub indexed_kept : (a b c : Indexed) → IndexedKeeps a b → IndexedKeeps b c → IndexedKeeps a c
indexed_kept a b c e f = record { names = f.names ∙ e.names; rows = f.rows ∙ e.rows }
