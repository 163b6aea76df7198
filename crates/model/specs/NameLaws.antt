-- What follows from the definitions of names, chains and the lookup. Assumes nothing.
use Rattle.std.specs.Prelude.{◌≡◌, ℕ, zero, suc, ◌<◌, ◌≤◌, Bool, true, false, ◌⊎◌, ◌↔◌, List, [], ◌∷◌, ◌++◌, length, drop, Some, None, Ok, Err, ◌≢◌, slice_index_or}
use Rattle.std.specs.List.{AllByRecursion}
use Rattle.model.specs.Chain.{type_at, resolve_type}
use Rattle.model.specs.Kinds.{passes_on}
use Rattle.model.specs.Lists.{lookup}
use Rattle.model.specs.Names.{name_at, essential, bars}
use Rattle.model.specs.Spans.{inside}
use Rattle.model.specs.Tables.{Tables}
use Rattle.model.specs.Externs.{Extern, seen, whole_name}
use Rattle.model.specs.declared.btf.BtfType.{BtfType}
use Rattle.model.specs.declared.rows.Symbol.{Symbol}
use Rattle.model.specs.declared.rows.CatalogueRow.{CatalogueRow}
use Rattle.model.specs.declared.rows.ExternDesc.{ExternDesc}
use Rattle.model.specs.declared.btf.ChainError.TheVariants.{UnknownBtfType, MaximumTypeDepthReached}

-- a name reads exactly if a zero byte follows it, and has none itself
abbrev pub NamesEndAtZero : Type 0
NamesEndAtZero = (strings : List ℕ) (offset : ℕ) (n : List ℕ)
    → (name_at strings offset ≡ Some n) ↔ (AllByRecursion (λ b. b ≢ 0) n × ((rest : List ℕ) × (drop offset strings ≡ n ++ 0 ∷ rest)))

-- a name is its essential name, which nowhere goes on with three underscores, and then nothing or three underscores
pub record EssentialNames : Type 0 where
  pub front : (n : List ℕ) → (rest : List ℕ) × (n ≡ essential n ++ rest) × ((rest ≡ []) ⊎ (bars rest ≡ true))
  pub first : (n : List ℕ) (k : ℕ) → k < length (essential n) → bars (drop k n) ≡ false

-- n rows from an id on, each passing on to the next, lead to another id
abbrev pub Leads : ℕ → List BtfType → ℕ → ℕ → Type 0
Leads zero ts id end = id ≡ end
Leads (suc n) ts id end = (id < length ts) × (passes_on (type_at ts id) ≡ true) × Leads n ts (type_at ts id).size_or_type end

-- a chain ends in the row that fewer than 32 rows lead to and that passes on to none; it is unknown if fewer than 32 rows
-- lead to what is no row; it is too deep if 32 rows all pass on
pub record ChainsEnd : Type 0 where
  pub row : (ts : List BtfType) (id end : ℕ)
      → (resolve_type ts id ≡ Ok end) ↔ ((n : ℕ) × (n < 32) × Leads n ts id end × (end < length ts) × (passes_on (type_at ts end) ≡ false))
  pub unknown : (ts : List BtfType) (id : ℕ) → (resolve_type ts id ≡ Err UnknownBtfType) ↔ ((n : ℕ) × (end : ℕ) × (n < 32) × Leads n ts id end × (length ts ≤ end))
  pub deep : (ts : List BtfType) (id : ℕ) → (resolve_type ts id ≡ Err MaximumTypeDepthReached) ↔ ((end : ℕ) × Leads 32 ts id end)

-- the lookup finds a row that has the key and that no row before has; it finds none exactly if no row has it
pub record FindsTheFirst (X : Type 0) : Type 0 where
  pub row : (has : X → Bool) (xs : List X) (k : ℕ) (x d : X)
      → lookup has 0 xs ≡ Some (k, x) → (k < length xs) × (slice_index_or xs k d ≡ x) × (has x ≡ true) × ((j : ℕ) → j < k → has (slice_index_or xs j d) ≡ false)
  pub none : (has : X → Bool) (xs : List X) (d : X) → (lookup has 0 xs ≡ None) ↔ ((j : ℕ) → j < length xs → has (slice_index_or xs j d) ≡ false)

-- of every table that is looked up in
pub record LookupsFindTheFirst : Type 0 where
  pub symbols : FindsTheFirst Symbol
  pub externs : FindsTheFirst Extern
  pub catalogue : FindsTheFirst CatalogueRow
  pub types : FindsTheFirst BtfType

-- the name of an extern that a row stands for has the place that the row has, if that is inside the strings
abbrev pub RowsKeepTheirNames : Type 0
RowsKeepTheirNames = (t : Tables) (x : ExternDesc) → inside t.strings x.name ≡ true → whole_name (seen t x) ≡ x.name
