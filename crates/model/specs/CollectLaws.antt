-- When collection is granted, and what it makes of the entries. Assumes nothing.
use Rattle.std.specs.Prelude.{◌≡◌, ℕ, ◌<◌, ◌≤◌, true, false, ◌⊎◌, ◌↔◌, List, [], length, Some, None, Ok}
use Rattle.model.specs.Added.{first_int, with_int, with_placeholder, room_for_placeholder}
use Rattle.model.specs.Chain.{type_at, resolve_type}
use Rattle.model.specs.Collect.{section_of, entries_of, symbol_named, type_of, collect}
use Rattle.model.specs.Collected.{Distinct}
use Rattle.model.specs.Externs.{Extern, Object}
use Rattle.model.specs.Kinds.{is_func, is_var}
use Rattle.model.specs.Lists.{In, InTurn}
use Rattle.model.specs.Names.{name_at}
use Rattle.model.specs.TableLaws.{WellFormedTables, WellFormedSymbols}
use Rattle.model.specs.Tables.{Tables, Symbols}
use Rattle.model.specs.declared.btf.DataSecEntry.{DataSecEntry}
use Rattle.model.specs.declared.rows.Symbol.{Symbol}

-- an entry declares an extern: its id is a row, a Func or a Var; the name of that row reads and is the extern's; the first symbol of that
-- name gives the weak mark; the chain from its type ends, in row 0 for a typeless Var and else in the extern's type; the rest is unset
pub record Declares (t : Tables) (ss : Symbols) (e : DataSecEntry) (x : Extern) : Type 0 where
  pub row : e.btf_type < length t.types
  pub kind : (is_func (type_at t.types e.btf_type) ≡ true) ⊎ (is_var (type_at t.types e.btf_type) ≡ true)
  pub name : name_at t.strings (type_at t.types e.btf_type).name_offset ≡ Some x.name
  pub symbol : ℕ × Symbol
  pub named : symbol_named ss x.name ≡ Some symbol
  pub end : ℕ
  pub chain : resolve_type t.types (type_at t.types e.btf_type).size_or_type ≡ Ok end
  pub typed : x.typed ≡ type_of (type_at t.types e.btf_type) end
  pub weak : x.weak ≡ symbol.1.is_weak
  pub place : x.place ≡ (type_at t.types e.btf_type).name_offset
  pub entry : x.entry ≡ e.btf_type
  pub func : x.func ≡ is_func (type_at t.types e.btf_type)
  pub resolved : x.resolved ≡ false
  pub id : x.id ≡ None
  pub address : x.address ≡ None

-- the externs of the section d: each entry, in order, declares one; their names are distinct, there are at most 256, and with a Func
-- among the entries there is room for a placeholder
pub record Section (t : Tables) (ss : Symbols) (d : ℕ) (xs : List Extern) : Type 0 where
  pub found : section_of t ≡ Ok (Some d)
  pub declared : InTurn (Declares t ss) (entries_of t d) xs
  pub distinct : Distinct xs
  pub few : length xs ≤ 256
  pub room : (e : DataSecEntry) → In e (entries_of t d) → is_func (type_at t.types e.btf_type) ≡ true → room_for_placeholder (first_int t.types) t ≡ true

-- a collection is granted exactly if the tables are well-formed and there is no section.ksyms, or one with such externs;
-- and the object has these externs, or none; its tables are as they were, but with a Func among the entries a placeholder is added,
-- and before it an Int if there is none
pub record CollectedExactlyWhen : Type 0 where
  pub granted : (t : Tables) (ss : Symbols)
      → ((o : Object) × (collect t ss ≡ Ok o))
      ↔ (WellFormedTables t × WellFormedSymbols ss × ((section_of t ≡ Ok None) ⊎ ((d : ℕ) × (xs : List Extern) × Section t ss d xs)))
  pub externs : (t : Tables) (ss : Symbols) (o : Object) (d : ℕ) → collect t ss ≡ Ok o → section_of t ≡ Ok (Some d) → Section t ss d o.externs
  pub none : (t : Tables) (ss : Symbols) (o : Object) → collect t ss ≡ Ok o → section_of t ≡ Ok None → o ≡ record { tables = t; externs = []; placeholder = None }
  pub without_func : (t : Tables) (ss : Symbols) (o : Object) (d : ℕ) → collect t ss ≡ Ok o → section_of t ≡ Ok (Some d)
      → ((e : DataSecEntry) → In e (entries_of t d) → is_func (type_at t.types e.btf_type) ≡ false)
      → (o.tables ≡ t) × (o.placeholder ≡ None)
  pub with_func : (t : Tables) (ss : Symbols) (o : Object) (d : ℕ) (e : DataSecEntry) → collect t ss ≡ Ok o → section_of t ≡ Ok (Some d)
      → In e (entries_of t d)
      → is_func (type_at t.types e.btf_type) ≡ true
      → (o.tables ≡ (with_placeholder (with_int (first_int t.types) t)).1) × (o.placeholder ≡ Some (with_placeholder (with_int (first_int t.types) t)).0)
