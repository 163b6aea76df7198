-- When tables are well-formed, in words; the tests of the tables say exactly this. Assumes nothing.
use Rattle.std.specs.Prelude.{◌≡◌, ℕ, ◌+◌, ◌*◌, ◌<◌, ◌≤◌, true, false, cond, ◌⊎◌, ◌↔◌, List, [], ◌∷◌, ◌++◌, length, Some}
use Rattle.model.specs.Chain.{type_at}
use Rattle.model.specs.Collected.{Collected, object_fits}
use Rattle.model.specs.Externs.{Object}
use Rattle.model.specs.Kinds.{kind_number, of_kind}
use Rattle.model.specs.Lists.{In}
use Rattle.model.specs.Relocate.{Program, program_fits}
use Rattle.model.specs.Tables.{Tables, Symbols, Catalogue, tables_fit, symbols_fit, catalogue_fits}
use Rattle.model.specs.declared.btf.BtfType.{BtfType}
use Rattle.model.specs.declared.rows.CatalogueRow.{CatalogueRow}
use Rattle.model.specs.declared.rows.Function.{Function}
use Rattle.model.specs.declared.rows.Relocation.{Relocation}
use Rattle.model.specs.declared.rows.Span.{Span}
use Rattle.model.specs.declared.rows.Symbol.{Symbol}

-- ---- a BTF
-- how many parts the rows of a kind have together
abbrev pub parts_of : ℕ → List BtfType → ℕ
parts_of k [] = 0
parts_of k (t ∷ ts) = cond (of_kind k t) (t.parts.len + parts_of k ts) (parts_of k ts)

-- the span of each row of a kind starts where those before it end, the first at 0, and the last ends inside a table of n rows
pub record SpansFollow (k : ℕ) (ts : List BtfType) (n : ℕ) : Type 0 where
  pub starts : (front : List BtfType) (t : BtfType) (back : List BtfType) → ts ≡ front ++ t ∷ back → of_kind k t ≡ true → t.parts.start ≡ parts_of k front
  pub ends : parts_of k ts ≤ n

-- at most 65,536 types, entries and parameters, at most 262,144 bytes of strings; row 0 is there and has kind 0; the spans of
-- DataSec rows follow each other among the entries, those of FuncProto rows among the parameters, and no other row has parts
pub record WellFormedTables (t : Tables) : Type 0 where
  pub types : length t.types ≤ 65536
  pub entries : length t.entries ≤ 65536
  pub params : length t.params ≤ 65536
  pub strings : length t.strings ≤ 262144
  pub some : 0 < length t.types
  pub void : kind_number (type_at t.types 0).kind ≡ 0
  pub sections : SpansFollow 15 t.types (length t.entries)
  pub protos : SpansFollow 13 t.types (length t.params)
  pub others : (r : BtfType) → In r t.types → of_kind 15 r ≡ false → of_kind 13 r ≡ false → r.parts.len ≡ 0

-- an object is well-formed if its tables are and it has no externs, or at most 256 and is as collection leaves it
pub record WellFormedObject (o : Object) : Type 0 where
  pub tables : WellFormedTables o.tables
  pub few : length o.externs ≤ 256
  pub collected : (o.externs ≡ []) ⊎ Collected o

-- ---- symbols and catalogues
-- one pair of numbers comes before another: by the first numbers, and by the second where those are equal
abbrev pub Before : ℕ × ℕ → ℕ × ℕ → Type 0
Before p q = (p.0 < q.0) ⊎ ((p.0 ≡ q.0) × (p.1 < q.1))

-- at most 65,536 rows and 262,144 bytes of names; indices ascend, with no repeats; each name lies inside the names
pub record WellFormedSymbols (ss : Symbols) : Type 0 where
  pub rows : length ss.rows ≤ 65536
  pub names : length ss.names ≤ 262144
  pub ascend : (front : List Symbol) (s : Symbol) (middle : List Symbol) (t : Symbol) (back : List Symbol) → ss.rows ≡ front ++ s ∷ (middle ++ t ∷ back) → s.index < t.index
  pub inside : (s : Symbol) (n : Span) → In s ss.rows → s.name ≡ Some n → n.start + n.len ≤ length ss.names

pub record WellFormedCatalogue (c : Catalogue) : Type 0 where
  pub rows : length c.rows ≤ 65536
  pub names : length c.names ≤ 262144
  pub inside : (k : CatalogueRow) → In k c.rows → k.name.start + k.name.len ≤ length c.names

-- ---- a program
-- how many slots functions have together
abbrev pub slots_of : List Function → ℕ
slots_of [] = 0
slots_of (f ∷ fs) = f.slots.len + slots_of fs

-- the code is whole slots, at most 65,536; there are at most 4,096 functions, they ascend by section and address, the section offset of
-- each is at most 4,294,967,295, and their spans of slots follow each other inside the code; there are at most 65,536 relocations,
-- and they ascend by section and offset
pub record WellFormedProgram (p : Program) (code : List ℕ) : Type 0 where
  pub slots : ℕ
  pub whole : length code ≡ slots * 8
  pub few_slots : slots ≤ 65536
  pub symbols : WellFormedSymbols p.symbols
  pub few_relocations : length p.relocations ≤ 65536
  pub relocations : (front : List Relocation) (r : Relocation) (middle : List Relocation) (s : Relocation) (back : List Relocation) → p.relocations ≡ front ++ r ∷ (middle ++ s ∷ back) → Before (r.section, r.offset) (s.section, s.offset)
  pub few_functions : length p.functions ≤ 4096
  pub offsets : (f : Function) → In f p.functions → f.section_offset ≤ 4294967295
  pub functions : (front : List Function) (f : Function) (middle : List Function) (g : Function) (back : List Function) → p.functions ≡ front ++ f ∷ (middle ++ g ∷ back) → Before (f.section, f.address) (g.section, g.address)
  pub starts : (front : List Function) (f : Function) (back : List Function) → p.functions ≡ front ++ f ∷ back → f.slots.start ≡ slots_of front
  pub ends : slots_of p.functions ≤ slots

-- ---- the tests say exactly this
pub record TablesAreTested : Type 0 where
  pub tables : (t : Tables) → (tables_fit t ≡ true) ↔ WellFormedTables t
  pub object : (o : Object) → (object_fits o ≡ true) ↔ WellFormedObject o
  pub symbols : (ss : Symbols) → (symbols_fit ss ≡ true) ↔ WellFormedSymbols ss
  pub catalogue : (c : Catalogue) → (catalogue_fits (Some c) ≡ true) ↔ WellFormedCatalogue c
  pub program : (p : Program) (code : List ℕ) → (program_fits p code ≡ true) ↔ WellFormedProgram p code
