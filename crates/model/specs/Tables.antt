-- The tables of a BTF, of symbols and of a catalogue, and when they are well-formed. Assumes nothing.
use Rattle.std.specs.Prelude.{ℕ, Bool, true, false, cond, ◌&&◌, ◌||◌, List, [], ◌∷◌, length, Some, None, Option, ◌==◌, nat_le, nat_lt}
use Rattle.std.specs.List.{list_all}
use Rattle.std.specs.Option.{option_map}
use Rattle.model.specs.Kinds.{of_kind, is_func_proto, is_data_sec}
use Rattle.model.specs.Lists.{ascends}
use Rattle.model.specs.Spans.{part, inside, follow}
use Rattle.model.specs.declared.btf.BtfType.{BtfType}
use Rattle.model.specs.declared.btf.DataSecEntry.{DataSecEntry}
use Rattle.model.specs.declared.btf.BtfParam.{BtfParam}
use Rattle.model.specs.declared.btf.BtfHeader.{BtfHeader}
use Rattle.model.specs.declared.rows.Span.{Span}
use Rattle.model.specs.declared.rows.Symbol.{Symbol}
use Rattle.model.specs.declared.rows.CatalogueRow.{CatalogueRow}

-- ---- the limits
abbrev pub MAX_ROWS : ℕ
MAX_ROWS = 65536

abbrev pub MAX_FUNCTIONS : ℕ
MAX_FUNCTIONS = 4096

abbrev pub MAX_NAMES : ℕ
MAX_NAMES = 262144

abbrev pub MAX_SECTION_OFFSET : ℕ
MAX_SECTION_OFFSET = 4294967295

abbrev pub MAX_EXTERNS : ℕ
MAX_EXTERNS = 256

-- ---- a BTF: its type rows, section entries, parameters and strings, and the numbers of its header
pub record Tables : Type 0 where
  pub types : List BtfType
  pub entries : List DataSecEntry
  pub params : List BtfParam
  pub strings : List ℕ
  pub header : BtfHeader

-- row 0 is there and has kind 0
abbrev pub void_first : List BtfType → Bool
void_first [] = false
void_first (t ∷ ts) = of_kind 0 t

-- the parts of each row of a kind
abbrev pub parts_of_kind : ℕ → List BtfType → List Span
parts_of_kind k [] = []
parts_of_kind k (t ∷ ts) = cond (of_kind k t) (t.parts ∷ parts_of_kind k ts) (parts_of_kind k ts)

-- a row that is no DataSec and no FuncProto has no parts
abbrev pub parts_fit : BtfType → Bool
parts_fit t = (is_data_sec t || is_func_proto t) || t.parts.len == 0

abbrev pub few : Tables → Bool
few t =
    nat_le (length t.types) MAX_ROWS
    && (nat_le (length t.entries) MAX_ROWS && (nat_le (length t.params) MAX_ROWS && nat_le (length t.strings) MAX_NAMES))

-- the tables of a BTF are well-formed: kind 15 has spans of entries, kind 13 of parameters
abbrev pub tables_fit : Tables → Bool
tables_fit t =
    few t
    && (void_first t.types
    && (list_all parts_fit t.types
    && (follow 0 (parts_of_kind 15 t.types) (length t.entries) && follow 0 (parts_of_kind 13 t.types) (length t.params))))

-- ---- symbols, with the table of their names
pub record Symbols : Type 0 where
  pub rows : List Symbol
  pub names : List ℕ

abbrev pub inside_if_any : List ℕ → Option Span → Bool
inside_if_any names None = true
inside_if_any names (Some s) = inside names s

-- symbols are well-formed: few, ascending by index, their names inside the table of names
abbrev pub symbols_fit : Symbols → Bool
symbols_fit ss =
    (nat_le (length ss.rows) MAX_ROWS && nat_le (length ss.names) MAX_NAMES)
    && (ascends (λ s t. nat_lt s.index t.index) ss.rows && list_all (λ s. inside_if_any ss.names s.name) ss.rows)

-- the name of a symbol
abbrev pub symbol_name : Symbols → Symbol → Option (List ℕ)
symbol_name ss s = option_map (part ss.names) s.name

-- ---- a catalogue, with the table of its names
pub record Catalogue : Type 0 where
  pub rows : List CatalogueRow
  pub names : List ℕ

-- a catalogue is well-formed, and so is none
abbrev pub catalogue_fits : Option Catalogue → Bool
catalogue_fits None = true
catalogue_fits (Some c) =
    (nat_le (length c.rows) MAX_ROWS && nat_le (length c.names) MAX_NAMES) && list_all (λ k. inside c.names k.name) c.rows
