-- What collection answers and makes. Assumes nothing.
use Rattle.std.specs.Prelude.{ℕ, suc, Bool, true, false, cond, ◌&&◌, ◌||◌, List, [], ◌∷◌, length, Some, None, Ok, Err, codes, Option, Result, ◌==◌, nat_le, nat_lt}
use Rattle.std.specs.Option.{option_or}
use Rattle.std.specs.List.{list_any}
use Rattle.std.specs.Str.{bytes_eq}
use Rattle.model.specs.Added.{first_int, with_int, with_placeholder, room_for_placeholder}
use Rattle.model.specs.Chain.{type_at, resolve_type}
use Rattle.model.specs.Externs.{Extern, Object}
use Rattle.model.specs.Kinds.{is_func, is_var, is_data_sec}
use Rattle.model.specs.Lists.{lookup, each}
use Rattle.model.specs.Names.{name_at, reads_as}
use Rattle.model.specs.Spans.{part}
use Rattle.model.specs.Tables.{Tables, Symbols, MAX_EXTERNS, tables_fit, symbols_fit, symbol_name}
use Rattle.model.specs.declared.btf.BtfType.{BtfType}
use Rattle.model.specs.declared.btf.DataSecEntry.{DataSecEntry}
use Rattle.model.specs.declared.btf.ChainError as chains
use Rattle.model.specs.declared.rows.Symbol.{Symbol}
use Rattle.model.specs.declared.refusal.Named.TheVariants.{Section, Entry}
use Rattle.model.specs.declared.refusal.Reason.{Reason}
use Rattle.model.specs.declared.refusal.Reason.TheVariants.{InvalidTable, UnknownBtfType, InvalidDatasec, InvalidStringOffset, InvalidSymbolName, MaximumTypeDepthReached, DuplicateName, NoRoom}

-- ---- the section: the first DataSec named .ksyms; the name of each DataSec on the way must read
abbrev pub section_here : Option (List ℕ) → ℕ → Result (Option ℕ) Reason → Result (Option ℕ) Reason
section_here None i after = Err (InvalidStringOffset (Section i))
section_here (Some name) i after = cond (bytes_eq name (codes ".ksyms")) (Ok (Some i)) after

abbrev pub section_from : List ℕ → ℕ → List BtfType → Result (Option ℕ) Reason
section_from strings i [] = Ok None
section_from strings i (t ∷ ts) =
    cond (is_data_sec t) (section_here (name_at strings t.name_offset) i (section_from strings (suc i) ts)) (section_from strings (suc i) ts)

abbrev pub section_of : Tables → Result (Option ℕ) Reason
section_of t = section_from t.strings 0 t.types

-- its entries
abbrev pub entries_of : Tables → ℕ → List DataSecEntry
entries_of t d = part t.entries (type_at t.types d).parts

-- whether one of the entries is a Func; each id up to the first Func must be a row
abbrev pub has_func : List BtfType → ℕ → List DataSecEntry → Result Bool Reason
has_func ts n [] = Ok false
has_func ts n (e ∷ es) =
    cond (nat_lt e.btf_type (length ts)) (cond (is_func (type_at ts e.btf_type)) (Ok true) (has_func ts (suc n) es)) (Err (UnknownBtfType n))

-- ---- one entry, of the row n
-- a Var that resolves to row 0 is typeless; any other extern has the resolved row as its type
abbrev pub type_of : BtfType → ℕ → Option ℕ
type_of row target = cond (is_var row && target == 0) None (Some target)

-- an extern just collected: neither id nor address
abbrev pub fresh : ℕ → BtfType → List ℕ → Bool → ℕ → Extern
fresh id row name weak target =
    record {
      name = name;
      place = row.name_offset;
      entry = id;
      func = is_func row;
      typed = type_of row target;
      weak = weak;
      resolved = false;
      id = None;
      address = None;
    }

abbrev pub chain_refusal : ℕ → chains.ChainError → Reason
chain_refusal n chains.TheVariants.UnknownBtfType = UnknownBtfType n
chain_refusal n chains.TheVariants.MaximumTypeDepthReached = MaximumTypeDepthReached n

-- the chain from its type ends
abbrev pub chain_read : ℕ → ℕ → BtfType → List ℕ → Bool → Result ℕ chains.ChainError → Result Extern Reason
chain_read n id row name weak (Err e) = Err (chain_refusal n e)
chain_read n id row name weak (Ok target) = Ok (fresh id row name weak target)

-- a symbol has its name: the first that does gives the weak mark
abbrev pub symbol_named : Symbols → List ℕ → Option (ℕ × Symbol)
symbol_named ss name = lookup (λ s. reads_as (symbol_name ss s) name) 0 ss.rows

abbrev pub symbol_read : List BtfType → ℕ → ℕ → BtfType → List ℕ → Option (ℕ × Symbol) → Result Extern Reason
symbol_read ts n id row name None = Err (InvalidSymbolName n)
symbol_read ts n id row name (Some k) = chain_read n id row name k.1.is_weak (resolve_type ts row.size_or_type)

-- its name reads
abbrev pub name_read : List BtfType → Symbols → ℕ → ℕ → BtfType → Option (List ℕ) → Result Extern Reason
name_read ts ss n id row None = Err (InvalidStringOffset (Entry n))
name_read ts ss n id row (Some name) = symbol_read ts n id row name (symbol_named ss name)

-- it is a Func or a Var
abbrev pub row_read : Tables → Symbols → ℕ → ℕ → BtfType → Result Extern Reason
row_read t ss n id row =
    cond (is_func row || is_var row) (name_read t.types ss n id row (name_at t.strings row.name_offset)) (Err (InvalidDatasec n))

-- its id is a row
abbrev pub entry_read : Tables → Symbols → ℕ → DataSecEntry → Result Extern Reason
entry_read t ss n e =
    cond (nat_lt e.btf_type (length t.types)) (row_read t ss n e.btf_type (type_at t.types e.btf_type)) (Err (UnknownBtfType n))

-- ---- what is tested last: a name that an earlier entry has, and then the room
abbrev pub duplicate : List Extern → ℕ → List Extern → Option Reason
duplicate before n [] = None
duplicate before n (x ∷ xs) = cond (list_any (λ y. bytes_eq y.name x.name) before) (Some (DuplicateName n)) (duplicate (x ∷ before) (suc n) xs)

abbrev pub room_for_func : Bool → Tables → Bool
room_for_func false t = true
room_for_func true t = room_for_placeholder (first_int t.types) t

abbrev pub room_refusal : Bool → List Extern → Tables → Option Reason
room_refusal func xs t = cond (nat_le (length xs) MAX_EXTERNS && room_for_func func t) None (Some NoRoom)

-- ---- the object made: with a Func, a placeholder is added, and an int row before it if there is none
abbrev pub made : Bool → List Extern → Tables → Object
made false xs t = record { tables = t; externs = xs; placeholder = None }
made true xs t =
    let p = with_placeholder (with_int (first_int t.types) t) in
    record { tables = p.1; externs = xs; placeholder = Some p.0 }

-- ---- the whole, stage by stage
abbrev pub granted_unless : Option Reason → Object → Result Object Reason
granted_unless None o = Ok o
granted_unless (Some e) o = Err e

abbrev pub collect_rows : Tables → ℕ → Bool → Result (List Extern) Reason → Result Object Reason
collect_rows t n func (Err e) = Err e
collect_rows t n func (Ok xs) = granted_unless (option_or (duplicate [] n xs) (room_refusal func xs t)) (made func xs t)

abbrev pub collect_entries : Tables → Symbols → ℕ → List DataSecEntry → Result Bool Reason → Result Object Reason
collect_entries t ss n es (Err e) = Err e
collect_entries t ss n es (Ok func) = collect_rows t n func (each (entry_read t ss) n es)

abbrev pub collect_section : Tables → Symbols → Result (Option ℕ) Reason → Result Object Reason
collect_section t ss (Err e) = Err e
collect_section t ss (Ok None) = Ok (made false [] t)
collect_section t ss (Ok (Some d)) =
    let n = (type_at t.types d).parts.start in
    collect_entries t ss n (entries_of t d) (has_func t.types n (entries_of t d))

-- collection of the tables of an object without externs
abbrev pub collect : Tables → Symbols → Result Object Reason
collect t ss = cond (tables_fit t && symbols_fit ss) (collect_section t ss (section_of t)) (Err InvalidTable)

-- the call on an object: one that has externs is refused
abbrev pub collect_object : Object → Symbols → Result Object Reason
collect_object o ss = cond (length o.externs == 0) (collect o.tables ss) (Err InvalidTable)
