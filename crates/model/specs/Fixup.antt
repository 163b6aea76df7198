-- What the section fixup answers and makes. Assumes nothing.
use Rattle.std.specs.Prelude.{ℕ, ◌+◌, ◌*◌, cond, not, ◌&&◌, List, [], ◌∷◌, ◌++◌, map, take, drop, Some, None, Ok, Err, Option, Result, ◌==◌, slice_index_or, slice_set}
use Rattle.std.specs.List.{range_with_len}
use Rattle.model.specs.Added.{first_int, with_int, room_for_int}
use Rattle.model.specs.BtfNumbers.{BTF_FUNC_GLOBAL, BTF_VAR_GLOBAL, with_linkage}
use Rattle.model.specs.Chain.{type_at}
use Rattle.model.specs.Collect.{section_of}
use Rattle.model.specs.Externs.{Extern, Object}
use Rattle.model.specs.Kinds.{is_func, is_func_proto}
use Rattle.model.specs.Spans.{part, end_of}
use Rattle.model.specs.Tables.{Tables}
use Rattle.model.specs.declared.btf.BtfType.{BtfType}
use Rattle.model.specs.declared.btf.DataSecEntry.{DataSecEntry}
use Rattle.model.specs.declared.btf.BtfParam.{BtfParam}
use Rattle.model.specs.declared.refusal.Reason.{Reason}
use Rattle.model.specs.declared.refusal.Reason.TheVariants.{NoRoom}

-- the int row: the placeholder's type, else the first Int of size 4
abbrev pub int_of : Option ℕ → List BtfType → Option ℕ
int_of (Some p) ts = Some (type_at ts p).size_or_type
int_of None ts = first_int ts

-- ---- the rows and entries as they are rewritten
-- a Func becomes global
abbrev pub global_func : BtfType → BtfType
global_func t = record t { info = with_linkage BTF_FUNC_GLOBAL t.info }

-- a Var becomes global, of the int row
abbrev pub global_var : ℕ → BtfType → BtfType
global_var int t = record t { size_or_type = int; «data» = BTF_VAR_GLOBAL }

-- the section gets a size
abbrev pub sized : ℕ → BtfType → BtfType
sized n t = record t { size_or_type = n }

-- a parameter with a type and no name gets one
abbrev pub named_param : ℕ → BtfParam → BtfParam
named_param name p = cond (not (p.btf_type == 0) && p.name_offset == 0) (record p { name_offset = name }) p

-- each parameter of a FuncProto does
abbrev pub named_params : ℕ → BtfType → List BtfParam → List BtfParam
named_params name proto ps =
    take proto.parts.start ps ++ (map (named_param name) (part ps proto.parts) ++ drop (end_of proto.parts) ps)

-- the entry i of the section is four bytes at 4 × i
abbrev pub placed : ℕ → ℕ → DataSecEntry
placed id i = record { btf_type = id; offset = 4 * i; size = 4 }

abbrev pub entry_at : List DataSecEntry → ℕ → DataSecEntry
entry_at es i = slice_index_or es i (record { btf_type = 0; offset = 0; size = 0 })

abbrev pub with_rows : List BtfType → List DataSecEntry → List BtfParam → Tables → Tables
with_rows ts es ps t = record t { types = ts; entries = es; params = ps }

-- ---- one entry, the i-th of the section and the row `at` of its table
-- of the Func of an id: the Func becomes global, its parameters get the placeholder's name, the entry becomes the placeholder p
abbrev pub fix_func : ℕ → ℕ → ℕ → ℕ → Tables → Tables
fix_func p at i id t =
    let proto = type_at t.types (type_at t.types id).size_or_type in
    with_rows (slice_set t.types id (global_func (type_at t.types id))) (slice_set t.entries at (placed p i))
    (cond (is_func_proto proto) (named_params (type_at t.types p).name_offset proto t.params) t.params) t

-- a Func has a placeholder in a collected object
abbrev pub fix_func_by : Option ℕ → ℕ → ℕ → ℕ → Tables → Tables
fix_func_by None at i id t = t
fix_func_by (Some p) at i id t = fix_func p at i id t

-- of the Var of an id
abbrev pub fix_var : ℕ → ℕ → ℕ → ℕ → Tables → Tables
fix_var int at i id t = with_rows (slice_set t.types id (global_var int (type_at t.types id))) (slice_set t.entries at (placed id i)) t.params t

abbrev pub fix_entry : Option ℕ → ℕ → ℕ → ℕ → Tables → Tables
fix_entry p int at i t =
    let id = (entry_at t.entries at).btf_type in
    cond (is_func (type_at t.types id)) (fix_func_by p at i id t) (fix_var int at i id t)

-- the entries of the section that starts at an entry, in order
abbrev pub fix_entries : Option ℕ → ℕ → ℕ → List ℕ → Tables → Tables
fix_entries p int start [] t = t
fix_entries p int start (i ∷ is) t = fix_entries p int start is (fix_entry p int (start + i) i t)

-- ---- the whole
-- the section d, with its entries; its size is 4 × its entries
abbrev pub fix_section : Option ℕ → ℕ → ℕ → Tables → Tables
fix_section p d int t =
    let row = type_at t.types d in
    let u = fix_entries p int row.parts.start (range_with_len 0 row.parts.len) t in
    with_rows (slice_set u.types d (sized (4 * row.parts.len) (type_at u.types d))) u.entries u.params u

abbrev pub fix_found : Option ℕ → Result (Option ℕ) Reason → ℕ × Tables → Tables
fix_found p (Err e) k = k.1
fix_found p (Ok None) k = k.1
fix_found p (Ok (Some d)) k = fix_section p d k.0 k.1

abbrev pub fixed_tables : Option ℕ → Tables → Tables
fixed_tables p t = fix_found p (section_of t) (with_int (int_of p t.types) t)

-- without externs nothing is done
abbrev pub fixed_for : List Extern → Option ℕ → Tables → Tables
fixed_for [] p t = t
fixed_for (x ∷ xs) p t = fixed_tables p t

abbrev pub fix_refusal_for : List Extern → Option ℕ → Tables → Option Reason
fix_refusal_for [] p t = None
fix_refusal_for (x ∷ xs) p t = cond (room_for_int (int_of p t.types) t) None (Some NoRoom)

abbrev pub fix_refusal : Object → Option Reason
fix_refusal o = fix_refusal_for o.externs o.placeholder o.tables

abbrev pub fixed : Object → Object
fixed o = record o { tables = fixed_for o.externs o.placeholder o.tables }
