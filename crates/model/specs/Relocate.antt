-- What relocation answers and makes of the slots. Assumes nothing.
use Rattle.std.specs.Prelude.{ℕ, suc, ◌+◌, ◌-◌, ◌*◌, ◌/◌, ◌%◌, Bool, true, false, cond, not, ◌&&◌, List, [], ◌∷◌, ◌++◌, map, length, ℤ, pos, is_some, Some, None, Ok, Err, Option, Result, ◌==◌, nat_le, nat_lt, slice_index_or, slice_set}
use Rattle.std.specs.List.{list_all}
use Rattle.model.specs.Externs.{Extern, extern_named}
use Rattle.model.specs.Lists.{ascends, earlier, lookup}
use Rattle.model.specs.Slots.{LOAD, CALL, BPF_PSEUDO_BTF_ID, BPF_PSEUDO_KFUNC_CALL, whole_slots, with_src, with_imm, signed, low, high}
use Rattle.model.specs.Spans.{part, end_of, follow}
use Rattle.model.specs.Tables.{Symbols, MAX_ROWS, MAX_FUNCTIONS, MAX_SECTION_OFFSET, symbols_fit}
use Rattle.model.specs.declared.rows.Span.{Span}
use Rattle.model.specs.declared.rows.Symbol.{Symbol}
use Rattle.model.specs.declared.rows.SymbolKind.{SymbolKind}
use Rattle.model.specs.declared.rows.SymbolKind.TheVariants as symbol_kinds
use Rattle.model.specs.declared.rows.Slot.{Slot}
use Rattle.model.specs.declared.rows.Function.{Function}
use Rattle.model.specs.declared.rows.Relocation.{Relocation}
use Rattle.model.specs.declared.refusal.Reason.{Reason}
use Rattle.model.specs.declared.refusal.Reason.TheVariants.{InvalidRelocationOffset, UnknownSymbol, ExternNotFound, ExternWithoutId, UnresolvableSymbol}

-- ---- the tables of a program
pub record Program : Type 0 where
  pub functions : List Function
  pub relocations : List Relocation
  pub symbols : Symbols

-- the slots of each function
abbrev pub function_slots : List Function → List Span
function_slots fs = map (λ f. f.slots) fs

-- functions are well-formed with code of n slots
abbrev pub functions_fit : List Function → ℕ → Bool
functions_fit fs n =
    nat_le (length fs) MAX_FUNCTIONS
    && (list_all (λ f. nat_le f.section_offset MAX_SECTION_OFFSET) fs
    && (ascends (λ f g. earlier (f.section, f.address) (g.section, g.address)) fs && follow 0 (function_slots fs) n))

abbrev pub relocations_fit : List Relocation → Bool
relocations_fit rs = nat_le (length rs) MAX_ROWS && ascends (λ r s. earlier (r.section, r.offset) (s.section, s.offset)) rs

-- the bytes of the code are whole slots, at most 65,536
abbrev pub code_fits : List ℕ → Bool
code_fits bs = whole_slots bs && nat_le (length bs / 8) MAX_ROWS

-- a program is well-formed with its code
abbrev pub program_fits : Program → List ℕ → Bool
program_fits p bs = code_fits bs && (symbols_fit p.symbols && (relocations_fit p.relocations && functions_fit p.functions (length bs / 8)))

-- ---- which relocations are taken
-- a relocation row that points into a function, with its number
pub record Taken : Type 0 where
  pub function : Function
  pub row : ℕ
  pub relocation : Relocation

abbrev pub points_into : Function → Relocation → Bool
points_into f r =
    (r.section == f.section) && (nat_le f.section_offset r.offset && nat_lt r.offset (f.section_offset + f.slots.len * 8))

abbrev pub taken_in : Function → ℕ → List Relocation → List Taken
taken_in f n [] = []
taken_in f n (r ∷ rs) = cond (points_into f r) (record { function = f; row = n; relocation = r } ∷ taken_in f (suc n) rs) (taken_in f (suc n) rs)

-- functions in row order, and within one the relocations in row order, which is offset order
abbrev pub taken : List Function → List Relocation → List Taken
taken [] rs = []
taken (f ∷ fs) rs = taken_in f 0 rs ++ taken fs rs

-- whether it points at the first byte of a slot
abbrev pub on_slot : Taken → Bool
on_slot t = (t.relocation.offset - t.function.section_offset) % 8 == 0

-- the slot that it points at, and whether the function has a next one
abbrev pub slot_index : Taken → ℕ
slot_index t = t.function.slots.start + (t.relocation.offset - t.function.section_offset) / 8

abbrev pub has_next : Taken → Bool
has_next t = nat_lt (slot_index t + 1) (end_of t.function.slots)

-- ---- its symbol
abbrev pub symbol_of : Symbols → Taken → Option (ℕ × Symbol)
symbol_of ss t = lookup (λ s. s.index == t.relocation.symbol) 0 ss.rows

abbrev pub is_unknown : SymbolKind → Bool
is_unknown symbol_kinds.Unknown = true
is_unknown symbol_kinds.Text = false
is_unknown symbol_kinds.Data = false
is_unknown symbol_kinds.Section = false
is_unknown symbol_kinds.File = false
is_unknown symbol_kinds.Label = false
is_unknown symbol_kinds.Tls = false

-- the place of the name of a symbol that is extern: named, no section, no definition, kind Unknown
abbrev pub extern_name : Symbol → Option Span
extern_name s = cond (not (is_some s.section) && (not s.is_definition && is_unknown s.kind)) s.name None

-- ---- what a slot gets
abbrev pub slot_at : List Slot → ℕ → Slot
slot_at code i = slice_index_or code i (record { code = 0; regs = 0; off = pos 0; imm = pos 0 })

abbrev pub is_call : Slot → Bool
is_call s = s.code == CALL

abbrev pub is_load : Slot → Bool
is_load s = s.code == LOAD

-- a call with an id
abbrev pub kernel_call : ℕ → Slot → Slot
kernel_call id s = record (with_src BPF_PSEUDO_KFUNC_CALL s) { off = pos 0; imm = signed id }

-- a weak call without one: the immediate is 2002000000 plus the symbol's number, and wraps in 32 signed bits
abbrev pub POISON_CALL_KFUNC_BASE : ℕ
POISON_CALL_KFUNC_BASE = 2002000000

abbrev pub poison_call : ℕ → Slot
poison_call symbol = record { code = CALL; regs = 0; off = pos 0; imm = signed (POISON_CALL_KFUNC_BASE + symbol) }

-- the value of a load: source register, low half and high half; the first that fits of an id, an address, a weak extern
abbrev pub load_value : Option ℕ → Option ℕ → Bool → Option (ℕ × ℤ × ℤ)
load_value (Some id) address weak = Some (BPF_PSEUDO_BTF_ID, signed id, pos 0)
load_value None (Some a) weak = Some (0, low a, high a)
load_value None None true = Some (0, pos 0, pos 0)
load_value None None false = None

-- ---- one relocation
-- a call through t of an extern with that id, resolved mark and weak mark, whose name stands at a place
abbrev pub call_slot : Option ℕ → Bool → Bool → Span → Taken → Slot → Result Slot Reason
call_slot (Some id) resolved weak name t s = Ok (kernel_call id s)
call_slot None true weak name t s = Err (ExternWithoutId t.row name)
call_slot None false true name t s = Ok (poison_call t.relocation.symbol)
call_slot None false false name t s = Err (UnresolvableSymbol t.row name)

abbrev pub with_call : List Slot → Taken → Result Slot Reason → Result (List Slot) Reason
with_call code t (Ok s) = Ok (slice_set code (slot_index t) s)
with_call code t (Err e) = Err e

-- the halves go into the immediates of the slot and of the next one
abbrev pub with_pair : List Slot → ℕ → ℕ × ℤ × ℤ → List Slot
with_pair code i v = slice_set (slice_set code i (with_imm v.1 (with_src v.0 (slot_at code i)))) (i + 1) (with_imm v.2 (slot_at code (i + 1)))

abbrev pub with_load : List Slot → Span → Taken → Option (ℕ × ℤ × ℤ) → Result (List Slot) Reason
with_load code name t None = Err (UnresolvableSymbol t.row name)
with_load code name t (Some v) = cond (has_next t) (Ok (with_pair code (slot_index t) v)) (Err (InvalidRelocationOffset t.row))

-- of an extern: the slot is a call or a load
abbrev pub patch_extern : Extern → Span → Taken → List Slot → Result (List Slot) Reason
patch_extern x name t code =
    let s = slot_at code (slot_index t) in
    cond (is_call s) (with_call code t (call_slot x.id x.resolved x.weak name t s))
    (cond (is_load s) (with_load code name t (load_value x.id x.address x.weak)) (Err (InvalidRelocationOffset t.row)))

-- an extern has the symbol's name
abbrev pub patch_found : Option (ℕ × Extern) → Span → Taken → List Slot → Result (List Slot) Reason
patch_found None name t code = Err (ExternNotFound t.row name)
patch_found (Some k) name t code = patch_extern k.1 name t code

-- a symbol that is not extern is skipped
abbrev pub patch_name : List Extern → List ℕ → Option Span → Taken → List Slot → Result (List Slot) Reason
patch_name xs names None t code = Ok code
patch_name xs names (Some name) t code = patch_found (extern_named (part names name) xs) name t code

-- the symbol is known
abbrev pub patch_symbol : List Extern → List ℕ → Option (ℕ × Symbol) → Taken → List Slot → Result (List Slot) Reason
patch_symbol xs names None t code = Err (UnknownSymbol t.row)
patch_symbol xs names (Some k) t code = patch_name xs names (extern_name k.1) t code

-- it is on a slot
abbrev pub patch : List Extern → Symbols → Taken → List Slot → Result (List Slot) Reason
patch xs ss t code = cond (on_slot t) (patch_symbol xs ss.names (symbol_of ss t) t code) (Err (InvalidRelocationOffset t.row))

-- ---- all of them: the slots at the end, and the refusal that ended it, which keeps what was finished
abbrev pub patched : List Extern → Symbols → List Taken → List Slot → List Slot × Option Reason
patched xs ss [] code = (code, None)
patched xs ss (t ∷ ts) code = elim (patch xs ss t code) [ Ok new ↦ patched xs ss ts new | Err e ↦ (code, Some e) ]

abbrev pub relocated : List Extern → Program → List Slot → List Slot × Option Reason
relocated xs p code = patched xs p.symbols (taken p.functions p.relocations) code
