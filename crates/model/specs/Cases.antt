-- Worked cases, by computing: a probe that declares a strong typeless variable and a weak function. Assumes nothing.
use Rattle.std.specs.Prelude.{◌≡◌, ℕ, ◌+◌, Bool, true, false, List, [], ◌∷◌, ◌++◌, map, length, take, replicate, ℤ, pos, negsuc, Some, None, Ok, Err, codes, Option}
use Rattle.std.specs.List.{range_with_len}
use Rattle.kallsyms.specs.Ends.{clean}
use Rattle.kallsyms.specs.declared.ends.Fault.TheVariants.{LineTooLong}
use Rattle.model.specs.Added.{int_row, placeholder_row}
use Rattle.model.specs.Chain.{no_row, resolve_type}
use Rattle.model.specs.Collect.{collect, collect_object, room_refusal, type_of}
use Rattle.model.specs.Externs.{Extern, Object}
use Rattle.model.specs.Laws.{address_of}
use Rattle.model.specs.Lines.{said}
use Rattle.model.specs.Lines.Line.{line, short}
use Rattle.model.specs.Names.{name_at, essential}
use Rattle.model.specs.Resolve.{left_unread}
use Rattle.model.specs.Runs.{State, Step, refusal, answer, answers, next, runs}
use Rattle.model.specs.Runs.Step.{resolve, fixup, relocate}
use Rattle.model.specs.Slots.{slots, slot_bytes, slots_bytes, dst_reg, src_reg}
use Rattle.model.specs.Spans.{no_parts}
use Rattle.model.specs.Tables.{Tables, Symbols, Catalogue}
use Rattle.model.specs.declared.btf.BtfHeader.{BtfHeader}
use Rattle.model.specs.declared.btf.BtfKind.{BtfKind}
use Rattle.model.specs.declared.btf.BtfKind.TheVariants as kinds
use Rattle.model.specs.declared.btf.BtfParam.{BtfParam}
use Rattle.model.specs.declared.btf.BtfType.{BtfType}
use Rattle.model.specs.declared.btf.ChainError as chains
use Rattle.model.specs.declared.btf.DataSecEntry.{DataSecEntry}
use Rattle.model.specs.declared.refusal.Call.TheVariants as made_by
use Rattle.model.specs.declared.refusal.Named.TheVariants.{Section, Entry}
use Rattle.model.specs.declared.refusal.Reason.TheVariants.{InvalidTable, UnknownBtfType, InvalidDatasec, InvalidStringOffset, InvalidSymbolName, MaximumTypeDepthReached, DuplicateName, NoRoom, TypedKsymRequiresKernelBtf, FunctionNotFound, IncompatibleFunctionSignature, VariableNotFound, IncompatibleVariableType, KallsymsAccessError, KallsymsParseError, AmbiguousResolution, InvalidRelocationOffset, UnknownSymbol, ExternNotFound, ExternWithoutId, UnresolvableSymbol}
use Rattle.model.specs.declared.rows.CatalogueKind.{CatalogueKind}
use Rattle.model.specs.declared.rows.CatalogueKind.TheVariants as catalogued
use Rattle.model.specs.declared.rows.Relocation.{Relocation}
use Rattle.model.specs.declared.rows.Slot.{Slot}
use Rattle.model.specs.declared.rows.Span.{Span}
use Rattle.model.specs.declared.rows.Symbol.{Symbol}
use Rattle.model.specs.declared.rows.SymbolKind.TheVariants as symbol_kinds

-- so many rows of a table from one on
abbrev pub span : ℕ → ℕ → Span
span start len = record { start = start; len = len }

-- ---- the probe's types
-- a row with a name, a type or size and its parts
abbrev pub row : BtfKind → ℕ → ℕ → Span → BtfType
row kind name link parts = record { kind = kind; name_offset = name; info = 0; size_or_type = link; «data» = 0; parts = parts }

abbrev pub alias : ℕ → BtfType
alias to = row kinds.Const 0 to no_parts

-- n aliases from row 0 on, each of the next row, and an Int
abbrev pub aliases : ℕ → List BtfType
aliases n = map (λ i. alias (i + 1)) (range_with_len 0 n) ++ int_row 0 ∷ []

abbrev pub entry : ℕ → DataSecEntry
entry id = record { btf_type = id; offset = 7; size = 7 }

abbrev pub strings : List ℕ
strings = codes "\0.ksyms\0card_q\0probe___v2\0"

-- the function probe___v2 with that info
abbrev pub probe_func : ℕ → BtfType
probe_func info = record (row kinds.Func 15 4 no_parts) { info = info }

-- the variable card_q once it is global, of an int row
abbrev pub global_card : ℕ → BtfType
global_card int = record (row kinds.Var 8 int no_parts) { «data» = 1 }

-- the section of these entries, the variable card_q of a type, the function probe___v2 and its parameters, and one more row
abbrev pub tables : List DataSecEntry → ℕ → BtfType → Tables
tables es void more =
    record {
      types = no_row
          ∷ row kinds.DataSec 1 9 (span 0 (length es))
          ∷ row kinds.Var 8 void no_parts
          ∷ probe_func 201326594
          ∷ row kinds.FuncProto 0 0 (span 0 3)
          ∷ more
          ∷ [];
      entries = es;
      params = record { name_offset = 0; btf_type = 4 } ∷ record { name_offset = 8; btf_type = 4 } ∷ record { name_offset = 0; btf_type = 0 } ∷ [];
      strings = strings;
      header = record { type_len = 160; str_off = 160; str_len = 26 };
    }

-- an Int of size 8
abbrev pub long : BtfType
long = record (row kinds.Int 0 8 no_parts) { info = 16777216; «data» = 64 }

abbrev pub both : List DataSecEntry
both = entry 2 ∷ entry 3 ∷ []

abbrev pub probe : Tables
probe = tables both 0 long

-- ---- its symbols
abbrev pub symbol : ℕ → Option Span → Bool → Symbol
symbol index name weak = record { index = index; name = name; section = None; is_definition = false; kind = symbol_kinds.Unknown; is_weak = weak }

abbrev pub card_name : Span
card_name = span 0 6

abbrev pub probe_name : Span
probe_name = span 6 10

abbrev pub other_name : Span
other_name = span 1 3

abbrev pub symbol_names : List ℕ
symbol_names = codes "card_qprobe___v2"

abbrev pub symbols : Symbols
symbols =
    record {
      rows = symbol 2 (Some card_name) false
          ∷ symbol 3 (Some probe_name) true
          ∷ symbol 4 None false
          ∷ symbol 5 (Some other_name) false
          ∷ record (symbol 6 (Some card_name) false) { section = Some 1 }
          ∷ record (symbol 7 (Some card_name) false) { is_definition = true }
          ∷ record (symbol 8 (Some card_name) false) { kind = symbol_kinds.Data }
          ∷ symbol 145483648 (Some probe_name) false
          ∷ [];
      names = symbol_names;
    }

abbrev pub no_symbols : Symbols
no_symbols = record { rows = []; names = [] }

-- ---- what collection makes of them
abbrev pub card : Extern
card = record { name = codes "card_q"; place = 8; entry = 2; func = false; typed = None; weak = false; resolved = false; id = None; address = None }

abbrev pub weak_probe : Extern
weak_probe = record { name = codes "probe___v2"; place = 15; entry = 3; func = true; typed = Some 4; weak = true; resolved = false; id = None; address = None }

abbrev pub collected : Object
collected =
    record {
      tables = record {
        types = probe.types ++ (record (row kinds.Int 26 4 no_parts) { info = 16777216; «data» = 16777248 }
            ∷ record (row kinds.Var 30 6 no_parts) { info = 234881024; «data» = 1 }
            ∷ []);
        entries = probe.entries;
        params = probe.params;
        strings = codes "\0.ksyms\0card_q\0probe___v2\0int\0ksym_func_placeholder\0";
        header = record { type_len = 192; str_off = 192; str_len = 52 };
      };
      externs = card ∷ weak_probe ∷ [];
      placeholder = Some 7;
    }

-- ---- its code: a load, its second slot, a call, and a load in the last slot
abbrev pub slot : ℕ → Slot
slot code = record { code = code; regs = 1; off = pos 5; imm = pos 7 }

abbrev pub code : List ℕ
code = slots_bytes (slot 0x18 ∷ slot 0 ∷ slot 0x85 ∷ slot 0x18 ∷ [])

abbrev pub start : State
start = record { object = collected; code = code }

-- with other externs
abbrev pub with_externs : List Extern → State
with_externs xs = record start { object = record collected { externs = xs } }

abbrev pub strong_probe : Extern
strong_probe = record weak_probe { weak = false }

abbrev pub weak_card : Extern
weak_card = record card { weak = true }

abbrev pub typed_card : Extern
typed_card = record card { typed = Some 5 }

-- typeless variables with the other name, and one that is resolved
abbrev pub weak_other : Extern
weak_other = record weak_probe { func = false; typed = None }

abbrev pub found_card : Extern
found_card = record card { resolved = true; address = Some 160 }

abbrev pub typed_other : Extern
typed_other = record weak_other { typed = Some 5; weak = false }

-- ---- calls
abbrev pub reading : List (List ℕ) → Step
reading ls = resolve None ls clean

-- a catalogue of one row
abbrev pub catalogue : List ℕ → CatalogueKind → Bool → Option Catalogue
catalogue name kind fits = Some (record { rows = record { name = span 0 (length name); kind = kind; id = 77; fits = fits } ∷ []; names = name })

abbrev pub at_a0 : List ℕ
at_a0 = codes "a0 d card_q"

abbrev pub at_b0 : List ℕ
at_b0 = codes "b0 d card_q"

abbrev pub at_zero : List ℕ
at_zero = codes "0 d card_q"

-- relocations of one function of n slots that begins at byte 16 of section 5
abbrev pub relocating : ℕ → List Relocation → Step
relocating n rs =
    relocate (record { functions = record { section = 5; address = 0; section_offset = 16; slots = span 0 n } ∷ []; relocations = rs; symbols = symbols })

abbrev pub at : ℕ → ℕ → Relocation
at offset symbol = record { section = 5; offset = offset; symbol = symbol }

abbrev pub patched_slot : ℕ → ℕ → ℤ → ℤ → Slot
patched_slot code regs off imm = record { code = code; regs = regs; off = off; imm = imm }

abbrev pub code_after : List Step → State → List Slot
code_after ss st = slots (runs ss st).code

-- two functions of two slots each, at bytes 16 and 32 of section 5
abbrev pub relocating_two : List Relocation → Step
relocating_two rs =
    relocate (record {
      functions = record { section = 5; address = 0; section_offset = 16; slots = span 0 2 } ∷ record { section = 5; address = 16; section_offset = 32; slots = span 2 2 } ∷ [];
      relocations = rs;
      symbols = symbols;
    })

-- a catalogue of two rows of one name
abbrev pub two_rows : Option Catalogue
two_rows =
    Some (record {
      rows = record { name = span 0 5; kind = catalogued.Func; id = 77; fits = true } ∷ record { name = span 0 5; kind = catalogued.Func; id = 78; fits = true } ∷ [];
      names = codes "probe";
    })

-- another section of one entry first, and the section.ksyms twice, of two entries and of one
abbrev pub sections : Tables
sections =
    record {
      types = no_row
          ∷ row kinds.DataSec 8 0 (span 0 1)
          ∷ row kinds.DataSec 1 0 (span 1 2)
          ∷ row kinds.DataSec 1 0 (span 3 1)
          ∷ row kinds.Var 8 0 no_parts
          ∷ [];
      entries = entry 9 ∷ entry 4 ∷ entry 8 ∷ entry 7 ∷ [];
      params = [];
      strings = strings;
      header = record { type_len = 0; str_off = 0; str_len = 26 };
    }

-- a function of that type in the section, and another FuncProto of one parameter
abbrev pub func_of : ℕ → State
func_of type =
    record {
      object = record {
        tables = record {
          types = no_row
              ∷ row kinds.DataSec 1 0 (span 0 1)
              ∷ row kinds.Func 15 type no_parts
              ∷ row kinds.FuncProto 0 0 (span 0 1)
              ∷ row kinds.FuncProto 0 0 (span 1 1)
              ∷ int_row 0
              ∷ placeholder_row 5 8
              ∷ [];
          entries = entry 2 ∷ [];
          params = record { name_offset = 0; btf_type = 5 } ∷ record { name_offset = 0; btf_type = 5 } ∷ [];
          strings = strings;
          header = record { type_len = 0; str_off = 0; str_len = 26 };
        };
        externs = record weak_probe { entry = 2; typed = Some type } ∷ [];
        placeholder = Some 6;
      };
      code = [];
    }

abbrev pub unnamed_param : BtfParam
unnamed_param = record { name_offset = 0; btf_type = 5 }

abbrev pub named_param : BtfParam
named_param = record { name_offset = 8; btf_type = 5 }

abbrev pub without_externs : Tables → Object
without_externs t = record { tables = t; externs = []; placeholder = None }

-- an object of the variable and no function
abbrev pub with_card : Tables → State
with_card t = record { object = record { tables = t; externs = card ∷ []; placeholder = None }; code = code }

-- the section of one entry, its variable, with one more type row
abbrev pub one_card : BtfType → Tables
one_card more = tables (entry 2 ∷ []) 0 more

-- its tables after a fixup with that int row, types at the end and strings at the end
abbrev pub card_fixed : ℕ → BtfType → List BtfType → List ℕ → BtfHeader → Object
card_fixed int more types more_strings header =
    record {
      tables = record {
        types = no_row
            ∷ row kinds.DataSec 1 4 (span 0 1)
            ∷ global_card int
            ∷ probe_func 201326594
            ∷ row kinds.FuncProto 0 0 (span 0 3)
            ∷ more
            ∷ types;
        entries = record { btf_type = 2; offset = 0; size = 4 } ∷ [];
        params = probe.params;
        strings = strings ++ more_strings;
        header = header;
      };
      externs = card ∷ [];
      placeholder = None;
    }

-- the tables, but the header
abbrev pub with_header : ℕ → ℕ → Tables → Tables
with_header types at t = record t { header = record { type_len = types; str_off = at; str_len = 26 } }

abbrev pub with_strings : List ℕ → Tables → Tables
with_strings ss t = record t { strings = ss }

abbrev pub with_types : List BtfType → Tables → Tables
with_types ts t = record t { types = ts }

pub record WorkedCases : Type 0 where
  -- chains of types
  pub modifiers_31 : resolve_type (aliases 31) 0 ≡ Ok 31
  pub modifiers_32 : resolve_type (aliases 32) 0 ≡ Err chains.TheVariants.MaximumTypeDepthReached
  pub of_itself : resolve_type (alias 0 ∷ []) 0 ≡ Err chains.TheVariants.MaximumTypeDepthReached
  pub no_such_row : resolve_type (alias 9 ∷ []) 0 ≡ Err chains.TheVariants.UnknownBtfType
  -- names
  pub name : name_at (codes "\0ab\0c") 1 ≡ Some (codes "ab")
  pub empty_name : name_at (codes "\0ab\0c") 0 ≡ Some []
  pub no_zero : name_at (codes "\0ab\0c") 4 ≡ None
  pub past_the_end : name_at (codes "\0ab\0c") 5 ≡ None
  pub flavour : essential (codes "open___v2") ≡ codes "open"
  pub four_bars : essential (codes "a____b") ≡ codes "a"
  pub bars_first : essential (codes "___x") ≡ []
  pub two_bars : essential (codes "a__b") ≡ codes "a__b"
  -- lines
  pub plus : said (codes "+ff d x") ≡ line (codes "x") (Some 255)
  pub seventeen : said (codes "00000000000000001 d x") ≡ line (codes "x") (Some 1)
  pub too_large : said (codes "10000000000000000 d x") ≡ line (codes "x") None
  pub plus_alone : said (codes "+ d x") ≡ line (codes "x") None
  pub prefixed : said (codes "0xff d x") ≡ line (codes "x") None
  pub module_name : said (codes "a0 d\tcard_q\t[module]") ≡ line (codes "card_q") (Some 160)
  pub two_fields : said (codes "a0 card_q ") ≡ short
  -- collection
  pub collects : collect probe symbols ≡ Ok collected
  pub takes_an_int : collect (tables both 0 (int_row 0)) symbols ≡ Ok (record {
    tables = record {
      types = (tables both 0 (int_row 0)).types ++ placeholder_row 5 26 ∷ [];
      entries = both;
      params = probe.params;
      strings = codes "\0.ksyms\0card_q\0probe___v2\0ksym_func_placeholder\0";
      header = record { type_len = 176; str_off = 176; str_len = 48 };
    };
    externs = card ∷ weak_probe ∷ [];
    placeholder = Some 6;
  })
  pub collects_once : collect_object collected symbols ≡ Err InvalidTable
  pub func_of_void : type_of (row kinds.Func 15 0 no_parts) 0 ≡ Some 0
  pub var_of_void : type_of (row kinds.Var 8 0 no_parts) 0 ≡ None
  pub no_section : collect (with_strings (codes "\0.ksymz\0card_q\0probe___v2\0") probe) no_symbols ≡ Ok (without_externs (with_strings (codes "\0.ksymz\0card_q\0probe___v2\0") probe))
  pub not_void : collect (with_types (long ∷ take 1 probe.types) probe) symbols ≡ Err InvalidTable
  pub section_unnamed : collect (with_strings [] probe) symbols ≡ Err (InvalidStringOffset (Section 1))
  pub unknown_first : collect (tables (entry 2 ∷ entry 9 ∷ []) 0 long) no_symbols ≡ Err (UnknownBtfType 1)
  pub up_to_func : collect (tables (entry 3 ∷ entry 9 ∷ []) 0 long) no_symbols ≡ Err (InvalidSymbolName 0)
  pub unknown_later : collect (tables (entry 3 ∷ entry 9 ∷ []) 0 long) symbols ≡ Err (UnknownBtfType 1)
  pub first_section : collect sections symbols ≡ Err (UnknownBtfType 2)
  pub neither : collect (tables (entry 4 ∷ []) 0 long) symbols ≡ Err (InvalidDatasec 0)
  pub unnamed : collect (with_strings (codes "\0.ksyms\0card_q") (one_card long)) no_symbols ≡ Err (InvalidStringOffset (Entry 0))
  pub no_symbol : collect (tables (entry 2 ∷ []) 5 (alias 5)) no_symbols ≡ Err (InvalidSymbolName 0)
  pub too_deep : collect (tables (entry 2 ∷ []) 5 (alias 5)) symbols ≡ Err (MaximumTypeDepthReached 0)
  pub chain_unknown : collect (tables (entry 2 ∷ []) 6 long) symbols ≡ Err (UnknownBtfType 0)
  pub twice : collect (tables (entry 2 ∷ entry 3 ∷ entry 2 ∷ []) 0 long) symbols ≡ Err (DuplicateName 2)
  pub twice_first : collect (with_header 4294967264 0 (tables (entry 2 ∷ entry 3 ∷ entry 2 ∷ []) 0 long)) symbols ≡ Err (DuplicateName 2)
  pub header_full : collect (with_header 4294967264 0 probe) symbols ≡ Err NoRoom
  pub offset_full : collect (with_header 0 4294967264 probe) symbols ≡ Err NoRoom
  pub header_just_fits : room_refusal true [] (with_header 4294967263 4294967263 probe) ≡ None
  pub externs_257 : room_refusal false (replicate 257 card) probe ≡ Some NoRoom
  pub externs_256 : room_refusal false (replicate 256 card) probe ≡ None
  -- resolution
  pub zero_first : answer (reading (at_zero ∷ at_a0 ∷ [])) start ≡ Ok tt
  pub first_address : address_of (codes "card_q") (next (reading (at_zero ∷ at_a0 ∷ [])) start) ≡ Some 160
  pub weak_zero : address_of (codes "probe___v2") (next (reading (at_a0 ∷ [])) start) ≡ Some 0
  pub clash : answer (reading (codes "zz d other" ∷ codes "short" ∷ at_a0 ∷ at_b0 ∷ [])) start ≡ Err (record { call = made_by.Resolve; reason = AmbiguousResolution 0 (span 8 6) 4 160 176 })
  pub clash_again : answers (reading (at_a0 ∷ at_b0 ∷ []) ∷ reading (at_a0 ∷ at_b0 ∷ []) ∷ []) start
      ≡ Err (record { call = made_by.Resolve; reason = AmbiguousResolution 0 (span 8 6) 2 160 176 }) ∷ Err (record { call = made_by.Resolve; reason = AmbiguousResolution 0 (span 8 6) 2 160 176 }) ∷ []
  pub clash_keeps : next (reading (at_a0 ∷ at_b0 ∷ [])) start ≡ start
  pub equal_again : answer (reading (at_a0 ∷ at_zero ∷ at_a0 ∷ [])) start ≡ Ok tt
  pub unread : refusal (reading (at_a0 ∷ codes "zz d card_q" ∷ [])) start ≡ Some (KallsymsParseError 0 2)
  pub unwanted : answer (reading (at_a0 ∷ codes "zz d other" ∷ [])) start ≡ Ok tt
  pub fault : refusal (resolve None (at_a0 ∷ []) (Err (LineTooLong 2))) start ≡ Some (KallsymsAccessError (LineTooLong 2))
  pub clash_before_fault : refusal (resolve None (at_a0 ∷ at_b0 ∷ []) (Err (LineTooLong 3))) start ≡ Some (AmbiguousResolution 0 (span 8 6) 2 160 176)
  pub fault_before_missing : refusal (resolve None [] (Err (LineTooLong 1))) start ≡ Some (KallsymsAccessError (LineTooLong 1))
  pub only_zero : refusal (reading (at_zero ∷ [])) start ≡ Some (VariableNotFound 0 (span 8 6))
  pub not_read_again : answers (reading (at_a0 ∷ []) ∷ resolve None (at_a0 ∷ at_b0 ∷ []) (Err (LineTooLong 3)) ∷ []) start ≡ Ok tt ∷ Ok tt ∷ []
  pub kept : address_of (codes "card_q") (runs (reading (at_a0 ∷ []) ∷ reading (at_b0 ∷ []) ∷ []) start) ≡ Some 160
  pub weak_missing : answer (reading []) (with_externs (weak_card ∷ [])) ≡ Ok tt
  pub weak_later : address_of (codes "card_q") (runs (reading [] ∷ reading (at_a0 ∷ []) ∷ []) (with_externs (weak_card ∷ []))) ≡ Some 160
  pub typed_first : refusal (resolve None [] (Err (LineTooLong 1))) (with_externs (card ∷ strong_probe ∷ [])) ≡ Some (TypedKsymRequiresKernelBtf 1)
  pub no_function : refusal (resolve (catalogue (codes "probe") catalogued.Var true) (at_a0 ∷ []) clean) (with_externs (strong_probe ∷ [])) ≡ Some (FunctionNotFound 0 (span 15 5))
  pub whole_name_not_found : refusal (resolve (catalogue (codes "probe___v2") catalogued.Func true) [] clean) (with_externs (strong_probe ∷ [])) ≡ Some (FunctionNotFound 0 (span 15 5))
  pub unfit_function : refusal (resolve (catalogue (codes "probe") catalogued.Func false) [] clean) (with_externs (strong_probe ∷ [])) ≡ Some (IncompatibleFunctionSignature 0 (span 15 5))
  pub no_variable : refusal (resolve (catalogue (codes "card") catalogued.Var true) [] clean) (with_externs (typed_card ∷ [])) ≡ Some (VariableNotFound 0 (span 8 6))
  pub unfit_variable : refusal (resolve (catalogue (codes "card_q") catalogued.Var false) [] clean) (with_externs (typed_card ∷ [])) ≡ Some (IncompatibleVariableType 0 (span 8 6))
  pub variable_by_whole_name : refusal (resolve (catalogue (codes "probe___v2") catalogued.Var true) [] clean) (with_externs (typed_other ∷ [])) ≡ None
  pub unfit_not_taken : (next (resolve (catalogue (codes "probe") catalogued.Func false) [] clean) (with_externs (weak_probe ∷ []))).object.externs ≡ record weak_probe { address = Some 0 } ∷ []
  pub resolved_not_judged : refusal (reading (at_a0 ∷ at_b0 ∷ [])) (with_externs (found_card ∷ weak_other ∷ [])) ≡ None
  pub bad_catalogue : refusal (resolve (Some (record { rows = record { name = span 1 1; kind = catalogued.Var; id = 0; fits = true } ∷ []; names = 0 ∷ [] })) [] clean) start ≡ Some InvalidTable
  pub left_over : left_unread None (at_a0 ∷ at_b0 ∷ at_zero ∷ []) (card ∷ []) ≡ at_zero ∷ []
  pub all_read : left_unread None (at_a0 ∷ at_zero ∷ []) (card ∷ []) ≡ []
  pub none_read : left_unread None (at_a0 ∷ []) (weak_probe ∷ []) ≡ at_a0 ∷ []
  pub first_of_two : refusal (resolve two_rows (at_a0 ∷ []) clean) start ≡ None
  pub tables_first : answer (reading (at_a0 ∷ at_b0 ∷ [])) (with_externs (card ∷ card ∷ [])) ≡ Err (record { call = made_by.Resolve; reason = InvalidTable })
  pub typed_refused_unread : left_unread None (at_a0 ∷ []) (card ∷ strong_probe ∷ []) ≡ at_a0 ∷ []
  -- fixup
  pub params_of_its_type : (next fixup (func_of 4)).object.tables.params ≡ unnamed_param ∷ named_param ∷ []
  pub params_of_another : (next fixup (func_of 3)).object.tables.params ≡ named_param ∷ unnamed_param ∷ []
  pub params_of_no_proto : (next fixup (func_of 1)).object.tables.params ≡ unnamed_param ∷ unnamed_param ∷ []
  pub fix_tables_first : answer fixup (with_externs (card ∷ card ∷ [])) ≡ Err (record { call = made_by.Fixup; reason = InvalidTable })
  pub adds_an_int : (next fixup (with_card (one_card long))).object ≡ card_fixed 6 long (int_row 26 ∷ []) (codes "int\0") (record { type_len = 176; str_off = 176; str_len = 30 })
  pub takes_the_int : (next fixup (with_card (one_card (int_row 0)))).object ≡ card_fixed 5 (int_row 0) [] [] (record { type_len = 160; str_off = 160; str_len = 26 })
  pub no_room_for_an_int : refusal fixup (record (with_card (with_header 4294967280 0 (one_card long))) { code = [] }) ≡ Some NoRoom
  pub room_for_an_int : refusal fixup (record (with_card (with_header 4294967279 0 (one_card long))) { code = [] }) ≡ None
  pub no_externs : next fixup (record { object = without_externs probe; code = [] }) ≡ record { object = without_externs probe; code = [] }
  pub fixes : (next fixup start).object ≡ record {
    tables = record {
      types = no_row
          ∷ row kinds.DataSec 1 8 (span 0 2)
          ∷ global_card 6
          ∷ probe_func 201326593
          ∷ row kinds.FuncProto 0 0 (span 0 3)
          ∷ long
          ∷ int_row 26
          ∷ placeholder_row 6 30
          ∷ [];
      entries = record { btf_type = 2; offset = 0; size = 4 } ∷ record { btf_type = 7; offset = 4; size = 4 } ∷ [];
      params = record { name_offset = 30; btf_type = 4 } ∷ record { name_offset = 8; btf_type = 4 } ∷ record { name_offset = 0; btf_type = 0 } ∷ [];
      strings = collected.tables.strings;
      header = collected.tables.header;
    };
    externs = card ∷ weak_probe ∷ [];
    placeholder = Some 7;
  }
  -- slots
  pub layout : slot_bytes (record { code = 0x18; regs = 0x21; off = negsuc 1; imm = pos 0x12345678 }) ≡ 0x18 ∷ 0x21 ∷ 0xfe ∷ 0xff ∷ 0x78 ∷ 0x56 ∷ 0x34 ∷ 0x12 ∷ []
  pub read_layout : slots (0x18 ∷ 0x21 ∷ 0xfe ∷ 0xff ∷ 0x78 ∷ 0x56 ∷ 0x34 ∷ 0x12 ∷ []) ≡ record { code = 0x18; regs = 0x21; off = negsuc 1; imm = pos 0x12345678 } ∷ []
  pub registers : (dst_reg (slot 0) ≡ 1) × (src_reg (slot 0) ≡ 0)
  -- relocation
  pub first_id : code_after (resolve two_rows (at_a0 ∷ []) clean ∷ relocating 4 (at 32 3 ∷ []) ∷ []) start ≡ slot 0x18 ∷ slot 0 ∷ patched_slot 0x85 33 (pos 0) (pos 77) ∷ slot 0x18 ∷ []
  pub id_before_zero : code_after (reading (at_a0 ∷ []) ∷ resolve two_rows [] clean ∷ relocating 4 (at 16 3 ∷ []) ∷ []) start ≡ patched_slot 0x18 49 (pos 5) (pos 77) ∷ patched_slot 0 1 (pos 5) (pos 0) ∷ slot 0x85 ∷ slot 0x18 ∷ []
  pub two_functions : code_after (relocating_two (at 16 3 ∷ at 32 3 ∷ []) ∷ []) start ≡ patched_slot 0x18 1 (pos 5) (pos 0) ∷ patched_slot 0 1 (pos 5) (pos 0) ∷ patched_slot 0x85 0 (pos 0) (pos 2002000003) ∷ slot 0x18 ∷ []
  pub other_section : code_after (relocating 4 (record { section = 6; offset = 32; symbol = 3 } ∷ []) ∷ []) start ≡ slot 0x18 ∷ slot 0 ∷ slot 0x85 ∷ slot 0x18 ∷ []
  pub patched_again : code_after (relocating 4 (at 32 3 ∷ []) ∷ resolve two_rows (at_a0 ∷ []) clean ∷ relocating 4 (at 32 3 ∷ []) ∷ []) start ≡ slot 0x18 ∷ slot 0 ∷ patched_slot 0x85 32 (pos 0) (pos 77) ∷ slot 0x18 ∷ []
  pub relocate_tables_first : answer (relocating 5 []) start ≡ Err (record { call = made_by.Relocate; reason = InvalidTable })
  pub load : code_after (reading (codes "ffffffff81234568 d card_q" ∷ []) ∷ relocating 4 (at 16 2 ∷ []) ∷ []) start
      ≡ patched_slot 0x18 1 (pos 5) (negsuc 2128394903) ∷ patched_slot 0 1 (pos 5) (negsuc 0) ∷ slot 0x85 ∷ slot 0x18 ∷ []
  pub load_halves : code_after (reading (codes "123456789abcdef0 d card_q" ∷ []) ∷ relocating 4 (at 16 2 ∷ []) ∷ []) start
      ≡ patched_slot 0x18 1 (pos 5) (negsuc 1698898191) ∷ patched_slot 0 1 (pos 5) (pos 305419896) ∷ slot 0x85 ∷ slot 0x18 ∷ []
  pub poison : code_after (relocating 4 (at 32 3 ∷ []) ∷ []) start ≡ slot 0x18 ∷ slot 0 ∷ patched_slot 0x85 0 (pos 0) (pos 2002000003) ∷ slot 0x18 ∷ []
  pub poison_wraps : code_after (relocating 4 (at 32 145483648 ∷ []) ∷ []) start ≡ slot 0x18 ∷ slot 0 ∷ patched_slot 0x85 0 (pos 0) (negsuc 2147483647) ∷ slot 0x18 ∷ []
  pub call : code_after (resolve (catalogue (codes "probe") catalogued.Func true) (at_a0 ∷ []) clean ∷ relocating 4 (at 32 3 ∷ []) ∷ []) start ≡ slot 0x18 ∷ slot 0 ∷ patched_slot 0x85 33 (pos 0) (pos 77) ∷ slot 0x18 ∷ []
  pub load_id : code_after (resolve (catalogue (codes "probe") catalogued.Func true) (at_a0 ∷ []) clean ∷ relocating 4 (at 16 3 ∷ []) ∷ []) start ≡ patched_slot 0x18 49 (pos 5) (pos 77) ∷ patched_slot 0 1 (pos 5) (pos 0) ∷ slot 0x85 ∷ slot 0x18 ∷ []
  pub load_zero : code_after (relocating 4 (at 16 3 ∷ []) ∷ []) start ≡ patched_slot 0x18 1 (pos 5) (pos 0) ∷ patched_slot 0 1 (pos 5) (pos 0) ∷ slot 0x85 ∷ slot 0x18 ∷ []
  pub last_slot : refusal (relocating 4 (at 32 3 ∷ at 40 3 ∷ [])) start ≡ Some (InvalidRelocationOffset 1)
  pub last_slot_kept : code_after (relocating 4 (at 32 3 ∷ at 40 3 ∷ []) ∷ []) start ≡ slot 0x18 ∷ slot 0 ∷ patched_slot 0x85 0 (pos 0) (pos 2002000003) ∷ slot 0x18 ∷ []
  pub last_slot_of_a_function : refusal (relocating 1 (at 16 3 ∷ [])) start ≡ Some (InvalidRelocationOffset 0)
  pub last_slot_of_a_function_kept : code_after (relocating 1 (at 16 3 ∷ []) ∷ []) start ≡ slot 0x18 ∷ slot 0 ∷ slot 0x85 ∷ slot 0x18 ∷ []
  pub outside_granted : answer (relocating 4 (at 8 3 ∷ at 48 3 ∷ [])) start ≡ Ok tt
  pub outside : code_after (relocating 4 (at 8 3 ∷ at 48 3 ∷ []) ∷ []) start ≡ slot 0x18 ∷ slot 0 ∷ slot 0x85 ∷ slot 0x18 ∷ []
  pub off_slot_first : refusal (relocating 4 (at 17 99 ∷ [])) start ≡ Some (InvalidRelocationOffset 0)
  pub unknown_symbol : refusal (relocating 4 (at 24 99 ∷ [])) start ≡ Some (UnknownSymbol 0)
  pub skipped : answer (relocating 4 (at 24 4 ∷ [])) start ≡ Ok tt
  pub skips_a_section : answer (relocating 4 (at 24 6 ∷ [])) start ≡ Ok tt
  pub skips_a_definition : answer (relocating 4 (at 24 7 ∷ [])) start ≡ Ok tt
  pub skips_another_kind : answer (relocating 4 (at 24 8 ∷ [])) start ≡ Ok tt
  pub no_extern : refusal (relocating 4 (at 24 5 ∷ [])) start ≡ Some (ExternNotFound 0 other_name)
  pub neither_call_nor_load : refusal (relocating 4 (at 24 2 ∷ [])) start ≡ Some (InvalidRelocationOffset 0)
  pub without_id : (runs (reading (at_a0 ∷ []) ∷ []) start).object.externs ≡ found_card ∷ record weak_probe { address = Some 0 } ∷ []
  pub call_without_id : refusal (relocating 4 (at 32 2 ∷ [])) (runs (reading (at_a0 ∷ []) ∷ []) start) ≡ Some (ExternWithoutId 0 card_name)
  pub unresolved_load : refusal (relocating 4 (at 40 2 ∷ [])) start ≡ Some (UnresolvableSymbol 0 card_name)
  pub unresolved_call : refusal (relocating 4 (at 32 2 ∷ [])) start ≡ Some (UnresolvableSymbol 0 card_name)
  pub half_a_slot : refusal (relocating 4 []) (record { object = collected; code = 0 ∷ code }) ≡ Some InvalidTable
  pub out_of_order : refusal (relocating 4 (at 24 2 ∷ at 16 2 ∷ [])) start ≡ Some InvalidTable
