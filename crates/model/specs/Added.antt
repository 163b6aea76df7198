-- The rows that collection and fixup add, and the room for them. Assumes nothing.
use Rattle.std.specs.Prelude.{ℕ, ◌+◌, ◌*◌, ◌^◌, Bool, true, ◌&&◌, List, [], ◌∷◌, ◌++◌, length, Some, None, codes, Option, ◌==◌, nat_le, nat_lt}
use Rattle.model.specs.BtfNumbers.{INT_INFO, INT_DATA, VAR_INFO, BTF_VAR_GLOBAL, ROW_BYTES}
use Rattle.model.specs.Kinds.{is_int}
use Rattle.model.specs.Lists.{lookup, number_of}
use Rattle.model.specs.Spans.{no_parts}
use Rattle.model.specs.Tables.{Tables, MAX_ROWS, MAX_NAMES}
use Rattle.model.specs.declared.btf.BtfKind.TheVariants as kinds
use Rattle.model.specs.declared.btf.BtfType.{BtfType}

-- ---- the rows, each with the offset of its name
-- an Int of four bytes, signed
abbrev pub int_row : ℕ → BtfType
int_row name = record { kind = kinds.Int; name_offset = name; info = INT_INFO; size_or_type = 4; «data» = INT_DATA; parts = no_parts }

-- a global Var of that type
abbrev pub placeholder_row : ℕ → ℕ → BtfType
placeholder_row int name = record { kind = kinds.Var; name_offset = name; info = VAR_INFO; size_or_type = int; «data» = BTF_VAR_GLOBAL; parts = no_parts }

abbrev pub int_name : List ℕ
int_name = codes "int\0"

abbrev pub placeholder_name : List ℕ
placeholder_name = codes "ksym_func_placeholder\0"

-- ---- the tables with one row more, whose name is added to the strings
abbrev pub added : (ℕ → BtfType) → List ℕ → Tables → Tables
added row name t =
    record t {
      types = t.types ++ row (length t.strings) ∷ [];
      strings = t.strings ++ name;
      header = record { type_len = t.header.type_len + ROW_BYTES; str_off = t.header.str_off + ROW_BYTES; str_len = length (t.strings ++ name) };
    }

-- the first Int of size 4
abbrev pub is_int_of_four : BtfType → Bool
is_int_of_four t = is_int t && t.size_or_type == 4

abbrev pub first_int : List BtfType → Option ℕ
first_int ts = number_of (lookup is_int_of_four 0 ts)

-- the id of an int row that is known, or of a new one, and the tables that have it
abbrev pub with_int : Option ℕ → Tables → ℕ × Tables
with_int (Some int) t = (int, t)
with_int None t = (length t.types, added int_row int_name t)

-- the id of a new placeholder of that type, and the tables that have it
abbrev pub with_placeholder : ℕ × Tables → ℕ × Tables
with_placeholder (int, t) = (length t.types, added (placeholder_row int) placeholder_name t)

-- ---- the room for so many rows more and so many bytes of names
abbrev pub room_for : ℕ → ℕ → Tables → Bool
room_for rows bytes t =
    (nat_le (length t.types + rows) MAX_ROWS && nat_le (length t.strings + bytes) MAX_NAMES)
    && (nat_lt (t.header.type_len + rows * ROW_BYTES) (2 ^ 32) && nat_lt (t.header.str_off + rows * ROW_BYTES) (2 ^ 32))

-- for an int row, if none is known
abbrev pub room_for_int : Option ℕ → Tables → Bool
room_for_int (Some int) t = true
room_for_int None t = room_for 1 (length int_name) t

-- for a placeholder, and for an int row before it if none is known
abbrev pub room_for_placeholder : Option ℕ → Tables → Bool
room_for_placeholder (Some int) t = room_for 1 (length placeholder_name) t
room_for_placeholder None t = room_for 2 (length int_name + length placeholder_name) t
