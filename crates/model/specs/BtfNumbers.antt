-- What the numbers of a type row mean, from the kernel's BTF documentation. Assumes nothing.
use Rattle.std.specs.Prelude.{ℕ, ◌+◌, ◌-◌, ◌/◌, ◌%◌, ◌^◌}

-- ---- the info of a type: bits 0 to 15 count its parts, bits 24 to 28 are its kind, bit 31 is a flag
abbrev pub info_vlen : ℕ → ℕ
info_vlen info = info % 2 ^ 16

abbrev pub info_kind : ℕ → ℕ
info_kind info = info / 2 ^ 24 % 2 ^ 5

abbrev pub info_flag : ℕ → ℕ
info_flag info = info / 2 ^ 31 % 2

-- ---- the data of an Int: bits 0 to 7 count its bits, bits 16 to 23 are its offset in bits, bits 24 to 27 its encoding
abbrev pub int_bits : ℕ → ℕ
int_bits d = d % 2 ^ 8

abbrev pub int_offset : ℕ → ℕ
int_offset d = d / 2 ^ 16 % 2 ^ 8

abbrev pub int_encoding : ℕ → ℕ
int_encoding d = d / 2 ^ 24 % 2 ^ 4

-- the encoding of an Int that is signed
abbrev pub BTF_INT_SIGNED : ℕ
BTF_INT_SIGNED = 1

-- ---- linkages: of a Var in its data, of a Func in the count of parts of its info
abbrev pub BTF_VAR_GLOBAL : ℕ
BTF_VAR_GLOBAL = 1

abbrev pub BTF_FUNC_GLOBAL : ℕ
BTF_FUNC_GLOBAL = 1

-- the info of a Func with another linkage: the low 16 bits become the linkage, the others stay
abbrev pub with_linkage : ℕ → ℕ → ℕ
with_linkage linkage info = info - info % 2 ^ 16 + linkage

-- ---- what we make: an Int of four bytes, signed, and a Var
abbrev pub INT_INFO : ℕ
INT_INFO = 16777216

abbrev pub INT_DATA : ℕ
INT_DATA = 16777248

abbrev pub VAR_INFO : ℕ
VAR_INFO = 234881024

-- the bytes that a type takes in the type section: twelve and four more of an Int or a Var
abbrev pub ROW_BYTES : ℕ
ROW_BYTES = 16
