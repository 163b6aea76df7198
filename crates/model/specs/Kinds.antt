-- The kinds of types, by number, from the kernel's BTF documentation. Assumes nothing.
use Rattle.std.specs.Prelude.{ℕ, Bool, ◌&&◌, ◌||◌, ◌==◌, nat_le}
use Rattle.model.specs.declared.btf.BtfKind.{BtfKind}
use Rattle.model.specs.declared.btf.BtfKind.TheVariants as kinds
use Rattle.model.specs.declared.btf.BtfType.{BtfType}

-- the number of a kind
abbrev pub kind_number : BtfKind → ℕ
kind_number kinds.Unknown = 0
kind_number kinds.Int = 1
kind_number kinds.Ptr = 2
kind_number kinds.Array = 3
kind_number kinds.Struct = 4
kind_number kinds.Union = 5
kind_number kinds.Enum = 6
kind_number kinds.Fwd = 7
kind_number kinds.Typedef = 8
kind_number kinds.Volatile = 9
kind_number kinds.Const = 10
kind_number kinds.Restrict = 11
kind_number kinds.Func = 12
kind_number kinds.FuncProto = 13
kind_number kinds.Var = 14
kind_number kinds.DataSec = 15
kind_number kinds.Float = 16
kind_number kinds.DeclTag = 17
kind_number kinds.TypeTag = 18
kind_number kinds.Enum64 = 19

-- whether a row has the kind of that number
abbrev pub of_kind : ℕ → BtfType → Bool
of_kind n t = kind_number t.kind == n

abbrev pub is_int : BtfType → Bool
is_int t = of_kind 1 t

abbrev pub is_func : BtfType → Bool
is_func t = of_kind 12 t

abbrev pub is_func_proto : BtfType → Bool
is_func_proto t = of_kind 13 t

abbrev pub is_var : BtfType → Bool
is_var t = of_kind 14 t

abbrev pub is_data_sec : BtfType → Bool
is_data_sec t = of_kind 15 t

-- a Typedef, Volatile, Const, Restrict or TypeTag passes on to another type
abbrev pub passes_on : BtfType → Bool
passes_on t = (nat_le 8 (kind_number t.kind) && nat_le (kind_number t.kind) 11) || of_kind 18 t
