-- The end of a chain of types. Assumes nothing.
use Rattle.std.specs.Prelude.{ℕ, zero, suc, cond, List, length, Ok, Err, Result, nat_lt, slice_index_or}
use Rattle.model.specs.Kinds.{passes_on}
use Rattle.model.specs.Spans.{no_parts}
use Rattle.model.specs.declared.btf.BtfKind.TheVariants as kinds
use Rattle.model.specs.declared.btf.BtfType.{BtfType}
use Rattle.model.specs.declared.btf.ChainError.{ChainError}
use Rattle.model.specs.declared.btf.ChainError.TheVariants.{UnknownBtfType, MaximumTypeDepthReached}

-- what stands for a row that is not there
abbrev pub no_row : BtfType
no_row = record { kind = kinds.Unknown; name_offset = 0; info = 0; size_or_type = 0; «data» = 0; parts = no_parts }

abbrev pub type_at : List BtfType → ℕ → BtfType
type_at ts id = slice_index_or ts id no_row

-- the first row from an id on that does not pass on to another type, if it is among so many rows
unfoldable pub chain : ℕ → List BtfType → ℕ → Result ℕ ChainError
chain zero ts id = Err MaximumTypeDepthReached
chain (suc n) ts id =
    cond (nat_lt id (length ts)) (cond (passes_on (type_at ts id)) (chain n ts (type_at ts id).size_or_type) (Ok id)) (Err UnknownBtfType)

-- among up to 32 rows
abbrev pub resolve_type : List BtfType → ℕ → Result ℕ ChainError
resolve_type ts id = chain 32 ts id
