-- The texts of refusals for people. Assumes nothing.
use Rattle.std.specs.Prelude.{ℕ, List, [], ◌++◌, Some, None, codes, decimal, Option}
use Rattle.texts.specs.Hex.{hex_text}
use Rattle.kallsyms.specs.Faults.{fault_text}
use Rattle.model.specs.Refusals.{told}
use Rattle.model.specs.declared.refusal.Call.{Call}
use Rattle.model.specs.declared.refusal.Call.TheVariants as made_by
use Rattle.model.specs.declared.refusal.Named.{Named}
use Rattle.model.specs.declared.refusal.Named.TheVariants.{Section, Entry}
use Rattle.model.specs.declared.refusal.Reason.{Reason}
use Rattle.model.specs.declared.refusal.Reason.TheVariants as why
use Rattle.model.specs.declared.refusal.Refusal.{Refusal}

-- the name of a call
abbrev pub call_name : Call → List ℕ
call_name made_by.Collect = codes "collect_ksyms_from_btf"
call_name made_by.Resolve = codes "resolve_externs"
call_name made_by.Fixup = codes "fixup_ksyms_datasec"
call_name made_by.Relocate = codes "relocate_externs"

-- the name of a reason
abbrev pub reason_name : Reason → List ℕ
reason_name why.InvalidTable = codes "InvalidTable"
reason_name (why.UnknownBtfType row) = codes "UnknownBtfType"
reason_name (why.InvalidDatasec row) = codes "InvalidDatasec"
reason_name (why.InvalidStringOffset of) = codes "InvalidStringOffset"
reason_name (why.InvalidSymbolName row) = codes "InvalidSymbolName"
reason_name (why.MaximumTypeDepthReached row) = codes "MaximumTypeDepthReached"
reason_name (why.DuplicateName row) = codes "DuplicateName"
reason_name why.NoRoom = codes "NoRoom"
reason_name (why.TypedKsymRequiresKernelBtf row) = codes "TypedKsymRequiresKernelBtf"
reason_name (why.FunctionNotFound row name) = codes "FunctionNotFound"
reason_name (why.IncompatibleFunctionSignature row name) = codes "IncompatibleFunctionSignature"
reason_name (why.VariableNotFound row name) = codes "VariableNotFound"
reason_name (why.IncompatibleVariableType row name) = codes "IncompatibleVariableType"
reason_name (why.KallsymsAccessError fault) = codes "KallsymsAccessError"
reason_name (why.KallsymsParseError row line) = codes "KallsymsParseError"
reason_name (why.AmbiguousResolution row name line a b) = codes "AmbiguousResolution"
reason_name (why.InvalidRelocationOffset row) = codes "InvalidRelocationOffset"
reason_name (why.UnknownSymbol row) = codes "UnknownSymbol"
reason_name (why.ExternNotFound row name) = codes "ExternNotFound"
reason_name (why.ExternWithoutId row name) = codes "ExternWithoutId"
reason_name (why.UnresolvableSymbol row name) = codes "UnresolvableSymbol"
reason_name why.OutOfMemory = codes "OutOfMemory"

-- a row of a table
abbrev pub named_text : Named → List ℕ
named_text (Section row) = codes "type " ++ decimal row
named_text (Entry row) = codes "entry " ++ decimal row

-- the values of a reason
abbrev pub values_text : Reason → List ℕ
values_text why.InvalidTable = []
values_text (why.UnknownBtfType row) = codes ", entry " ++ decimal row
values_text (why.InvalidDatasec row) = codes ", entry " ++ decimal row
values_text (why.InvalidStringOffset of) = codes ", " ++ named_text of
values_text (why.InvalidSymbolName row) = codes ", entry " ++ decimal row
values_text (why.MaximumTypeDepthReached row) = codes ", entry " ++ decimal row
values_text (why.DuplicateName row) = codes ", entry " ++ decimal row
values_text why.NoRoom = []
values_text (why.TypedKsymRequiresKernelBtf row) = codes ", extern " ++ decimal row
values_text (why.FunctionNotFound row name) = codes ", extern " ++ decimal row
values_text (why.IncompatibleFunctionSignature row name) = codes ", extern " ++ decimal row
values_text (why.VariableNotFound row name) = codes ", extern " ++ decimal row
values_text (why.IncompatibleVariableType row name) = codes ", extern " ++ decimal row
values_text (why.KallsymsAccessError fault) = codes ", " ++ fault_text fault
values_text (why.KallsymsParseError row line) = codes ", extern " ++ (decimal row ++ (codes ", line " ++ decimal line))
values_text (why.AmbiguousResolution row name line a b) = codes ", extern " ++ (decimal row ++ (codes ", " ++ (hex_text a ++ (codes " and on line " ++ (decimal line ++ (codes " " ++ hex_text b))))))
values_text (why.InvalidRelocationOffset row) = codes ", relocation " ++ decimal row
values_text (why.UnknownSymbol row) = codes ", relocation " ++ decimal row
values_text (why.ExternNotFound row name) = codes ", relocation " ++ decimal row
values_text (why.ExternWithoutId row name) = codes ", relocation " ++ decimal row
values_text (why.UnresolvableSymbol row name) = codes ", relocation " ++ decimal row
values_text why.OutOfMemory = []

-- the name and the values after it
abbrev pub reason_text : Reason → List ℕ
reason_text r = reason_name r ++ values_text r

-- the number, and the name and the values after it
abbrev pub numbered_text : Option ℕ → List ℕ → List ℕ
numbered_text None rest = rest
numbered_text (Some n) rest = codes "refused " ++ (decimal n ++ (codes " " ++ rest))

-- the call, the number and the name of the reason, and its values
abbrev pub refusal_text : Refusal → List ℕ
refusal_text r = call_name r.call ++ (codes ": " ++ numbered_text (told r.reason).number (reason_text r.reason))
