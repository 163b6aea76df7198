-- The number and the values of each refusal. Assumes nothing.
use Rattle.std.specs.Prelude.{ℕ, Some, None}
use Rattle.model.specs.declared.rows.Span.{Span}
use Rattle.model.specs.declared.refusal.Named.{Named}
use Rattle.model.specs.declared.refusal.Named.TheVariants.{Section, Entry}
use Rattle.model.specs.declared.refusal.Told.{Told}
use Rattle.model.specs.declared.refusal.Reason.{Reason}
use Rattle.model.specs.declared.refusal.Reason.TheVariants as why

-- what a refusal tells that has neither a number nor a value; with a number, with a row too, and with a row and a name
abbrev pub nothing : Told
nothing = record { number = None; row = None; name = None; line = None; addresses = None; fault = None }

abbrev pub alone : ℕ → Told
alone n = record nothing { number = Some n }

abbrev pub at_row : ℕ → ℕ → Told
at_row n row = record (alone n) { row = Some row }

abbrev pub at_name : ℕ → ℕ → Span → Told
at_name n row name = record (at_row n row) { name = Some name }

-- the row of a type or of an entry
abbrev pub row_of : Named → ℕ
row_of (Section row) = row
row_of (Entry row) = row

-- want of memory has no number
abbrev pub told : Reason → Told
told why.InvalidTable = alone 1
told (why.UnknownBtfType row) = at_row 2 row
told (why.InvalidDatasec row) = at_row 3 row
told (why.InvalidStringOffset of) = at_row 4 (row_of of)
told (why.InvalidSymbolName row) = at_row 5 row
told (why.MaximumTypeDepthReached row) = at_row 6 row
told (why.DuplicateName row) = at_row 7 row
told why.NoRoom = alone 8
told (why.TypedKsymRequiresKernelBtf row) = at_row 9 row
told (why.FunctionNotFound row name) = at_name 10 row name
told (why.IncompatibleFunctionSignature row name) = at_name 11 row name
told (why.VariableNotFound row name) = at_name 12 row name
told (why.IncompatibleVariableType row name) = at_name 13 row name
told (why.KallsymsAccessError fault) = record (alone 14) { fault = Some fault }
told (why.KallsymsParseError row line) = record (at_row 15 row) { line = Some line }
told (why.AmbiguousResolution row name line a b) = record (at_name 16 row name) { line = Some line; addresses = Some (a, b) }
told (why.InvalidRelocationOffset row) = at_row 17 row
told (why.UnknownSymbol row) = at_row 18 row
told (why.ExternNotFound row name) = at_name 19 row name
told (why.ExternWithoutId row name) = at_name 20 row name
told (why.UnresolvableSymbol row name) = at_name 21 row name
told why.OutOfMemory = nothing
