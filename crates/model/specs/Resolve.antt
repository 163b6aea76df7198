-- What resolution answers and sets. Assumes nothing.
use Rattle.std.specs.Prelude.{ℕ, Bool, cond, not, ◌&&◌, ◌||◌, List, [], ◌∷◌, map, is_some, Some, None, Option, ◌==◌, Ok, Err}
use Rattle.std.specs.Option.{option_or}
use Rattle.std.specs.List.{list_any}
use Rattle.std.specs.Str.{bytes_eq}
use Rattle.kallsyms.specs.Ends.{End}
use Rattle.kallsyms.specs.Line.{number_after}
use Rattle.model.specs.Externs.{Extern, whole_name, essential_name, resolved_to, addressed}
use Rattle.model.specs.Lines.{Line, said, first_address}
use Rattle.model.specs.Lines.Line.{line, short}
use Rattle.model.specs.Lists.{lookup, first}
use Rattle.model.specs.Names.{essential}
use Rattle.model.specs.Spans.{part}
use Rattle.model.specs.Tables.{Catalogue}
use Rattle.model.specs.declared.rows.CatalogueKind.{CatalogueKind}
use Rattle.model.specs.declared.rows.CatalogueKind.TheVariants as catalogued
use Rattle.model.specs.declared.rows.CatalogueRow.{CatalogueRow}
use Rattle.model.specs.declared.refusal.Reason.{Reason}
use Rattle.model.specs.declared.refusal.Reason.TheVariants.{TypedKsymRequiresKernelBtf, FunctionNotFound, IncompatibleFunctionSignature, VariableNotFound, IncompatibleVariableType, KallsymsAccessError, KallsymsParseError, AmbiguousResolution}

-- ---- the catalogue
-- whether a row has the kind of an extern
abbrev pub same_kind : CatalogueKind → Bool → Bool
same_kind catalogued.Func func = func
same_kind catalogued.Var func = not func

-- a Func is looked up by its essential name, a Var by its whole name
abbrev pub key : Extern → List ℕ
key x = cond x.func (essential x.name) x.name

-- the first row of an extern's kind and name
abbrev pub candidate : Catalogue → Extern → Option (ℕ × CatalogueRow)
candidate c x = lookup (λ k. same_kind k.kind x.func && bytes_eq (part c.names k.name) (key x)) 0 c.rows

-- its id, if it fits
abbrev pub id_if_fits : Option (ℕ × CatalogueRow) → Option ℕ
id_if_fits None = None
id_if_fits (Some k) = cond k.1.fits (Some k.1.id) None

abbrev pub fitting_id : Option Catalogue → Extern → Option ℕ
fitting_id None x = None
fitting_id (Some c) x = id_if_fits (candidate c x)

-- why a strong typed extern is refused: its row is missing or does not fit
abbrev pub missing_row : Extern → Option (ℕ → Reason)
missing_row x = cond x.func (Some (λ i. FunctionNotFound i (essential_name x))) (Some (λ i. VariableNotFound i (whole_name x)))

abbrev pub unfit_row : Extern → Option (ℕ → Reason)
unfit_row x = cond x.func (Some (λ i. IncompatibleFunctionSignature i (essential_name x))) (Some (λ i. IncompatibleVariableType i (whole_name x)))

abbrev pub row_refusal : Extern → Option (ℕ × CatalogueRow) → Option (ℕ → Reason)
row_refusal x None = missing_row x
row_refusal x (Some k) = cond k.1.fits None (unfit_row x)

abbrev pub catalogue_refusal : Option Catalogue → Extern → Option (ℕ → Reason)
catalogue_refusal None x = Some (λ i. TypedKsymRequiresKernelBtf i)
catalogue_refusal (Some c) x = row_refusal x (candidate c x)

abbrev pub strong_typed : Extern → Bool
strong_typed x = is_some x.typed && not x.weak

-- a weak extern is let through
abbrev pub typed_refusal : Option Catalogue → Extern → Option (ℕ → Reason)
typed_refusal c x = cond (strong_typed x) (catalogue_refusal c x) None

-- ---- the lines
-- a typeless extern that is not resolved is wanted
abbrev pub wanted : Extern → Bool
wanted x = not (is_some x.typed) && not x.resolved

-- a line, n others before it, gives the address o for the wanted extern x of row i, whose first nonzero address is a:
-- an address must read, and one that is not zero must be the first one
abbrev pub address_refusal : Extern → ℕ → ℕ → Option ℕ → Option (ℕ → Reason)
address_refusal x i a None = Some (λ n. KallsymsParseError i (number_after n))
address_refusal x i a (Some b) = cond (b == 0 || a == b) None (Some (λ n. AmbiguousResolution i (whole_name x) (number_after n) a b))

abbrev pub wanted_refusal : Option (ℕ × Extern) → ℕ → Option ℕ → Option (ℕ → Reason)
wanted_refusal None a o = None
wanted_refusal (Some k) a o = address_refusal k.1 k.0 a o

-- a line with no wanted name is passed over
abbrev pub line_refusal : List Extern → List Line → Line → Option (ℕ → Reason)
line_refusal xs ls (line n o) = wanted_refusal (lookup (λ x. wanted x && bytes_eq x.name n) 0 xs) (first_address n ls) o
line_refusal xs ls short = None

-- a fault refuses
abbrev pub end_refusal : End → Option Reason
end_refusal (Ok tt) = None
end_refusal (Err f) = Some (KallsymsAccessError f)

-- after the last line, a strong wanted extern must have a nonzero address
abbrev pub missing_refusal : List Line → Extern → Option (ℕ → Reason)
missing_refusal ls x = cond ((wanted x && not x.weak) && first_address x.name ls == 0) (Some (λ i. VariableNotFound i (whole_name x))) None

-- the lines as read, then the end, then the names without an address; nothing of these if no name is wanted
abbrev pub lines_refusal : List Extern → List Line → End → Option Reason
lines_refusal xs ls e =
    cond (list_any wanted xs) (option_or (first (line_refusal xs ls) 0 ls) (option_or (end_refusal e) (first (missing_refusal ls) 0 xs))) None

-- the typed externs first, in row order
abbrev pub resolve_refusal : Option Catalogue → List (List ℕ) → End → List Extern → Option Reason
resolve_refusal c ls e xs = option_or (first (typed_refusal c) 0 xs) (lines_refusal xs (map said ls) e)

-- ---- the lines left unread: those after the first that is refused; all, if a typed extern is refused or no name is wanted
abbrev pub after_first : (List ℕ → Bool) → List (List ℕ) → List (List ℕ)
after_first stops [] = []
after_first stops (l ∷ ls) = cond (stops l) ls (after_first stops ls)

abbrev pub left_unread : Option Catalogue → List (List ℕ) → List Extern → List (List ℕ)
left_unread c ls xs =
    cond (is_some (first (typed_refusal c) 0 xs) || not (list_any wanted xs)) ls (after_first (λ l. is_some (line_refusal xs (map said ls) (said l))) ls)

-- ---- what a granted call sets
-- a typed extern whose row fits gets its id and is resolved
abbrev pub given_id : Option ℕ → Extern → Extern
given_id None x = x
given_id (Some i) x = resolved_to (Some i) x.address x

-- a wanted extern with a nonzero address gets it and is resolved
abbrev pub given_address : ℕ → Extern → Extern
given_address a x = cond (x.resolved || a == 0) x (resolved_to x.id (Some a) x)

abbrev pub settled : Option Catalogue → List Line → Extern → Extern
settled c ls x = cond (is_some x.typed) (given_id (fitting_id c x) x) (given_address (first_address x.name ls) x)

-- a weak extern that is still not resolved gets the address 0
abbrev pub zeroed : Extern → Extern
zeroed x = cond (x.resolved || not x.weak) x (addressed 0 x)

abbrev pub given : Option Catalogue → List Line → Extern → Extern
given c ls x = zeroed (settled c ls x)
