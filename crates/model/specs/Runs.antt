-- The calls on a collected object, and lists of them. Assumes nothing.
use Rattle.std.specs.Prelude.{ℕ, Bool, true, cond, ◌&&◌, List, [], ◌∷◌, map, is_ok, Some, None, Ok, Err, Option, Result}
use Rattle.kallsyms.specs.Ends.{End}
use Rattle.model.specs.Collected.{object_fits}
use Rattle.model.specs.Externs.{Object}
use Rattle.model.specs.Fixup.{fix_refusal, fixed}
use Rattle.model.specs.Lines.{said}
use Rattle.model.specs.Relocate.{Program, program_fits, relocated}
use Rattle.model.specs.Resolve.{resolve_refusal, given}
use Rattle.model.specs.Slots.{slots, slots_bytes}
use Rattle.model.specs.Tables.{Catalogue, catalogue_fits}
use Rattle.model.specs.declared.refusal.Call.{Call}
use Rattle.model.specs.declared.refusal.Call.TheVariants as made_by
use Rattle.model.specs.declared.refusal.Reason.{Reason}
use Rattle.model.specs.declared.refusal.Reason.TheVariants.{InvalidTable}
use Rattle.model.specs.declared.refusal.Refusal.{Refusal}

-- an object, and the bytes of the code that is relocated
pub record State : Type 0 where
  pub object : Object
  pub code : List ℕ

-- a call: a resolution with a catalogue or none over the lines and the end of a source, a fixup, or a relocation of a program
pub data Step : Type 0 where
  resolve : Option Catalogue → List (List ℕ) → End → Step
  fixup : Step
  relocate : Program → Step

abbrev pub call_of : Step → Call
call_of (resolve c ls e) = made_by.Resolve
call_of fixup = made_by.Fixup
call_of (relocate p) = made_by.Relocate

-- whether the tables that a call brings are well-formed
abbrev pub brings_fit : Step → List ℕ → Bool
brings_fit (resolve c ls e) code = catalogue_fits c
brings_fit fixup code = true
brings_fit (relocate p) code = program_fits p code

-- whether all tables of a call are
abbrev pub fits : Step → State → Bool
fits s st = object_fits st.object && brings_fit s st.code

-- why a call on well-formed tables is refused
abbrev pub reason : Step → State → Option Reason
reason (resolve c ls e) st = resolve_refusal c ls e st.object.externs
reason fixup st = fix_refusal st.object
reason (relocate p) st = (relocated st.object.externs p (slots st.code)).1

-- the tables are tested first
abbrev pub refusal : Step → State → Option Reason
refusal s st = cond (fits s st) (reason s st) (Some InvalidTable)

abbrev pub answered : Call → Option Reason → Result (Unit {0}) Refusal
answered c None = Ok tt
answered c (Some e) = Err (record { call = c; reason = e })

-- what a call answers
abbrev pub answer : Step → State → Result (Unit {0}) Refusal
answer s st = answered (call_of s) (refusal s st)

abbrev pub granted : Step → State → Bool
granted s st = is_ok (answer s st)

-- the object after a call that is granted
abbrev pub made : Step → Object → Object
made (resolve c ls e) o = record o { externs = map (given c (map said ls)) o.externs }
made fixup o = fixed o
made (relocate p) o = o

-- the code after a call on well-formed tables, refused or not
abbrev pub patched_code : Step → State → List ℕ
patched_code (resolve c ls e) st = st.code
patched_code fixup st = st.code
patched_code (relocate p) st = slots_bytes (relocated st.object.externs p (slots st.code)).0

-- what a call leaves: a refused one leaves the object, and the code but for the relocations that were finished
abbrev pub next : Step → State → State
next s st = record { object = cond (granted s st) (made s st.object) st.object; code = cond (fits s st) (patched_code s st) st.code }

-- a list of calls, one after the other
abbrev pub runs : List Step → State → State
runs [] st = st
runs (s ∷ ss) st = runs ss (next s st)

abbrev pub answers : List Step → State → List (Result (Unit {0}) Refusal)
answers [] st = []
answers (s ∷ ss) st = answer s st ∷ answers ss (next s st)
