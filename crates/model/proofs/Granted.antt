-- What a granted call met.
use Rattle.std.proofs.Common.{rules, ◌≡◌, ℕ, true, List, map, is_ok, Some, None, Ok, Err, Option, Result}
use Rattle.std.specs.List.{list_any}
use Rattle.std.proofs.lemmas.Bool.{and_left}
use Rattle.kallsyms.specs.Ends.{End}
use Rattle.model.specs.Externs.{Extern}
use Rattle.model.specs.Lines.{Line, said}
use Rattle.model.specs.Lists.{In, first}
use Rattle.model.specs.Relocate.{Taken, patched}
use Rattle.model.specs.Resolve.{typed_refusal, wanted, line_refusal, end_refusal, missing_refusal, lines_refusal}
use Rattle.model.specs.Runs.{State, Step, fits, reason, answered, granted}
use Rattle.model.specs.Runs.Step.{resolve}
use Rattle.model.specs.Tables.{Symbols, Catalogue}
use Rattle.model.specs.declared.refusal.Call.{Call}
use Rattle.model.specs.declared.refusal.Reason.{Reason}
use Rattle.model.specs.declared.rows.Slot.{Slot}
use Rattle.model.proofs.Lookups.{option_or_parts, option_or_from, test_parts, first_none, none_first, any_in}

granted_none : (c : Call) (o : Option Reason) → is_ok (answered c o) ≡ true → o ≡ None
granted_none c o e = search rules

-- a call is granted exactly if its tables are well-formed and it meets no refusal
pub granted_parts : (s : Step) (st : State) → granted s st ≡ true → (fits s st ≡ true) × (reason s st ≡ None)
granted_parts s st g = search (rules, test_parts, granted_none)

pub granted_from : (s : Step) (st : State) → fits s st ≡ true → reason s st ≡ None → granted s st ≡ true
granted_from s st f r = search rules

-- ---- a granted resolution, by the externs
pub record Clear (c : Option Catalogue) (ls : List (List ℕ)) (e : End) (xs : List Extern) : Type 0 where
  pub typed : (x : Extern) → In x xs → typed_refusal c x ≡ None
  pub lines : lines_refusal xs (map said ls) e ≡ None

pub clear : (c : Option Catalogue) (ls : List (List ℕ)) (e : End) (st : State) → granted (resolve c ls e) st ≡ true → Clear c ls e st.object.externs
clear c ls e st g =
    let q = option_or_parts _ _ (granted_parts (resolve c ls e) st g).1 in
    record { typed = none_first (typed_refusal c) 0 st.object.externs q.0; lines = q.1 }

pub clear_granted : (c : Option Catalogue) (ls : List (List ℕ)) (e : End) (st : State) → fits (resolve c ls e) st ≡ true → Clear c ls e st.object.externs → granted (resolve c ls e) st ≡ true
clear_granted c ls e st f k = search (rules, granted_from, option_or_from, first_none)

-- ---- the parts of a reading with nothing to refuse
pub lines_parts : (xs : List Extern) (ls : List Line) (e : End) → lines_refusal xs ls e ≡ None → list_any wanted xs ≡ true → (first (line_refusal xs ls) 0 ls ≡ None) × (end_refusal e ≡ None) × (first (missing_refusal ls) 0 xs ≡ None)
lines_parts xs ls e h t = search rules

pub lines_from : (xs : List Extern) (ls : List Line) (e : End) → (list_any wanted xs ≡ true → (first (line_refusal xs ls) 0 ls ≡ None) × (end_refusal e ≡ None) × (first (missing_refusal ls) 0 xs ≡ None)) → lines_refusal xs ls e ≡ None
lines_from xs ls e h = search rules

pub none_missing : (xs : List Extern) (ls : List Line) (e : End) → lines_refusal xs ls e ≡ None → (x : Extern) → In x xs → missing_refusal ls x ≡ None
none_missing xs ls e h x i = search (rules, none_first, lines_parts, any_in, and_left)

-- ---- relocations
-- the rest of the relocations, after what one of them came to
abbrev pub go_on : List Extern → Symbols → List Taken → List Slot → Result (List Slot) Reason → List Slot × Option Reason
go_on xs ss ts code p = elim p [ Ok new ↦ patched xs ss ts new | Err e ↦ (code, Some e) ]
