-- On well-formed tables no call is refused for its tables.
use Rattle.std.proofs.Common.{rules, ◌≡◌, ℕ, suc, false, eqb, List, [], ◌∷◌, Some, None, Ok, Err, Option, Result}
use Rattle.std.specs.Option.{option_or}
use Rattle.kallsyms.specs.Ends.{End}
use Rattle.model.specs.Externs.{Extern}
use Rattle.model.specs.Fixup.{fix_refusal_for}
use Rattle.model.specs.Lines.{Line}
use Rattle.model.specs.Lists.{first, numbered}
use Rattle.model.specs.Refusals.{told}
use Rattle.model.specs.Relocate.{Taken, patch, patched}
use Rattle.model.specs.Resolve.{row_refusal, catalogue_refusal, line_refusal, end_refusal, lines_refusal}
use Rattle.model.specs.Runs.{State, Step, reason}
use Rattle.model.specs.Tables.{Tables, Symbols, Catalogue}
use Rattle.model.specs.declared.refusal.Reason.{Reason}
use Rattle.model.specs.declared.refusal.Reason.TheVariants.{InvalidTable}
use Rattle.model.specs.declared.rows.CatalogueRow.{CatalogueRow}
use Rattle.model.specs.declared.rows.Slot.{Slot}
use Rattle.model.proofs.Granted.{go_on}

-- ---- a reason of another number than 1
abbrev Other : Reason → Type 0
Other r = (told r).number ≡ Some 1 → ⊥

other : (n : ℕ) → eqb n 1 ≡ false → Some n ≡ Some 1 → ⊥
other n f e = search rules

abbrev Others : Option Reason → Type 0
Others None = Unit {0}
Others (Some r) = Other r

abbrev OtherBy : Option (ℕ → Reason) → Type 0
OtherBy None = Unit {0}
OtherBy (Some f) = (n : ℕ) → Other (f n)

abbrev OtherErr : {X : Type 0} → Result X Reason → Type 0
OtherErr (Ok x) = Unit {0}
OtherErr (Err e) = Other e

else_others : (x y : Option Reason) → Others x → Others y → Others (option_or x y)
else_others x y h k = search rules

numbered_others : (n : ℕ) (o : Option (ℕ → Reason)) → OtherBy o → Others (numbered n o)
numbered_others n o h = search rules

first_others : {X : Type 0} (why : X → Option (ℕ → Reason)) → ((x : X) → OtherBy (why x)) → (n : ℕ) (xs : List X) → Others (first why n xs)
first_others why h n [] = tt
first_others why h n (x ∷ xs) = else_others (numbered n (why x)) (first why (suc n) xs) (numbered_others n (why x) (h x)) (first_others why h (suc n) xs)

-- ---- resolution
row_other : (x : Extern) (o : Option (ℕ × CatalogueRow)) → OtherBy (row_refusal x o)
row_other x o = search rules

catalogue_other : (c : Option Catalogue) (x : Extern) → OtherBy (catalogue_refusal c x)
catalogue_other c x = search rules

line_other : (xs : List Extern) (ls : List Line) (l : Line) → OtherBy (line_refusal xs ls l)
line_other xs ls l = search rules

end_other : (e : End) → Others (end_refusal e)
end_other e = search rules

lines_other : (xs : List Extern) (ls : List Line) (e : End) → Others (lines_refusal xs ls e)
lines_other xs ls e = search (rules, else_others, first_others, line_other, end_other)

-- ---- fixup
fix_other : (xs : List Extern) (p : Option ℕ) (t : Tables) → Others (fix_refusal_for xs p t)
fix_other xs p t = search rules

-- ---- relocation
patch_other : (xs : List Extern) (ss : Symbols) (t : Taken) (code : List Slot) → OtherErr (patch xs ss t code)
patch_other xs ss t code = search rules

patched_other : (xs : List Extern) (ss : Symbols) (ts : List Taken) (code : List Slot) → Others (patched xs ss ts code).1
patched_other xs ss [] code = tt
patched_other xs ss (t ∷ ts) code =
    let by : (p : Result (List Slot) Reason) → OtherErr p → Others (go_on xs ss ts code p).1 = elim [ Ok new ↦ λ h. patched_other xs ss ts new | Err e ↦ λ h. h ] in
    by (patch xs ss t code) (patch_other xs ss t code)

-- ---- every call
reason_other : (s : Step) (st : State) → Others (reason s st)
reason_other s st = search (rules, else_others, first_others, catalogue_other, lines_other, fix_other, patched_other)

others_not : (o : Option Reason) → Others o → o ≡ Some InvalidTable → ⊥
others_not o h e = search rules

pub reason_not : (s : Step) (st : State) → reason s st ≡ Some InvalidTable → ⊥
reason_not s st = others_not (reason s st) (reason_other s st)
