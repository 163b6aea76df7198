-- The code of a run: bytes, as many as before, that are read as the slots that relocation made.
use Rattle.std.proofs.lemmas.Grind.{common_steps}
use Rattle.std.proofs.Common.{rules, ◌≡◌, ℕ, suc, ◌*◌, ◌/◌, ◌%◌, ◌<◌, true, List, [], ◌∷◌, length, refl, ◌∙◌, arith}
use Rattle.std.specs.List.{AllByRecursion}
use Rattle.std.proofs.lemmas.Bool.{cond_both, and_parts, eqb-true}
use Rattle.model.specs.Relocate.{Program, relocated, taken}
use Rattle.model.specs.Runs.{State, Step, fits, next, patched_code, runs}
use Rattle.model.specs.Runs.Step.{resolve, fixup, relocate}
use Rattle.model.specs.SlotLaws.{FitsSlot}
use Rattle.model.specs.Slots.{slots}
use Rattle.model.specs.declared.rows.Slot.{Slot}
use Rattle.model.proofs.Loads.{EachFits, patched_size, patched_fits}
use Rattle.model.proofs.Slotted.{slots_are_bytes, slots_length, slots_bytes_length}

abbrev pub Bytes : List ℕ → Type 0
Bytes bs = AllByRecursion (λ b. b < 256) bs

each_all : (ss : List Slot) → EachFits ss → AllByRecursion FitsSlot ss
each_all [] f = tt
each_all (s ∷ ss) f = (f 0, each_all ss (λ i. f (suc i)))

all_each : (ss : List Slot) → AllByRecursion FitsSlot ss → EachFits ss
all_each ss f i = grind (arith, common_steps)

relocated_fits : (p : Program) (st : State) → Bytes st.code → AllByRecursion FitsSlot (relocated st.object.externs p (slots st.code)).0
relocated_fits p st b = search (rules, each_all, patched_fits, all_each, slots_are_bytes)

-- ---- one call
patched_bytes : (s : Step) (st : State) → Bytes st.code → Bytes (patched_code s st)
patched_bytes s st b = search (rules, slots_are_bytes, relocated_fits)

pub next_bytes : (s : Step) (st : State) → Bytes st.code → Bytes (next s st).code
next_bytes s st b = cond_both (fits s st) (patched_code s st) st.code Bytes (λ _. patched_bytes s st b) (λ _. b)

-- the slots after a relocation of well-formed tables
pub relocated_slots : (p : Program) (st : State) → Bytes st.code → fits (relocate p) st ≡ true → slots (next (relocate p) st).code ≡ (relocated st.object.externs p (slots st.code)).0
relocated_slots p st b f = search (rules, slots_are_bytes, relocated_fits)

whole_length : (n m : ℕ) → n % 8 ≡ 0 → m ≡ n / 8 → m * 8 ≡ n
whole_length n m h e = omega arith

patched_length : (s : Step) (st : State) → fits s st ≡ true → length (patched_code s st) ≡ length st.code
patched_length (resolve c ls e) st f = refl
patched_length fixup st f = refl
patched_length (relocate p) st f =
    let w = (and_parts _ _ (and_parts _ _ (and_parts _ _ f).1).0).0 in
    slots_bytes_length _
    ∙ whole_length (length st.code) _ (eqb-true _ 0 w) (patched_size st.object.externs p.symbols (taken p.functions p.relocations) (slots st.code) ∙ slots_length st.code)

pub next_length : (s : Step) (st : State) → length (next s st).code ≡ length st.code
next_length s st = cond_both (fits s st) (patched_code s st) st.code (λ bs. length bs ≡ length st.code) (λ f. patched_length s st f) (λ _. refl)

-- ---- a list of calls
pub runs_bytes : (ss : List Step) (st : State) → Bytes st.code → Bytes (runs ss st).code
runs_bytes [] st b = b
runs_bytes (s ∷ ss) st b = runs_bytes ss (next s st) (next_bytes s st b)

pub runs_length : (ss : List Step) (st : State) → length (runs ss st).code ≡ length st.code
runs_length [] st = refl
runs_length (s ∷ ss) st = runs_length ss (next s st) ∙ next_length s st
