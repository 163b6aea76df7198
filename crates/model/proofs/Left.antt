-- What a refused call leaves, and what relocation leaves.
use Rattle.std.proofs.Common.{rules, ◌≡◌, ℕ, Bool, cond, List, refl, ap, ◌∙◌, ⊎_elim}
use Rattle.std.proofs.lemmas.Bool.{cond-false, cases_Bool}
use Rattle.model.specs.Externs.{Object}
use Rattle.model.specs.Relocate.{taken, slot_at}
use Rattle.model.specs.Runs.{State, fits, patched_code}
use Rattle.model.specs.Runs.Step.{relocate}
use Rattle.model.specs.Slots.{slots}
use Rattle.model.specs.StepLaws.{RefusedChangesNothing, RelocationLeavesOtherSlots}
use Rattle.model.proofs.Coded.{next_length, relocated_slots}
use Rattle.model.proofs.Loads.{leaves}

-- ---- a refused call
same_state : (st : State) (o : Object) (code : List ℕ) → o ≡ st.object → code ≡ st.code → ◌≡◌ {A = State} (record { object = o; code = code }) st
same_state st o code p q = search rules

same_object : (b : Bool) (o : Object) → cond b o o ≡ o
same_object b o = search rules

same_code : (b : Bool) (bs : List ℕ) → cond b bs bs ≡ bs
same_code b bs = search rules

pub refused_changes_nothing : RefusedChangesNothing
refused_changes_nothing = search (rules, same_state, same_code, same_object)

-- ---- relocation
pub relocation_leaves_other_slots : RelocationLeavesOtherSlots
relocation_leaves_other_slots =
    record {
      slot = λ st p i b none.
          ⊎_elim
          (λ f. ap (λ x. slot_at x i) (relocated_slots p st b f)
          ∙ leaves st.object.externs p.symbols (slots st.code) (taken p.functions p.relocations) (slots st.code) i (record { size = refl; same = λ _. refl }) none)
          (λ f. ap (λ x. slot_at (slots x) i) (cond-false (fits (relocate p) st) (patched_code (relocate p) st) st.code f))
          (cases_Bool (fits (relocate p) st));
      size = λ st p. next_length (relocate p) st;
    }
