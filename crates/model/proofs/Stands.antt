-- An address that a resolution gave stands, also in the slots that load it.
use Rattle.std.proofs.lemmas.Grind.{common_steps}
use Rattle.std.proofs.Common.{arith, rules, ◌≡◌, ℕ, suc, ◌/◌, ◌^◌, ◌<◌, true, false, List, [], ◌∷◌, map, length, Some, None, Option, sym, refl, ap, ◌∙◌, subst, inl, inr, ⊎_elim}
use Rattle.std.specs.Str.{bytes_eq}
use Rattle.std.proofs.lemmas.Bool.{cond-true, cond-false, cond_both, cases_Bool, and_parts}
use Rattle.std.proofs.lemmas.Option.{none-some}
use Rattle.std.proofs.lemmas.Slice.Eq.{bytes_eq-Decides}
use Rattle.kallsyms.specs.Ends.{End}
use Rattle.model.specs.Collected.{Distinct, object_fits}
use Rattle.model.specs.Externs.{Extern, extern_named}
use Rattle.model.specs.Laws.{Lists, address_in, address_of, Holds, LoadsHold, Stands}
use Rattle.model.specs.Lines.{Line, said, first_address}
use Rattle.model.specs.Lines.Line.{line}
use Rattle.model.specs.Lists.{In, lookup}
use Rattle.model.specs.Relocate.{Program, function_slots, program_fits, slot_index}
use Rattle.model.specs.Resolve.{wanted, given}
use Rattle.model.specs.Runs.{State, Step, granted, next, runs}
use Rattle.model.specs.Runs.Step.{resolve, fixup, relocate}
use Rattle.model.specs.Slots.{slots}
use Rattle.model.specs.Spans.{follow}
use Rattle.model.specs.Tables.{Catalogue}
use Rattle.model.specs.declared.rows.Slot.{Slot}
use Rattle.model.proofs.Coded.{Bytes, relocated_slots, next_bytes, runs_bytes}
use Rattle.model.proofs.Granted.{granted_parts, clear}
use Rattle.model.proofs.Grants.{judged}
use Rattle.model.proofs.History.{Kept, kept_name, kept_typed, change, next_change, change_kept, after, runs_after, after_kept}
use Rattle.model.proofs.Listed.{found_in}
use Rattle.model.proofs.Loads.{Paired, loads_hold}
use Rattle.model.proofs.Lookups.{some_is, mapped, lookup_in, lookup_map, in_map, map_in}
use Rattle.model.proofs.Slotted.{slots_length}

-- ---- an address that a line says is below 2 ^ 64
said_below : (l n : List ℕ) (a : ℕ) → said l ≡ line n (Some a) → a < 2 ^ 64
said_below l n a = search rules

pub lists_below : (ls : List (List ℕ)) (n : List ℕ) (a : ℕ) → Lists ls n a → a < 2 ^ 64
lists_below ls n a h = search (rules, map_in, said_below)

-- ---- what a resolution gives an extern
module _ (c : Option Catalogue) (ls : List Line) (p : Extern) (a : ℕ) (nonzero : a ≡ 0 → ⊥) (other : p.address ≡ Some a → ⊥) where
  -- x, which p became, has the address only because p was wanted and the lines list it
  pub record Took (x : Extern) : Type 0 where
    pub typeless : p.typed ≡ None
    pub wants : wanted p ≡ true
    pub is : first_address p.name ls ≡ a
    pub mark : x.resolved ≡ true

  given_took : (given c ls p).address ≡ Some a → Took (given c ls p)
  given_took = search rules

change_took :
    (c : Option Catalogue) (ls : List (List ℕ)) (e : End) (st : State) (p : Extern) (a : ℕ) (nonzero : a ≡ 0 → ⊥) (other : p.address ≡ Some a → ⊥)
    → (change (resolve c ls e) st p).address ≡ Some a
    → (granted (resolve c ls e) st ≡ true) × Took c (map said ls) p a nonzero other (change (resolve c ls e) st p)
unfolding change
change_took c ls e st p a nonzero other =
    cond_both (granted (resolve c ls e) st) (given c (map said ls) p) p (λ (x : Extern). x.address ≡ Some a → (granted (resolve c ls e) st ≡ true) × Took c (map said ls) p a nonzero other x)
    (λ g h. (g, given_took c (map said ls) p a nonzero other h)) (λ _ h. absurd (other h))

-- ---- the extern of a name after calls
named_map : (n : List ℕ) (f : Extern → Extern) → ((r : Extern) → Kept r (f r)) → (xs : List Extern) → extern_named n (map f xs) ≡ mapped f (extern_named n xs)
named_map n f k xs = search (rules, lookup_map, kept_name)

named_after : (n : List ℕ) (ss : List Step) (st : State) → extern_named n (runs ss st).object.externs ≡ mapped (after ss st) (extern_named n st.object.externs)
named_after n ss st = search (rules, runs_after, named_map, after_kept)

named_next : (n : List ℕ) (s : Step) (st : State) → extern_named n (next s st).object.externs ≡ mapped (change s st) (extern_named n st.object.externs)
named_next n s st = search (rules, next_change, named_map, change, change_kept)

-- ---- a pair that holds an address loads it
held : (new old : List Slot) (i a : ℕ) → a < 2 ^ 64 → Paired new old i a → Holds new i a
held new old i a l p = search rules

program_follow : (p : Program) (bs : List ℕ) → program_fits p bs ≡ true → follow 0 (function_slots p.functions) (length bs / 8) ≡ true
program_follow p bs h = grind (arith, common_steps)

relocation_holds :
    (st : State) (p : Program) (n : List ℕ) (a : ℕ) (k : ℕ × Extern)
    → Bytes st.code
    → a < 2 ^ 64
    → extern_named n st.object.externs ≡ Some k
    → k.1.id ≡ None
    → k.1.address ≡ Some a
    → granted (relocate p) st ≡ true
    → LoadsHold n a p (slots st.code) (slots (next (relocate p) st).code)
relocation_holds st p n a k b l row id at g front t back split alone =
    let q = granted_parts (relocate p) st g in
    let spans = program_follow p st.code (and_parts (object_fits st.object) (program_fits p st.code) q.0).1 in
    let h = loads_hold st.object.externs p (slots st.code) n a k row id at (subst (λ m. follow 0 (function_slots p.functions) m ≡ true) (sym (slots_length st.code)) spans) q.1 front t back split alone in
    subst (λ x. Holds x (slot_index t) a) (sym (relocated_slots p st b q.0)) (held _ h.0 (slot_index t) a l h.1)

-- ---- the law, of externs that have no id yet
module _
    (st : State)
    (before : List Step)
    (c : Option Catalogue)
    (ls : List (List ℕ))
    (e : End)
    (later : List Step)
    (n : List ℕ)
    (a : ℕ)
    (bytes : Bytes st.code)
    (no_id : (x : Extern) → In x st.object.externs → x.id ≡ None)
    (nonzero : a ≡ 0 → ⊥)
    (other : address_of n (runs before st) ≡ Some a → ⊥)
    (gives : address_of n (next (resolve c ls e) (runs before st)) ≡ Some a)
  where
    abbrev s : Step
    s = resolve c ls e

    abbrev here : State
    here = runs before st

    abbrev there : State
    there = next s here

    pub resolution_stands : Stands s n a (runs later there)
    resolution_stands =
        ⊎_elim
        (λ k. absurd (none-some a (sym (sym gives ∙ ap address_in (named_next n s here ∙ ap (mapped (change s here)) (named_after n before st ∙ ap (mapped (after before st)) k))))))
        (λ k.
        let r = k.0.1 in
        let p = after before st r in
        let q = change s here p in
        let y = after later there q in
        let at_here : extern_named n here.object.externs ≡ Some (k.0.0, p) = named_after n before st ∙ ap (mapped (after before st)) k.1 in
        let at_there : extern_named n there.object.externs ≡ Some (k.0.0, q) = named_next n s here ∙ ap (mapped (change s here)) at_here in
        let at_end : extern_named n (runs later there).object.externs ≡ Some (k.0.0, y) = named_after n later there ∙ ap (mapped (after later there)) at_there in
        let i = lookup_in (λ x. bytes_eq x.name n) 0 st.object.externs k.0 k.1 in
        let kp = after_kept before st r in
        let kq = change_kept s here p in
        let ky = after_kept later there q in
        let g = change_took c ls e here p a nonzero (λ z. other (ap address_in at_here ∙ z)) (sym (ap address_in at_there) ∙ gives) in
        let name : p.name ≡ n = kept_name kp ∙ (bytes_eq-Decides r.name n).0 i.1 in
        let typeless = g.1.typeless in
        let stands = (ky.stands (kept_typed kq ∙ typeless) g.1.mark).1 ∙ sym (ap address_in at_there) ∙ gives in
        let lines = (clear c ls e here g.0).lines in
        let inside : In p here.object.externs = subst (In p) (sym (runs_after before st)) (in_map (after before st) st.object.externs r i.0) in
        let listed : Lists ls n a = (
          subst (λ m. In (line m (Some a)) (map said ls)) name (subst (λ v. In (line p.name (Some v)) (map said ls)) g.1.is (found_in p.name (map said ls) (λ z. nonzero (sym g.1.is ∙ z)))),
          nonzero,
        ) in record {
          only = (
            listed,
            λ b h. sym ((judged here.object.externs (map said ls) e p (Some b) lines inside g.1.wants (subst (λ m. In (line m (Some b)) (map said ls)) (sym name) h.0)).1 b refl h.1) ∙ g.1.is,
          );
          there = ap address_in at_end ∙ stands;
          loads = λ p h. relocation_holds (runs later there) p n a (k.0.0, y) (runs_bytes later there (next_bytes s here (runs_bytes before st bytes))) (lists_below ls n a listed) at_end
              (ky.id (kept_typed kq ∙ typeless) ∙ kq.id typeless ∙ kp.id (sym (kept_typed kp) ∙ typeless) ∙ no_id r i.0)
              stands h;
        })
        (some_is (extern_named n st.object.externs))

-- a call that is no resolution gives no address
same_address : (n : List ℕ) (s : Step) (st : State) → ((x : Extern) → change s st x ≡ x) → address_of n (next s st) ≡ address_of n st
same_address n s st h = search (rules, named_next, change)

pub call_stands :
    (st : State) (before : List Step) (s : Step) (later : List Step) (n : List ℕ) (a : ℕ)
    → Bytes st.code
    → ((x : Extern) → In x st.object.externs → x.id ≡ None)
    → (a ≡ 0 → ⊥)
    → (address_of n (runs before st) ≡ Some a → ⊥)
    → address_of n (next s (runs before st)) ≡ Some a
    → Stands s n a (runs later (next s (runs before st)))
unfolding change
call_stands st before (resolve c ls e) later n a b f z o g = resolution_stands st before c ls e later n a b f z o g
call_stands st before fixup later n a b f z o g = absurd (o (sym (same_address n fixup (runs before st) (λ _. refl)) ∙ g))
call_stands st before (relocate p) later n a b f z o g = absurd (o (sym (same_address n (relocate p) (runs before st) (λ _. refl)) ∙ g))

-- ---- each extern has a name of its own
pub named_row : (n : ℕ) (xs : List Extern) (r : Extern) → Distinct xs → In r xs → (i : ℕ) × (lookup (λ x. bytes_eq x.name r.name) n xs ≡ Some (i, r))
named_row n [] r d i = absurd i
named_row n (x ∷ xs) r d (inl q) = (n, cond-true _ _ _ ((bytes_eq-Decides x.name r.name).1 (ap (λ z. z.name) q)) ∙ ap (λ z. Some (n, z)) q)
named_row n (x ∷ xs) r d (inr i) =
    let k = named_row (suc n) xs r d.1 i in
    let t : bytes_eq x.name r.name ≡ false = ⊎_elim (λ t. absurd (d.0 r i (sym ((bytes_eq-Decides x.name r.name).0 t)))) (λ t. t) (cases_Bool (bytes_eq x.name r.name)) in
    (k.0, cond-false _ _ _ t ∙ k.1)
