-- What a list of calls makes of one extern.
use Rattle.std.proofs.lemmas.Grind.{common_steps}
use Rattle.std.proofs.Common.{arith, rules, ◌≡◌, ℕ, Bool, true, false, cond, ◌||◌, eqb, List, [], ◌∷◌, map, Some, None, Option, sym, refl, ap, ◌∙◌, subst, inl, inr, ⊎_elim}
use Rattle.std.proofs.lemmas.List.{map-id}
use Rattle.std.proofs.lemmas.Bool.{cond-true, cond-false, cond_both, both_ways, cases_Bool, eqb-true, eqb-false, or_parts, not-true}
use Rattle.std.proofs.lemmas.Simd.{map-map}
use Rattle.model.specs.Laws.{ListedBy, FoundBy, Wanted}
use Rattle.model.specs.Externs.{Extern, Object, resolved_to}
use Rattle.model.specs.Lines.{Line, said, first_address}
use Rattle.model.specs.Resolve.{wanted, given_address, given}
use Rattle.model.specs.Runs.{State, Step, granted, made, next, runs}
use Rattle.model.specs.Runs.Step.{resolve, fixup, relocate}
use Rattle.model.specs.Tables.{Catalogue}
use Rattle.model.proofs.Listed.{Tells, found_in, in_found}
use Rattle.model.proofs.Lookups.{none_is}

-- ---- one call on one extern
unfoldable pub change : Step → State → Extern → Extern
change (resolve c ls e) st r = cond (granted (resolve c ls e) st) (given c (map said ls) r) r
change fixup st r = r
change (relocate p) st r = r

cond_map : (b : Bool) (f : Extern → Extern) (o : Object) (new : Object) → new.externs ≡ map f o.externs → (cond b new o).externs ≡ map (λ x. cond b (f x) x) o.externs
cond_map true f o new e = e
cond_map false f o new e = sym (map-id o.externs)

cond_same : (b : Bool) (o : Object) (new : Object) → new.externs ≡ o.externs → (cond b new o).externs ≡ map (λ x. x) o.externs
cond_same b o new e = grind (arith, common_steps)

pub next_change : (s : Step) (st : State) → (next s st).object.externs ≡ map (change s st) st.object.externs
unfolding change
next_change (resolve c ls e) st = cond_map (granted (resolve c ls e) st) (given c (map said ls)) st.object (made (resolve c ls e) st.object) refl
next_change fixup st = cond_same (granted fixup st) st.object (made fixup st.object) refl
next_change (relocate p) st = cond_same (granted (relocate p) st) st.object (made (relocate p) st.object) refl

-- the extern with other marks
abbrev pub marked : Bool → Option ℕ → Option ℕ → Extern → Extern
marked b i a r =
    record {
      name = r.name;
      place = r.place;
      entry = r.entry;
      func = r.func;
      typed = r.typed;
      weak = r.weak;
      resolved = b;
      id = i;
      address = a;
    }

-- Kept r q: q is r with other marks; a typeless row has no other id, and once resolved no other mark or address.
pub record Kept (r q : Extern) : Type 0 where
  pub row : q ≡ marked q.resolved q.id q.address r
  pub id : r.typed ≡ None → q.id ≡ r.id
  pub stands : r.typed ≡ None → r.resolved ≡ true → (q.resolved ≡ true) × (q.address ≡ r.address)

module _ {r q : Extern} (k : Kept r q) where
  pub kept_name : q.name ≡ r.name
  kept_name = ap (λ x. x.name) k.row

  pub kept_typed : q.typed ≡ r.typed
  kept_typed = ap (λ x. x.typed) k.row

  pub kept_weak : q.weak ≡ r.weak
  kept_weak = ap (λ x. x.weak) k.row

pub kept_same : (r : Extern) → Kept r r
kept_same r = search rules

pub kept_both : (r q s : Extern) → Kept r q → Kept q s → Kept r s
kept_both r q s k l = search rules

pub given_kept : (c : Option Catalogue) (ls : List Line) (r : Extern) → Kept r (given c ls r)
given_kept c ls r = search rules

pub change_kept : (s : Step) (st : State) (r : Extern) → Kept r (change s st r)
unfolding change
change_kept (resolve c ls e) st r = cond_both (granted (resolve c ls e) st) _ _ (λ q. Kept r q) (λ _. given_kept c (map said ls) r) (λ _. kept_same r)
change_kept fixup st r = kept_same r
change_kept (relocate p) st r = kept_same r

-- ---- a list of calls on one row
unfoldable pub after : List Step → State → Extern → Extern
after [] st r = r
after (s ∷ ss) st r = after ss (next s st) (change s st r)

pub runs_after : (ss : List Step) (st : State) → (runs ss st).object.externs ≡ map (after ss st) st.object.externs
unfolding after
runs_after [] st = sym (map-id st.object.externs)
runs_after (s ∷ ss) st =
    runs_after ss (next s st) ∙ ap (map (after ss (next s st))) (next_change s st) ∙ map-map (after ss (next s st)) (change s st) st.object.externs

pub after_kept : (ss : List Step) (st : State) (r : Extern) → Kept r (after ss st r)
unfolding after
after_kept [] st r = kept_same r
after_kept (s ∷ ss) st r = kept_both _ _ _ (change_kept s st r) (after_kept ss (next s st) (change s st r))

-- ---- a typeless row is resolved by the addresses among the lines of granted resolutions
module _ (c : Option Catalogue) (ls : List Line) (r : Extern) (typeless : r.typed ≡ None) where
  given_mark : (given c ls r).resolved ≡ (given_address (first_address r.name ls) r).resolved
  given_mark = search rules

  pub mark_named : r.resolved ≡ false → (given c ls r).resolved ≡ true → (a : ℕ) × Tells ls r.name a
  mark_named u m =
      cond_both (r.resolved || eqb (first_address r.name ls) 0) r (resolved_to r.id (Some (first_address r.name ls)) r) (λ (x : Extern). x.resolved ≡ true → (a : ℕ) × Tells ls r.name a)
      (λ _ t. absurd (both_ways _ u t))
      (λ o _. let z = eqb-false _ 0 (or_parts _ _ o).1 in (first_address r.name ls, (found_in r.name ls z, z)))
      (sym given_mark ∙ m)

  pub named_mark : (a : ℕ) → Tells ls r.name a → (given c ls r).resolved ≡ true
  named_mark a h = search (rules, given_mark, in_found, eqb-true)

module _ (st : State) (r : Extern) (typeless : r.typed ≡ None) where
  change_named : (s : Step) → r.resolved ≡ false → (change s st r).resolved ≡ true → (granted s st ≡ true) × ListedBy s r.name
  unfolding change
  change_named (resolve c ls e) u m =
      ⊎_elim
      (λ g. (g, mark_named c (map said ls) r typeless u (sym (ap (λ x. x.resolved) (cond-true (granted (resolve c ls e) st) (given c (map said ls) r) r g)) ∙ m)))
      (λ g. absurd (both_ways _ u (sym (ap (λ x. x.resolved) (cond-false (granted (resolve c ls e) st) (given c (map said ls) r) r g)) ∙ m)))
      (cases_Bool (granted (resolve c ls e) st))
  change_named fixup u m = absurd (both_ways _ u m)
  change_named (relocate p) u m = absurd (both_ways _ u m)

  named_change : (s : Step) → granted s st ≡ true → ListedBy s r.name → (change s st r).resolved ≡ true
  unfolding change
  named_change (resolve c ls e) g (a, h) = ap (λ x. x.resolved) (cond-true (granted (resolve c ls e) st) (given c (map said ls) r) r g) ∙ named_mark c (map said ls) r typeless a h
  named_change fixup g n = absurd n
  named_change (relocate p) g n = absurd n

pub resolved_found : (ss : List Step) (st : State) (r : Extern) → r.typed ≡ None → r.resolved ≡ false → (after ss st r).resolved ≡ true → FoundBy ss st r.name
unfolding after
resolved_found [] st r n u m = absurd (both_ways _ u m)
resolved_found (s ∷ ss) st r n u m =
    let k = change_kept s st r in
    ⊎_elim
    (λ t. inl (change_named st r n s u t))
    (λ t. inr (subst (FoundBy ss (next s st)) (kept_name k) (resolved_found ss (next s st) (change s st r) (kept_typed k ∙ n) t m)))
    (cases_Bool (change s st r).resolved)

pub found_resolved : (ss : List Step) (st : State) (r : Extern) → r.typed ≡ None → FoundBy ss st r.name → (after ss st r).resolved ≡ true
unfolding after
found_resolved [] st r n f = absurd f
found_resolved (s ∷ ss) st r n (inl (g, h)) =
    let k = change_kept s st r in
    ((after_kept ss (next s st) (change s st r)).stands (kept_typed k ∙ n) (named_change st r n s g h)).0
found_resolved (s ∷ ss) st r n (inr f) =
    let k = change_kept s st r in
    found_resolved ss (next s st) (change s st r) (kept_typed k ∙ n) (subst (FoundBy ss (next s st)) (sym (kept_name k)) f)

-- so what is wanted is known from the calls before
module _ (ss : List Step) (st : State) (r : Extern) where
  pub wanted-Wanted : wanted (after ss st r) ≡ true → Wanted ss st r
  wanted-Wanted w = search (rules, kept_typed, after_kept, none_is, not-true, both_ways, found_resolved)

  pub Wanted-wanted : r.resolved ≡ false → Wanted ss st r → wanted (after ss st r) ≡ true
  Wanted-wanted u h = search (rules, kept_typed, after_kept, resolved_found)
