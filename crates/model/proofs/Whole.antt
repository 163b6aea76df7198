-- Runs of a collected object: it stays well-formed, and the laws of every list of calls.
use Rattle.std.proofs.lemmas.Grind.{common_steps}
use Rattle.std.proofs.Common.{rules, ◌≡◌, ℕ, ◌+◌, ◌≤◌, Bool, true, cond, not, ◌&&◌, ◌||◌, ◌⊎◌, List, [], ◌∷◌, map, length, Option, sym, refl, ap, ◌∙◌, subst, inl, inr, ⊎_elim, arith}
use Rattle.std.specs.List.{list_any, list_all}
use Rattle.std.specs.Str.{bytes_eq}
use Rattle.std.proofs.lemmas.List.{length-map}
use Rattle.std.proofs.lemmas.Bool.{cond-true, cond_both, cases_Bool, and_from, and_right, false_from_ne_true}
use Rattle.model.specs.Added.{int_name, with_int}
use Rattle.model.specs.Collected.{distinct, externs_fit, collected_if_any, object_fits}
use Rattle.model.specs.Externs.{Extern, Object}
use Rattle.model.specs.Fixup.{fixed, fixed_for, int_of}
use Rattle.model.specs.Laws.{Starts, GrantedExactlyWhen, StaysWellFormed, AddressStands, NamesFindTheirExtern}
use Rattle.model.specs.Lines.{said}
use Rattle.model.specs.Resolve.{given}
use Rattle.model.specs.Runs.{State, Step, fits, granted, made, next, runs}
use Rattle.model.specs.Runs.Step.{resolve, fixup, relocate}
use Rattle.model.specs.StepLaws.{FixupTwiceIsOnce, RoomSuffices}
use Rattle.model.specs.Tables.{Tables}
use Rattle.model.proofs.Coded.{runs_length}
use Rattle.model.proofs.Collects.{collection_collects, collect_untouched, collect_distinct, collect_placeholder}
use Rattle.model.proofs.Fixes.{object_collected, fixed_fits, done, done_is, with_one, section_rewritten}
use Rattle.model.proofs.Granted.{granted_parts}
use Rattle.model.proofs.Grants.{after_calls}
use Rattle.model.proofs.History.{Kept, given_kept, kept_name, after, runs_after}
use Rattle.model.proofs.Grown.{alike_length}
use Rattle.model.proofs.Left.{refused_changes_nothing}
use Rattle.model.proofs.OtherReasons.{reason_not}
use Rattle.model.proofs.Stands.{call_stands, named_row}
use Rattle.model.proofs.Twice.{GlobalVar, fixed_twice}

-- ---- resolution keeps what the test of an object reads
module _ (f : Extern → Extern) (kept : (x : Extern) → Kept x (f x)) where
  all_map : (p : Extern → Bool) → ((x : Extern) → p (f x) ≡ p x) → (xs : List Extern) → list_all p (map f xs) ≡ list_all p xs
  all_map p h [] = refl
  all_map p h (x ∷ xs) = λ i. h x i && all_map p h xs i

  any_map : (p q : Extern → Bool) → ((x : Extern) → p (f x) ≡ q x) → (xs : List Extern) → list_any p (map f xs) ≡ list_any q xs
  any_map p q h [] = refl
  any_map p q h (x ∷ xs) = λ i. h x i || any_map p q h xs i

  distinct_map : (xs : List Extern) → distinct (map f xs) ≡ distinct xs
  distinct_map [] = refl
  distinct_map (x ∷ xs) =
      λ i. not (any_map (λ y. bytes_eq y.name (f x).name) (λ y. bytes_eq y.name x.name) (λ y j. bytes_eq (kept_name (kept y) j) (kept_name (kept x) j)) xs i) && distinct_map xs i

  externs_map : (t : Tables) (xs : List Extern) → externs_fit t (map f xs) ≡ externs_fit t xs
  externs_map t xs = search (rules, all_map, distinct_map)

  collected_map : (o : Object) (xs : List Extern) → o.externs ≡ xs → collected_if_any (record { tables = o.tables; externs = map f o.externs; placeholder = o.placeholder }) (map f xs) ≡ collected_if_any o xs
  collected_map o xs e = search (rules, externs_map)

  object_map : (o : Object) → object_fits (record { tables = o.tables; externs = map f o.externs; placeholder = o.placeholder }) ≡ object_fits o
  object_map o = search (rules, length-map, collected_map)

-- ---- what holds of an object all along a run
pub record Sound (o : Object) : Type 0 where
  pub fit : object_fits o ≡ true
  pub global : GlobalVar o.placeholder o.tables

pub start_sound : (st : State) → Starts st → Sound st.object
start_sound st s =
    record {
      fit = collection_collects.fits s.tables s.symbols st.object s.collected;
      global = collect_placeholder s.tables s.symbols st.object s.collected;
    }

made_sound : (s : Step) (st : State) → Sound st.object → granted s st ≡ true → Sound (made s st.object)
made_sound (resolve c ls e) st k g = record { fit = object_map (given c (map said ls)) (given_kept c (map said ls)) st.object ∙ k.fit; global = k.global }
made_sound fixup st k g =
    let r = (granted_parts fixup st g).1 in
    record { fit = fixed_fits st.object k.fit r; global = (fixed_twice st.object k.fit k.global r).2 }
made_sound (relocate p) st k g = k

next_sound : (s : Step) (st : State) → Sound st.object → Sound (next s st).object
next_sound s st k = cond_both (granted s st) (made s st.object) st.object Sound (λ g. made_sound s st k g) (λ _. k)

runs_sound : (ss : List Step) (st : State) → Sound st.object → Sound (runs ss st).object
runs_sound [] st k = k
runs_sound (s ∷ ss) st k = runs_sound ss (next s st) (next_sound s st k)

-- ---- the laws
pub stays_well_formed : StaysWellFormed
stays_well_formed = search (rules, runs_sound, start_sound, false_from_ne_true, reason_not, and_right)

pub granted_exactly_when : GrantedExactlyWhen
granted_exactly_when st before c ls e start form =
    after_calls st before c ls e (λ x i. (collect_untouched start.tables start.symbols st.object start.collected x i).0)
    (and_from _ _ (runs_sound before st (start_sound st start)).fit form)

pub address_stands : AddressStands
address_stands st before s later n a gave =
    let start = gave.start in
    call_stands st before s later n a start.bytes (λ x i. (collect_untouched start.tables start.symbols st.object start.collected x i).1) gave.nonzero gave.other gave.gives

pub names_find_their_extern : NamesFindTheirExtern
names_find_their_extern st x start i = named_row 0 st.object.externs x (collect_distinct start.tables start.symbols st.object start.collected) i

-- ---- fixup twice
twice : (st : State) → Sound st.object → next fixup (next fixup st) ≡ next fixup st
twice st k =
    ⊎_elim
    (λ g.
    let o = st.object in
    let r = (granted_parts fixup st g).1 in
    let t = fixed_twice o k.fit k.global r in
    let one : (next fixup st).object ≡ fixed o = cond-true (granted fixup st) (fixed o) o g in
    let same : (x : Object) → cond (granted fixup (next fixup st)) x x ≡ x = λ x. cond_both (granted fixup (next fixup st)) x x (λ y. y ≡ x) (λ _. refl) (λ _. refl) in
    let two : (next fixup (next fixup st)).object ≡ (next fixup st).object =
    ap (λ x. cond (granted fixup (next fixup st)) x (next fixup st).object) (ap fixed one ∙ t.1 ∙ sym one) ∙ same (next fixup st).object in
    let code : (next fixup (next fixup st)).code ≡ (next fixup st).code = cond_both (fits fixup (next fixup st)) (next fixup st).code (next fixup st).code (λ y. y ≡ (next fixup st).code) (λ _. refl) (λ _. refl) in
    λ i. record { object = two i; code = code i })
    (λ g. ap (next fixup) (refused_changes_nothing.fix st g))
    (cases_Bool (granted fixup st))

pub fixup_twice_is_once : FixupTwiceIsOnce
fixup_twice_is_once st before start = twice (runs before st) (runs_sound before st (start_sound st start))

-- ---- room
record Room (o u : Object) : Type 0 where
  types : length u.tables.types ≤ length o.tables.types + 1
  strings : length u.tables.strings ≤ length o.tables.strings + length int_name
  entries : length u.tables.entries ≡ length o.tables.entries
  params : length u.tables.params ≡ length o.tables.params

same_room : (o u : Object) → u.tables ≡ o.tables → Room o u
same_room o u e = search rules

-- an int row takes one row and its name, and the rest is rewritten in place
int_room : (t : Tables) (o : Option ℕ) → (length (with_int o t).1.types ≤ length t.types + 1) × (length (with_int o t).1.strings ≤ length t.strings + length int_name) × ((with_int o t).1.entries ≡ t.entries) × ((with_int o t).1.params ≡ t.params)
int_room t o = grind (arith, common_steps)

fixed_room : (xs : List Extern) (o : Object) → o.externs ≡ xs → object_fits o ≡ true → Room o (record { tables = fixed_for xs o.placeholder o.tables; externs = o.externs; placeholder = o.placeholder })
fixed_room [] o e h = same_room o _ refl
fixed_room (x ∷ xs) o e h =
    let c = object_collected o x xs e h in
    let w = with_one o c in
    let r = section_rewritten o.placeholder c.section w.0 w.1 in
    let i = int_room o.tables (int_of o.placeholder o.tables.types) in
    let n = alike_length w.1.types (done o c).types r.types in
    let m = ap length r.strings in
    let a = i.0 in
    let b = i.1 in
    subst (λ t. Room o (record { tables = t; externs = o.externs; placeholder = o.placeholder })) (sym (done_is o c))
    (record { types = omega arith; strings = omega arith; entries = r.entries ∙ ap length i.2; params = r.params ∙ ap length i.3 })

-- nothing was rewritten yet, or a fixup changes nothing more
abbrev Grew : Object → Object → Type 0
Grew o u = (u.tables ≡ o.tables) ⊎ (Room o u × (fixed_for u.externs u.placeholder u.tables ≡ u.tables))

fixed_map : (f : Extern → Extern) (xs : List Extern) (p : Option ℕ) (t : Tables) → fixed_for (map f xs) p t ≡ fixed_for xs p t
fixed_map f xs p t = search rules

room_over : (o u v : Object) → u.tables ≡ o.tables → Room u v → Room o v
room_over o u v e r = search rules

room_on : (o u v : Object) → v.tables ≡ u.tables → Room o u → Room o v
room_on o u v e r = search rules

made_grew : (o : Object) (s : Step) (st : State) → Sound st.object → granted s st ≡ true → Grew o st.object → Grew o (made s st.object)
made_grew o (resolve c ls e) st k g (inl q) = inl q
made_grew o (resolve c ls e) st k g (inr (r, q)) =
    let u = st.object in
    inr (room_on o u (made (resolve c ls e) u) refl r, fixed_map (given c (map said ls)) u.externs u.placeholder u.tables ∙ q)
made_grew o fixup st k g q =
    let u = st.object in
    let t = fixed_twice u k.fit k.global (granted_parts fixup st g).1 in
    let idle : fixed_for u.externs u.placeholder (fixed u).tables ≡ (fixed u).tables = ap (λ (x : Object). x.tables) t.1 in
    inr (⊎_elim (λ e. room_over o u (fixed u) e (fixed_room u.externs u refl k.fit)) (λ r. room_on o u (fixed u) r.1 r.0) q, idle)
made_grew o (relocate p) st k g q = q

next_grew : (o : Object) (s : Step) (st : State) → Sound st.object → Grew o st.object → Grew o (next s st).object
next_grew o s st k q = cond_both (granted s st) (made s st.object) st.object (Grew o) (λ g. made_grew o s st k g q) (λ _. q)

runs_grew : (o : Object) (ss : List Step) (st : State) → Sound st.object → Grew o st.object → Grew o (runs ss st).object
runs_grew o [] st k q = q
runs_grew o (s ∷ ss) st k q = runs_grew o ss (next s st) (next_sound s st k) (next_grew o s st k q)

pub room_suffices : RoomSuffices
room_suffices st ss start =
    let o = st.object in
    let u = (runs ss st).object in
    let r : Room o u = ⊎_elim (λ e. same_room o u e) (λ q. q.0) (runs_grew o ss st (start_sound st start) (inl refl)) in
    record {
      types = r.types;
      strings = r.strings;
      entries = r.entries;
      params = r.params;
      externs = ap length (runs_after ss st) ∙ length-map o.externs (after ss st);
      code = runs_length ss st;
    }
