-- Weak for strong: what is granted on an object is granted with some of its externs made weak, and ends alike.
use Rattle.std.proofs.Common.{rules, ◌≡◌, ℕ, suc, Bool, true, false, cond, not, ◌&&◌, List, [], ◌∷◌, map, is_ok, Some, None, Ok, Err, Option, Result, sym, refl, ap, ◌∙◌, subst, inl, inr}
use Rattle.std.specs.Str.{bytes_eq}
use Rattle.std.proofs.lemmas.Bool.{cond-true}
use Rattle.std.proofs.lemmas.Option.{none-some}
use Rattle.kallsyms.specs.Ends.{End}
use Rattle.model.specs.Collect.{collect}
use Rattle.model.specs.Collected.{distinct, externs_fit, collected_if_any, object_fits}
use Rattle.model.specs.Externs.{Extern, Object}
use Rattle.model.specs.Fixup.{fixed_for, fix_refusal_for}
use Rattle.model.specs.Laws.{AllGranted, SameButWeak, FollowsAlike, WeakForStrong, WeakerSteps, weaker_symbol, weaker_symbols, weaker_step}
use Rattle.model.specs.Lines.{Line, said}
use Rattle.model.specs.Lists.{In}
use Rattle.model.specs.Spans.{part}
use Rattle.model.specs.Relocate.{Program, program_fits, Taken, taken, patch_found, patch_name, patch_symbol, patch, patched}
use Rattle.model.specs.Resolve.{typed_refusal, wanted, wanted_refusal, line_refusal, missing_refusal, lines_refusal, given}
use Rattle.model.specs.Runs.{State, Step, fits, reason, answered, granted, made, patched_code, next, runs}
use Rattle.model.specs.Runs.Step.{resolve, fixup, relocate}
use Rattle.model.specs.Slots.{slots, slots_bytes}
use Rattle.model.specs.Tables.{Tables, Symbols, Catalogue}
use Rattle.model.specs.declared.refusal.Call.TheVariants as made_by
use Rattle.model.specs.declared.refusal.Reason.{Reason}
use Rattle.model.specs.declared.rows.Slot.{Slot}
use Rattle.model.specs.declared.rows.Span.{Span}
use Rattle.model.specs.declared.rows.Symbol.{Symbol}
use Rattle.model.proofs.Granted.{granted_parts, granted_from, Clear, clear, lines_parts, lines_from, none_missing, go_on}
use Rattle.model.proofs.Lookups.{option_or_from, first_none, none_first}
use Rattle.model.proofs.WeakCollect.{rows_masked, changed_is, symbols_fit_weak, masked_length, in_masked, map_masked, any_masked, all_masked, Found, lookup_masked, weaker, weakened, weakened_object, Alike, collect_alike}

abbrev weakened_state : (ℕ → Bool) → State → State
weakened_state m st = record { object = weakened_object m st.object; code = st.code }

-- ---- the object is as well-formed
distinct_weak : (m : ℕ → Bool) (xs : List Extern) → distinct (weakened m xs) ≡ distinct xs
distinct_weak m [] = refl
distinct_weak m (x ∷ xs) = λ i.
    not (any_masked weaker (λ y. bytes_eq y.name x.name) (λ b y. refl) (λ j. m (suc j)) xs i) && distinct_weak (λ j. m (suc j)) xs i

externs_fit_weak : (t : Tables) (m : ℕ → Bool) (xs : List Extern) → externs_fit t (weakened m xs) ≡ externs_fit t xs
externs_fit_weak t m xs = search (rules, all_masked, distinct_weak)

collected_weak : (m : ℕ → Bool) (o : Object) (xs : List Extern) → collected_if_any (weakened_object m o) (weakened m xs) ≡ collected_if_any o xs
collected_weak m o xs = search (rules, externs_fit_weak)

object_fits_weak : (m : ℕ → Bool) (o : Object) → object_fits (weakened_object m o) ≡ object_fits o
object_fits_weak m o = search (rules, masked_length, collected_weak)

fits_weak : (s : Step) (m : ℕ → Bool) (st : State) → fits s (weakened_state m st) ≡ fits s st
fits_weak s m st = search (rules, object_fits_weak)

-- ---- a granted resolution is granted
typed_weak : (c : Option Catalogue) (b : Bool) (x : Extern) → typed_refusal c x ≡ None → typed_refusal c (weaker b x) ≡ None
typed_weak c b x h = search rules

missing_weak : (ls : List Line) (b : Bool) (x : Extern) → missing_refusal ls x ≡ None → missing_refusal ls (weaker b x) ≡ None
missing_weak ls b x h = search rules

line_same : (a : ℕ) (b : Option ℕ) (o q : Option (ℕ × Extern)) → Found weaker o q → wanted_refusal q a b ≡ wanted_refusal o a b
line_same a b o q w = search rules

line_weak : (m : ℕ → Bool) (xs : List Extern) (ls : List Line) (l : Line) → line_refusal (weakened m xs) ls l ≡ line_refusal xs ls l
line_weak m xs ls l = search (rules, line_same, lookup_masked)

lines_weak : (m : ℕ → Bool) (xs : List Extern) (ls : List Line) (e : End) → lines_refusal xs ls e ≡ None → lines_refusal (weakened m xs) ls e ≡ None
lines_weak m xs ls e h =
    lines_from (weakened m xs) ls e (λ t.
    let p = lines_parts xs ls e h (sym (any_masked weaker wanted (λ b x. refl) m xs) ∙ t) in (
      first_none (line_refusal (weakened m xs) ls) 0 ls (λ l i. line_weak m xs ls l ∙ none_first (line_refusal xs ls) 0 ls p.0 l i),
      p.1,
      first_none (missing_refusal ls) 0 (weakened m xs) (λ y i.
          let k = in_masked weaker m xs y i in
          ap (missing_refusal ls) k.3 ∙ missing_weak ls k.0 k.1 (none_first (missing_refusal ls) 0 xs p.2 k.1 k.2)),
    ))

clear_weak : (m : ℕ → Bool) (c : Option Catalogue) (ls : List (List ℕ)) (e : End) (xs : List Extern) → Clear c ls e xs → Clear c ls e (weakened m xs)
clear_weak m c ls e xs k = search (rules, in_masked, typed_weak, lines_weak)

-- ---- what a granted resolution sets
given_weak : (c : Option Catalogue) (ls : List Line) (b : Bool) (x : Extern) → typed_refusal c x ≡ None → missing_refusal ls x ≡ None → given c ls (weaker b x) ≡ weaker b (given c ls x)
given_weak c ls b x h k = search rules

map_weak :
    (f : Extern → Extern) (m : ℕ → Bool) (xs : List Extern)
    → ((b : Bool) (x : Extern) → In x xs → f (weaker b x) ≡ weaker b (f x))
    → map f (weakened m xs) ≡ weakened m (map f xs)
map_weak f m [] h = refl
map_weak f m (x ∷ xs) h = λ i. h (m 0) x (inl refl) i ∷ map_weak f (λ j. m (suc j)) xs (λ b y j. h b y (inr j)) i

-- ---- relocations
-- what the first grants, the second grants alike
abbrev Same : {X : Type 0} → Result X Reason → Result X Reason → Type 0
Same {X} p q = (x : X) → p ≡ Ok x → q ≡ Ok x

cond_same : {X : Type 0} (b : Bool) (p q p' q' : Result X Reason) → Same p p' → Same q q' → Same (cond b p q) (cond b p' q')
cond_same true p q p' q' h k = h
cond_same false p q p' q' h k = k

module _ (code : List Slot) (t : Taken) where
  found_weak : (name : Span) (o q : Option (ℕ × Extern)) → Found weaker o q → Same (patch_found o name t code) (patch_found q name t code)
  found_weak name o q w x e = search rules

  module _ (m : ℕ → Bool) (xs : List Extern) where
    name_weak : (names : List ℕ) (o : Option Span) → Same (patch_name xs names o t code) (patch_name (weakened m xs) names o t code)
    name_weak names None = λ x e. e
    name_weak names (Some n) = found_weak n _ _ (lookup_masked weaker (λ x. bytes_eq x.name (part names n)) (λ b x. refl) 0 m xs)

    symbol_weak : (names : List ℕ) (o : Option (ℕ × Symbol)) → Same (patch_symbol xs names o t code) (patch_symbol (weakened m xs) names o t code)
    symbol_weak names o = search (rules, name_weak)

    patch_weak : (ss : Symbols) → Same (patch xs ss t code) (patch (weakened m xs) ss t code)
    patch_weak ss = search (rules, cond_same, symbol_weak)

patched_weak : (m : ℕ → Bool) (xs : List Extern) (ss : Symbols) (ts : List Taken) (code : List Slot) → (patched xs ss ts code).1 ≡ None → patched (weakened m xs) ss ts code ≡ patched xs ss ts code
patched_weak m xs ss [] code h = refl
patched_weak m xs ss (t ∷ ts) code h =
    let again : (p : Result (List Slot) Reason) → patch xs ss t code ≡ p → (go_on xs ss ts code p).1 ≡ None → go_on (weakened m xs) ss ts code (patch (weakened m xs) ss t code) ≡ go_on xs ss ts code p =
    elim [
      | Ok new ↦ λ e k. ap (go_on (weakened m xs) ss ts code) (patch_weak code t m xs ss new e) ∙ patched_weak m xs ss ts new k
      | Err e ↦ λ q k. absurd (none-some e (sym k))
    ] in
    again (patch xs ss t code) refl h

-- ---- one call
fix_weak : (m : ℕ → Bool) (xs : List Extern) (p : Option ℕ) (t : Tables) → (fix_refusal_for (weakened m xs) p t ≡ fix_refusal_for xs p t) × (fixed_for (weakened m xs) p t ≡ fixed_for xs p t)
fix_weak m xs p t = search rules

-- a call that meets no refusal meets none, makes the same object but for the weak marks, and the same code
record Follows (s : Step) (m : ℕ → Bool) (st : State) : Type 0 where
  pub clears : reason s (weakened_state m st) ≡ None
  pub object : made s (weakened_object m st.object) ≡ weakened_object m (made s st.object)
  pub code : patched_code s (weakened_state m st) ≡ patched_code s st

follows : (s : Step) (m : ℕ → Bool) (st : State) → granted s st ≡ true → Follows s m st
follows (resolve c ls e) m st g =
    let k = clear c ls e st g in
    let xs = st.object.externs in
    let w = clear_weak m c ls e xs k in
    record {
      clears = option_or_from _ _ (first_none (typed_refusal c) 0 (weakened m xs) w.typed) w.lines;
      object = λ i. record {
        tables = st.object.tables;
        externs = map_weak (given c (map said ls)) m xs (λ b x j. given_weak c (map said ls) b x (k.typed x j) (none_missing xs (map said ls) e k.lines x j)) i;
        placeholder = st.object.placeholder;
      };
      code = refl;
    }
follows fixup m st g =
    let o = st.object in
    let f = fix_weak m o.externs o.placeholder o.tables in
    record {
      clears = f.0 ∙ (granted_parts fixup st g).1;
      object = λ i. record { tables = f.1 i; externs = weakened m o.externs; placeholder = o.placeholder };
      code = refl;
    }
follows (relocate p) m st g =
    let r = (granted_parts (relocate p) st g).1 in
    let q = patched_weak m st.object.externs p.symbols (taken p.functions p.relocations) (slots st.code) r in
    record { clears = ap (λ k. k.1) q ∙ r; object = refl; code = ap (λ k. slots_bytes k.0) q }

granted_weak : (s : Step) (m : ℕ → Bool) (st : State) → granted s st ≡ true → granted s (weakened_state m st) ≡ true
granted_weak s m st g = granted_from s (weakened_state m st) (fits_weak s m st ∙ (granted_parts s st g).0) (follows s m st g).clears

next_weak : (s : Step) (m : ℕ → Bool) (st : State) → granted s st ≡ true → next s (weakened_state m st) ≡ weakened_state m (next s st)
next_weak s m st g =
    let f = follows s m st g in
    let a : granted s (weakened_state m st) ≡ true = granted_weak s m st g in
    let b : fits s (weakened_state m st) ≡ true = fits_weak s m st ∙ (granted_parts s st g).0 in
    let object : (next s (weakened_state m st)).object ≡ weakened_object m (next s st).object =
    cond-true (granted s (weakened_state m st)) _ _ a ∙ f.object ∙ ap (weakened_object m) (sym (cond-true (granted s st) (made s st.object) st.object g)) in
    let code : (next s (weakened_state m st)).code ≡ (next s st).code =
    cond-true (fits s (weakened_state m st)) _ _ b ∙ f.code ∙ sym (cond-true (fits s st) (patched_code s st) st.code (granted_parts s st g).0) in
    λ i. record { object = object i; code = code i }

-- ---- a list of calls
runs_weak : (m : ℕ → Bool) (ss : List Step) (st : State) → AllGranted ss st → AllGranted ss (weakened_state m st) × (runs ss (weakened_state m st) ≡ weakened_state m (runs ss st))
runs_weak m [] st g = (tt, refl)
runs_weak m (s ∷ ss) st g =
    let n = next_weak s m st g.0 in
    let rest = runs_weak m ss (next s st) g.1 in
    ((granted_weak s m st g.0, subst (AllGranted ss) (sym n) rest.0), ap (runs ss) n ∙ rest.1)

same_weak : (m : ℕ → Bool) (st : State) → SameButWeak st (weakened_state m st)
same_weak m st = search (rules, map_masked)

-- ---- calls that bring symbols declared weak
abbrev weaker_program : (ℕ → Bool) → Program → Program
weaker_program m p = record { functions = p.functions; relocations = p.relocations; symbols = weaker_symbols m p.symbols }

symbol_marks : (xs : List Extern) (names : List ℕ) (t : Taken) (code : List Slot) (o q : Option (ℕ × Symbol)) → Found weaker_symbol o q → patch_symbol xs names q t code ≡ patch_symbol xs names o t code
symbol_marks xs names t code o q w = search rules

module _ (xs : List Extern) (m : ℕ → Bool) (ss : Symbols) where
  abbrev ww : Symbols
  ww = weaker_symbols m ss

  patch_marks : (t : Taken) (code : List Slot) → patch xs ww t code ≡ patch xs ss t code
  patch_marks t code = search (rules, rows_masked, symbol_marks, lookup_masked)

  patched_marks : (ts : List Taken) (code : List Slot) → patched xs ww ts code ≡ patched xs ss ts code
  patched_marks ts code = search (rules, patch_marks)

fits_marks : (m : ℕ → Bool) (p : Program) (code : List ℕ) → program_fits (weaker_program m p) code ≡ program_fits p code
fits_marks m p code = search (rules, changed_is, symbols_fit_weak)

record SameStep (s t : Step) (st : State) : Type 0 where
  pub grants : granted t st ≡ granted s st
  pub makes : next t st ≡ next s st

same_step : (m : ℕ → Bool) (s : Step) (st : State) → SameStep s (weaker_step m s) st
same_step m (resolve c ls e) st = record { grants = refl; makes = refl }
same_step m fixup st = record { grants = refl; makes = refl }
same_step m (relocate p) st =
    let f = ap (λ b. object_fits st.object && b) (fits_marks m p st.code) in
    let r = patched_marks st.object.externs m p.symbols (taken p.functions p.relocations) (slots st.code) in
    let g : granted (relocate (weaker_program m p)) st ≡ granted (relocate p) st = λ i. is_ok (answered made_by.Relocate (cond (f i) (r i).1 (Some Reason.InvalidTable))) in
    record {
      grants = g;
      makes = λ i. record { object = cond (g i) st.object st.object; code = cond (f i) (slots_bytes (r i).0) st.code };
    }

same_steps : (ss ts : List Step) (st : State) → WeakerSteps ss ts → AllGranted ss st → AllGranted ts st × (runs ts st ≡ runs ss st)
same_steps [] [] st w g = (tt, refl)
same_steps [] (t ∷ ts) st w g = absurd w
same_steps (s ∷ ss) [] st w g = absurd w
same_steps (s ∷ ss) (t ∷ ts) st ((m, e), w) (g, gs) =
    let k = same_step m s st in
    let n : next t st ≡ next s st = ap (λ x. next x st) e ∙ k.makes in
    let rest = same_steps ss ts (next s st) w gs in
    ((ap (λ x. granted x st) e ∙ k.grants ∙ g, subst (AllGranted ts) (sym n) rest.0), ap (runs ts) n ∙ rest.1)

follows_alike : (m : ℕ → Bool) (o : Object) → FollowsAlike o (weakened_object m o)
follows_alike m o code ss ts w g =
    let st : State = record { object = o; code = code } in
    let a = runs_weak m ss st g in
    let b = same_steps ss ts (weakened_state m st) w a.0 in
    (b.0, subst (SameButWeak (runs ss st)) (sym (b.1 ∙ a.1)) (same_weak m (runs ss st)))

-- ---- the law
pub weak_for_strong : WeakForStrong
weak_for_strong =
    record {
      refused = λ t ss m e h. subst (λ r. Alike weakened_object r (collect t (weaker_symbols m ss))) h (collect_alike t m ss);
      granted = λ t ss m o h.
          let k : Alike weakened_object (Ok o) (collect t (weaker_symbols m ss)) = subst (λ r. Alike weakened_object r (collect t (weaker_symbols m ss))) h (collect_alike t m ss) in
          (weakened_object k.0 o, k.1, refl, follows_alike k.0 o);
    }
