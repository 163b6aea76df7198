-- When a resolution is granted.
use Rattle.std.proofs.Common.{rules, ◌≡◌, ℕ, Bool, true, false, ◌&&◌, ◌↔◌, List, map, is_some, Some, None, Option, sym, refl, ap, ◌∙◌, subst, inl, inr, ⊎_elim}
use Rattle.std.specs.List.{list_any}
use Rattle.std.proofs.lemmas.Bool.{cond_both, both_ways, cases_Bool, eqb-true, and_parts, not-true}
use Rattle.std.specs.Str.{bytes_eq}
use Rattle.std.proofs.lemmas.Slice.Eq.{bytes_eq-Decides}
use Rattle.kallsyms.specs.Ends.{End, clean}
use Rattle.model.specs.Externs.{Extern}
use Rattle.model.specs.Laws.{TypedCondition, Wanted, FindsRow, LinesAnswer, LineCondition}
use Rattle.model.specs.Lines.{Line, said, first_address}
use Rattle.model.specs.Lines.Line.{line, short}
use Rattle.model.specs.Lists.{In, lookup}
use Rattle.model.specs.Resolve.{catalogue_refusal, strong_typed, typed_refusal, wanted, address_refusal, wanted_refusal, line_refusal, end_refusal, missing_refusal, lines_refusal}
use Rattle.model.specs.Runs.{State, Step, fits, granted, runs}
use Rattle.model.specs.Runs.Step.{resolve}
use Rattle.model.specs.Tables.{Catalogue}
use Rattle.model.proofs.Granted.{Clear, clear, clear_granted, lines_parts, lines_from, none_missing}
use Rattle.model.proofs.History.{marked, Kept, kept_name, kept_weak, after, runs_after, after_kept, wanted-Wanted, Wanted-wanted}
use Rattle.model.proofs.Listed.{found_in, in_found}
use Rattle.model.proofs.Lookups.{some_is, first_none, none_first, any_in, any_some, lookup_in, lookup_none, in_map, map_in, when_parts}

-- ---- one line
refused_parts : (x : Extern) (i a : ℕ) (o : Option ℕ) → address_refusal x i a o ≡ None → (is_some o ≡ true) × ((b : ℕ) → o ≡ Some b → (b ≡ 0 → ⊥) → a ≡ b)
refused_parts x i a o h = search rules

refused_from : (x : Extern) (i a : ℕ) (o : Option ℕ) → is_some o ≡ true → ((b : ℕ) → o ≡ Some b → (b ≡ 0 → ⊥) → a ≡ b) → address_refusal x i a o ≡ None
refused_from x i a o t h = search rules

-- what a reading with nothing to refuse says of the lines of a wanted row
pub judged :
    (rows : List Extern) (ls : List Line) (e : End) (r : Extern) (o : Option ℕ)
    → lines_refusal rows ls e ≡ None
    → In r rows
    → wanted r ≡ true
    → In (line r.name o) ls
    → (is_some o ≡ true) × ((b : ℕ) → o ≡ Some b → (b ≡ 0 → ⊥) → first_address r.name ls ≡ b)
judged rows ls e r o h i w j = search (rules, none_first, lines_parts, any_in, both_ways, lookup_none, bytes_eq-Decides, refused_parts, some_is)

pub not_missing : (ls : List Line) (r : Extern) → missing_refusal ls r ≡ None → wanted r ≡ true → r.weak ≡ false → first_address r.name ls ≡ 0 → ⊥
not_missing ls r h w s z = search rules

end_clean : (e : End) → end_refusal e ≡ None → e ≡ clean
end_clean e h = search rules

-- ---- the two conditions, of rows that calls have changed and that W says are wanted
module _
    (rows : List Extern)
    (f : Extern → Extern)
    (kept : (r : Extern) → Kept r (f r))
    (W : Extern → Type 0)
    (to : (r : Extern) → In r rows → wanted (f r) ≡ true → W r)
    (from : (r : Extern) → In r rows → W r → wanted (f r) ≡ true)
    (raw : List (List ℕ))
    (e : End)
  where
    abbrev ls : List Line
    ls = map said raw

    named : (r : Extern) (o : Option ℕ) → In (line r.name o) ls → In (line (f r).name o) ls
    named r o = search rules

    judged_row : lines_refusal (map f rows) ls e ≡ None → (r : Extern) (o : Option ℕ) → In r rows → W r → In (line r.name o) ls → (is_some o ≡ true) × ((b : ℕ) → o ≡ Some b → (b ≡ 0 → ⊥) → first_address (f r).name ls ≡ b)
    judged_row h r o i w j = judged (map f rows) ls e (f r) o h (in_map f rows r i) (from r i w) (named r o j)

    pub lines_condition : lines_refusal (map f rows) ls e ≡ None → LineCondition W rows raw e
    lines_condition h =
        ⊎_elim
        (λ t. inr (record {
          clean = end_clean e (lines_parts (map f rows) ls e h t).1;
          reads = λ r o i w j. (judged_row h r o i w j).0;
          equal = λ r a b i w p q. sym ((judged_row h r (Some a) i w p.0).1 a refl p.1) ∙ (judged_row h r (Some b) i w q.0).1 b refl q.1;
          strong = λ r i w s.
              let z = not_missing ls (f r) (none_missing (map f rows) ls e h (f r) (in_map f rows r i)) (from r i w) (kept_weak (kept r) ∙ s) in
              (first_address (f r).name ls, (subst (λ n. In (line n (Some (first_address (f r).name ls))) ls) (kept_name (kept r)) (found_in (f r).name ls z), z));
        }))
        (λ t. inl (λ r i w. both_ways _ t (any_in wanted (map f rows) (f r) (in_map f rows r i) (from r i w))))
        (cases_Bool (list_any wanted (map f rows)))

    module _ (c : LinesAnswer W rows raw e) where
      line_clear : (l : Line) → In l ls → line_refusal (map f rows) ls l ≡ None
      line_clear (line n o) i =
          let has : Extern → Bool = λ q. wanted q && bytes_eq q.name n in
          ⊎_elim
          (λ k. ap (λ q. wanted_refusal q (first_address n ls) o) k)
          (λ k.
          let p = lookup_in has 0 (map f rows) k.0 k.1 in
          let q = map_in f rows k.0.1 p.0 in
          let t = and_parts _ _ p.1 in
          let r = q.0 in
          let w = to r q.1 (ap wanted q.2 ∙ t.0) in
          let e' : r.name ≡ n = sym (kept_name (kept r)) ∙ ap (λ x. x.name) q.2 ∙ (bytes_eq-Decides _ _).0 t.1 in
          let j : In (line r.name o) ls = subst (λ m. In (line m o) ls) (sym e') i in
          ap (λ x. wanted_refusal x (first_address n ls) o) k.1
          ∙ refused_from k.0.1 k.0.0 (first_address n ls) o (c.reads r o q.1 w j)
          (λ b s nz.
          let jb : In (line r.name (Some b)) ls = subst (λ o. In (line r.name o) ls) s j in
          let fz = in_found r.name ls b (jb, nz) in
          ap (λ m. first_address m ls) (sym e') ∙ c.equal r (first_address r.name ls) b q.1 w (found_in r.name ls fz, fz) (jb, nz)))
          (some_is (lookup has 0 (map f rows)))
      line_clear short i = refl

      row_clear : (x : Extern) → In x (map f rows) → missing_refusal ls x ≡ None
      row_clear x i = search (rules, map_in, kept_weak, not-true, in_found, eqb-true)

    pub condition_lines : LineCondition W rows raw e → lines_refusal (map f rows) ls e ≡ None
    condition_lines h = search (rules, lines_from, any_some, map_in, first_none, line_clear, row_clear)

-- ---- typed rows
typed_marked : (c : Option Catalogue) (b : Bool) (i a : Option ℕ) (r : Extern) → typed_refusal c (marked b i a r) ≡ typed_refusal c r
typed_marked c b i a r = search rules

typed_kept : (c : Option Catalogue) {r q : Extern} → Kept r q → typed_refusal c q ≡ typed_refusal c r
typed_kept c {r} {q} k = search (rules, typed_marked)

refusal_finds : (c : Option Catalogue) (x : Extern) → catalogue_refusal c x ≡ None → FindsRow c x
refusal_finds c x h = search rules

finds_refusal : (c : Option Catalogue) (x : Extern) → FindsRow c x → catalogue_refusal c x ≡ None
finds_refusal c x h = search rules

-- ---- the law, of externs that no call has touched
pub after_calls :
    (st : State) (before : List Step) (c : Option Catalogue) (ls : List (List ℕ)) (e : End)
    → ((x : Extern) → In x st.object.externs → x.resolved ≡ false)
    → fits (resolve c ls e) (runs before st) ≡ true
    → (granted (resolve c ls e) (runs before st) ≡ true) ↔ (TypedCondition c st.object.externs × LineCondition (Wanted before st) st.object.externs ls e)
after_calls st before c ls e fresh form =
    let rows = st.object.externs in
    let f = after before st in
    let to : (r : Extern) → In r rows → wanted (f r) ≡ true → Wanted before st r = λ r _ w. wanted-Wanted before st r w in
    let from : (r : Extern) → In r rows → Wanted before st r → wanted (f r) ≡ true = λ r i w. Wanted-wanted before st r (fresh r i) w in (
      λ g.
          let k = subst (Clear c ls e) (runs_after before st) (clear c ls e (runs before st) g) in (
            λ r i s. refusal_finds c r (when_parts (strong_typed r) _ (sym (typed_kept c (after_kept before st r)) ∙ k.typed (f r) (in_map f rows r i)) s),
            lines_condition rows f (after_kept before st) (Wanted before st) to from ls e k.lines,
          ),
      λ h. clear_granted c ls e (runs before st) form (subst (Clear c ls e) (sym (runs_after before st)) (record {
        typed = λ x i.
            let q = map_in f rows x i in
            ap (typed_refusal c) (sym q.2) ∙ typed_kept c (after_kept before st q.0)
            ∙ cond_both (strong_typed q.0) _ None (λ o. o ≡ None) (λ s. finds_refusal c q.0 (h.0 q.0 q.1 s)) (λ _. refl);
        lines = condition_lines rows f (after_kept before st) (Wanted before st) to from ls e h.1;
      })),
    )
