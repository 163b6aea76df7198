-- Collection is granted exactly if the tables are well-formed and there is no section, or one whose entries declare externs that there is room for.
use Rattle.std.proofs.Common.{rules, ◌≡◌, ℕ, suc, Bool, true, false, ◌&&◌, ltb, leb, List, [], ◌∷◌, length, Some, None, Ok, sym, refl, ap, ◌∙◌, subst, inl, inr, ⊎_elim}
use Rattle.std.specs.List.{list_any}
use Rattle.std.specs.Str.{bytes_eq}
use Rattle.std.proofs.lemmas.Bool.{true≢false, cases_Bool, cond-true, cond-false, and_from, lt-ltb, leb-true, le-leb}
use Rattle.std.proofs.lemmas.Option.{same_Some}
use Rattle.model.specs.Added.{first_int, with_int, with_placeholder, room_for_placeholder}
use Rattle.model.specs.Chain.{type_at}
use Rattle.model.specs.Collect.{section_of, entries_of, has_func, entry_read, duplicate, room_for_func, room_refusal, made, granted_unless, collect_rows, collect_entries, collect_section, collect}
use Rattle.model.specs.CollectLaws.{Declares, Section, CollectedExactlyWhen}
use Rattle.model.specs.Collected.{Distinct}
use Rattle.model.specs.Externs.{Extern, Object}
use Rattle.model.specs.Kinds.{is_func}
use Rattle.model.specs.Lists.{In, with_first, each, InTurn}
use Rattle.model.specs.Tables.{Tables, Symbols, MAX_EXTERNS, tables_fit, symbols_fit}
use Rattle.model.specs.declared.btf.BtfType.{BtfType}
use Rattle.model.specs.declared.btf.DataSecEntry.{DataSecEntry}
use Rattle.model.proofs.Lookups.{ok_same, option_or_from, none_any, not_same}
use Rattle.model.proofs.Collects.{each_turn, entry_is, no_func, some_func, names_apart, Passed, collect_fits, collect_passed}
use Rattle.model.proofs.TablesTested.{tables_are_tested}

-- ---- distinct names are no duplicates
no_duplicate : (before : List Extern) (n : ℕ) (xs : List Extern) → ((y x : Extern) → In y before → In x xs → y.name ≡ x.name → ⊥) → Distinct xs → duplicate before n xs ≡ None
no_duplicate before n [] h d = refl
no_duplicate before n (x ∷ xs) h d =
    cond-false (list_any (λ (y : Extern). bytes_eq y.name x.name) before) _ _
    (none_any (λ (y : Extern). bytes_eq y.name x.name) before (λ y j. not_same y.name x.name (h y x j (inl refl))))
    ∙ no_duplicate (x ∷ before) (suc n) xs
    (λ y z j i e. ⊎_elim (λ q. d.0 z i (sym e ∙ ap (λ (w : Extern). w.name) (sym q))) (λ k. h y z k (inr i) e) j) d.1

module _ (t : Tables) (ss : Symbols) where
  abbrev row : DataSecEntry → BtfType
  row e = type_at t.types e.btf_type

  -- ---- from the conditions to the grant
  -- an entry reads as what it declares
  reads : (n : ℕ) (e : DataSecEntry) (x : Extern) → Declares t ss e x → entry_read t ss n e ≡ Ok x
  reads n e x d = search rules

  all_read : (n : ℕ) (es : List DataSecEntry) (xs : List Extern) → InTurn (Declares t ss) es xs → each (entry_read t ss) n es ≡ Ok xs
  all_read n [] [] d = refl
  all_read n [] (x ∷ xs) d = absurd d
  all_read n (e ∷ es) [] d = absurd d
  all_read n (e ∷ es) (x ∷ xs) d = λ i. with_first (reads n e x d.0 i) (all_read (suc n) es xs d.1 i)

  -- whether there is a Func is found, and there is room for its placeholder
  found_func : (n : ℕ) (es : List DataSecEntry) (xs : List Extern) → InTurn (Declares t ss) es xs
      → ((e : DataSecEntry) → In e es → is_func (row e) ≡ true → room_for_placeholder (first_int t.types) t ≡ true)
      → (b : Bool) × (has_func t.types n es ≡ Ok b) × (room_for_func b t ≡ true)
  found_func n [] xs d r = (false, refl, refl)
  found_func n (e ∷ es) [] d r = absurd d
  found_func n (e ∷ es) (x ∷ xs) d r =
      let l = cond-true (ltb e.btf_type (length t.types)) _ _ (lt-ltb _ _ d.0.row) in
      ⊎_elim (λ f. (true, l ∙ cond-true (is_func (row e)) _ _ f, r e (inl refl) f))
      (λ f. let k = found_func (suc n) es xs d.1 (λ z i. r z (inr i)) in (k.0, l ∙ cond-false (is_func (row e)) _ _ f ∙ k.1, k.2))
      (cases_Bool (is_func (row e)))

  section_granted : (d : ℕ) (xs : List Extern) → Section t ss d xs → (o : Object) × (collect_section t ss (section_of t) ≡ Ok o)
  section_granted d xs s =
      let n = (type_at t.types d).parts.start in
      let f = found_func n (entries_of t d) xs s.declared s.room in
      let room = cond-true (leb (length xs) MAX_EXTERNS && room_for_func f.0 t) None _ (and_from (leb (length xs) MAX_EXTERNS) _ (le-leb _ _ s.few) f.2) in (
        made f.0 xs t,
        ap (collect_section t ss) s.found
            ∙ ap (collect_entries t ss n (entries_of t d)) f.1
            ∙ ap (collect_rows t n f.0) (all_read n (entries_of t d) xs s.declared)
            ∙ ap (λ u. granted_unless u (made f.0 xs t)) (option_or_from (duplicate [] n xs) (room_refusal f.0 xs t) (no_duplicate [] n xs (λ y x j. absurd j) s.distinct) room),
      )

  collect_granted : tables_fit t ≡ true → symbols_fit ss ≡ true → (o : Object) × (collect_section t ss (section_of t) ≡ Ok o) → (o : Object) × (collect t ss ≡ Ok o)
  collect_granted f g p = search rules

  -- ---- from the grant to the conditions
  room_if : (b : Bool) (n : ℕ) (es : List DataSecEntry) → has_func t.types n es ≡ Ok b → room_for_func b t ≡ true
      → (e : DataSecEntry) → In e es → is_func (row e) ≡ true → room_for_placeholder (first_int t.types) t ≡ true
  room_if b n es h r e i f = search (rules, true≢false, no_func)

  module _ (o : Object) where
    section_passed : (c : Passed t ss o) → Section t ss c.section c.rows
    section_passed c = search (rules, each_turn, entry_is, names_apart, leb-true, room_if)

    externs_passed : (c : Passed t ss o) → c.rows ≡ o.externs
    externs_passed c = search rules

    -- the tables are those of the object made, with a Func or without
    made_plain : (b : Bool) (xs : List Extern) (n : ℕ) (es : List DataSecEntry) → has_func t.types n es ≡ Ok b → made b xs t ≡ o
        → ((e : DataSecEntry) → In e es → is_func (row e) ≡ false) → (o.tables ≡ t) × (o.placeholder ≡ None)
    made_plain b xs n es h q f = search (rules, some_func, true≢false)

    made_placed : (b : Bool) (xs : List Extern) (n : ℕ) (es : List DataSecEntry) (e : DataSecEntry) → has_func t.types n es ≡ Ok b → made b xs t ≡ o → In e es
        → is_func (row e) ≡ true
        → (o.tables ≡ (with_placeholder (with_int (first_int t.types) t)).1) × (o.placeholder ≡ Some (with_placeholder (with_int (first_int t.types) t)).0)
    made_placed b xs n es e h q i f = search (rules, true≢false, no_func)

-- ---- the whole
not_both : (t : Tables) (d : ℕ) → section_of t ≡ Ok None → section_of t ≡ Ok (Some d) → ⊥
not_both t d p q = search rules

pub collected_exactly_when : CollectedExactlyWhen
collected_exactly_when =
    record {
      granted = λ t ss. (
        (λ g.
            let f = collect_fits t ss g.0 g.1 in (
              (tables_are_tested.tables t).0 f.0,
              (tables_are_tested.symbols ss).0 f.1,
              ⊎_elim (λ e. inl e.0) (λ (c : Passed t ss g.0). inr (c.section, c.rows, section_passed t ss g.0 c)) (collect_passed t ss g.0 g.1),
            )),
        λ w.
            collect_granted t ss ((tables_are_tested.tables t).1 w.0) ((tables_are_tested.symbols ss).1 w.1)
            (⊎_elim (λ e. (made false [] t, ap (collect_section t ss) e)) (λ s. section_granted t ss s.0 s.1 s.2) w.2),
      );
      externs = λ t ss o d h s.
          ⊎_elim (λ e. absurd (not_both t d e.0 s))
          (λ (c : Passed t ss o).
          subst (λ k. Section t ss k o.externs) (same_Some _ _ (ok_same _ _ (sym c.found ∙ s))) (subst (Section t ss c.section) (externs_passed t ss o c) (section_passed t ss o c)))
          (collect_passed t ss o h);
      none = λ t ss o h s. ⊎_elim (λ e. sym e.1) (λ (c : Passed t ss o). absurd (not_both t c.section s c.found)) (collect_passed t ss o h);
      without_func = λ t ss o d h s f.
          ⊎_elim (λ e. absurd (not_both t d e.0 s))
          (λ (c : Passed t ss o).
          made_plain t ss o c.func c.rows _ (entries_of t c.section) c.has c.is
          (λ e i. f e (subst (λ k. In e (entries_of t k)) (same_Some _ _ (ok_same _ _ (sym c.found ∙ s))) i)))
          (collect_passed t ss o h);
      with_func = λ t ss o d e h s i f.
          ⊎_elim (λ n. absurd (not_both t d n.0 s))
          (λ (c : Passed t ss o).
          made_placed t ss o c.func c.rows _ (entries_of t c.section) e c.has c.is
          (subst (λ k. In e (entries_of t k)) (same_Some _ _ (ok_same _ _ (sym s ∙ c.found))) i) f)
          (collect_passed t ss o h);
    }
