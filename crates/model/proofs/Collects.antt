-- A granted collection makes a well-formed object.
use Rattle.std.proofs.lemmas.Grind.{common_steps}
use Rattle.std.proofs.Common.{rules, ◌≡◌, ℕ, suc, ◌<◌, Bool, true, false, cond, ◌||◌, ltb, leb, ◌⊎◌, List, [], ◌∷◌, length, is_some, Some, None, Ok, Err, Option, Result, sym, refl, ap, ◌∙◌, subst, inl, inr, ⊎_elim, arith}
use Rattle.std.specs.List.{list_any}
use Rattle.std.specs.Str.{bytes_eq}
use Rattle.std.proofs.lemmas.Bool.{true≢false, cases_Bool, cond-true, cond-false, and_from, or_left, or_right, or_cases, ltb-true}
use Rattle.std.proofs.lemmas.Option.{none-some, same_Some}
use Rattle.std.proofs.lemmas.Slice.Eq.{bytes_eq-Decides}
use Rattle.model.specs.Added.{placeholder_row, placeholder_name, added, first_int, with_int}
use Rattle.model.specs.Chain.{type_at, chain, resolve_type}
use Rattle.model.specs.Collect.{section_of, entries_of, has_func, fresh, symbol_named, chain_read, symbol_read, name_read, row_read, entry_read, duplicate, room_for_func, room_refusal, made, collect_section, collect}
use Rattle.model.specs.CollectLaws.{Declares}
use Rattle.model.specs.Collected.{Distinct, Collected, object_fits}
use Rattle.model.specs.Externs.{Extern, Object}
use Rattle.model.specs.Kinds.{is_func, is_var}
use Rattle.model.specs.Lists.{In, with_first, each, InTurn}
use Rattle.model.specs.Names.{name_at}
use Rattle.model.specs.StepLaws.{CollectionCollects}
use Rattle.model.specs.Tables.{Tables, Symbols, MAX_EXTERNS, tables_fit, symbols_fit}
use Rattle.model.specs.declared.btf.BtfType.{BtfType}
use Rattle.model.specs.declared.btf.ChainError.{ChainError}
use Rattle.model.specs.declared.btf.DataSecEntry.{DataSecEntry}
use Rattle.model.specs.declared.refusal.Reason.{Reason}
use Rattle.model.specs.declared.rows.Symbol.{Symbol}
use Rattle.model.proofs.Lookups.{ok_same, err_not, any_none}
use Rattle.model.proofs.Tested.{collected_test}
use Rattle.model.proofs.Grown.{Fits, fits_is, is_fit, Longer, longer_same, longer_added, longer_on, longer_section, longer_entries, longer_name, longer_at, Declared, is_declared, longer_declared, section_is, first_below, int_longer, int_below, placeholder_fits_in}

-- ---- what each entry came to
module _ {X Y R : Type 0} (f : ℕ → X → Result Y R) where
  first_parts : (a : Result Y R) (b : Result (List Y) R) (ys : List Y) → with_first a b ≡ Ok ys → (y : Y) × (zs : List Y) × (a ≡ Ok y) × (b ≡ Ok zs) × (ys ≡ y ∷ zs)
  first_parts a b ys h = search rules

  pub each_in : (n : ℕ) (xs : List X) (ys : List Y) → each f n xs ≡ Ok ys → (y : Y) → In y ys → (m : ℕ) × (x : X) × In x xs × (f m x ≡ Ok y)
  each_in n [] ys h y i = absurd (subst (In y) (sym (ok_same _ _ h)) i)
  each_in n (x ∷ xs) ys h y i =
      let p = first_parts (f n x) (each f (suc n) xs) ys h in
      ⊎_elim (λ e. (n, x, inl refl, p.2 ∙ ap Ok e)) (λ j. let r = each_in (suc n) xs p.1 p.3 y j in (r.0, r.1, inr r.2, r.3)) (subst (In y) p.4 i)

  -- what holds of each and what it came to, holds of the lists in turn
  pub each_turn : (S : X → Y → Type 0) → ((m : ℕ) (x : X) (y : Y) → f m x ≡ Ok y → S x y) → (n : ℕ) (xs : List X) (ys : List Y) → each f n xs ≡ Ok ys → InTurn S xs ys
  each_turn S g n [] ys h = subst (InTurn S []) (ok_same [] ys h) tt
  each_turn S g n (x ∷ xs) ys h =
      let p = first_parts (f n x) (each f (suc n) xs) ys h in
      subst (InTurn S (x ∷ xs)) (sym p.4) (g n x p.0 p.2, each_turn S g (suc n) xs p.1 p.3)

  pub in_each : (n : ℕ) (xs : List X) (ys : List Y) → each f n xs ≡ Ok ys → (x : X) → In x xs → (m : ℕ) × (y : Y) × (f m x ≡ Ok y)
  in_each n [] ys h x i = absurd i
  in_each n (z ∷ xs) ys h x i =
      let p = first_parts (f n z) (each f (suc n) xs) ys h in
      ⊎_elim (λ e. (n, p.0, ap (f n) (sym e) ∙ p.2)) (λ j. in_each (suc n) xs p.1 p.3 x j) i

-- ---- one entry
pub chain_below : (n : ℕ) (ts : List BtfType) (id target : ℕ) → chain n ts id ≡ Ok target → id < length ts
unfolding chain
chain_below n ts id target h = search rules

-- the row of an entry that declares
pub entry_declared : (t : Tables) (ss : Symbols) (e : DataSecEntry) (x : Extern) → Declares t ss e x → Declared t e.btf_type
entry_declared t ss e x d = search (rules, or_left, or_right, chain_below)

module _ (t : Tables) (ss : Symbols) (e : DataSecEntry) (n : ℕ) (x : Extern) where
  abbrev row : BtfType
  row = type_at t.types e.btf_type

  module _ (below : e.btf_type < length t.types) (k : (is_func row || is_var row) ≡ true) where
    chain_is : (name : List ℕ) (w : ℕ × Symbol) (r : Result ℕ ChainError) → name_at t.strings row.name_offset ≡ Some name → symbol_named ss name ≡ Some w
        → resolve_type t.types row.size_or_type ≡ r → chain_read n e.btf_type row name w.1.is_weak r ≡ Ok x → Declares t ss e x
    chain_is name w (Err c) s m r h = absurd (err_not _ _ h)
    chain_is name w (Ok target) s m r h =
        let q : fresh e.btf_type row name w.1.is_weak target ≡ x = ok_same _ _ h in
        subst (Declares t ss e) q
        (record {
          row = below;
          kind = or_cases (is_func row) (is_var row) k;
          name = s;
          symbol = w;
          named = m;
          end = target;
          chain = r;
          typed = refl;
          weak = refl;
          place = refl;
          entry = refl;
          func = refl;
          resolved = refl;
          id = refl;
          address = refl;
        })

    symbol_is : (name : List ℕ) (o : Option (ℕ × Symbol)) → name_at t.strings row.name_offset ≡ Some name → symbol_named ss name ≡ o
        → symbol_read t.types n e.btf_type row name o ≡ Ok x → Declares t ss e x
    symbol_is name o s m h = search (rules, err_not, chain_is)

    name_is : (o : Option (List ℕ)) → name_at t.strings row.name_offset ≡ o → name_read t.types ss n e.btf_type row o ≡ Ok x → Declares t ss e x
    name_is o s h = search (rules, err_not, symbol_is)

  row_is : e.btf_type < length t.types → row_read t ss n e.btf_type row ≡ Ok x → Declares t ss e x
  row_is below h = search (rules, name_is, err_not)

  -- an entry that reads declares what it reads as
  pub entry_is : entry_read t ss n e ≡ Ok x → Declares t ss e x
  entry_is h = search (rules, row_is, ltb-true, err_not)

-- ---- a Func among the entries
pub some_func : (ts : List BtfType) (n : ℕ) (es : List DataSecEntry) → has_func ts n es ≡ Ok true → (e : DataSecEntry) × In e es × (is_func (type_at ts e.btf_type) ≡ true)
some_func ts n [] h = absurd (true≢false (ok_same _ _ (sym h)))
some_func ts n (x ∷ es) h =
    ⊎_elim
    (λ b.
    let g = sym (cond-true (ltb x.btf_type (length ts)) _ _ b) ∙ h in
    ⊎_elim (λ f. (x, inl refl, f))
    (λ f. let k = some_func ts (suc n) es (sym (cond-false (is_func (type_at ts x.btf_type)) _ _ f) ∙ g) in (k.0, inr k.1, k.2))
    (cases_Bool (is_func (type_at ts x.btf_type))))
    (λ b. absurd (err_not _ _ (sym (cond-false (ltb x.btf_type (length ts)) _ _ b) ∙ h))) (cases_Bool (ltb x.btf_type (length ts)))

pub no_func : (ts : List BtfType) (n : ℕ) (es : List DataSecEntry) → has_func ts n es ≡ Ok false → (e : DataSecEntry) → In e es → is_func (type_at ts e.btf_type) ≡ false
no_func ts n [] h e i = absurd i
no_func ts n (x ∷ es) h e i =
    ⊎_elim
    (λ b.
    let g = sym (cond-true (ltb x.btf_type (length ts)) _ _ b) ∙ h in
    ⊎_elim (λ f. absurd (true≢false (ok_same _ _ (sym (cond-true (is_func (type_at ts x.btf_type)) _ _ f) ∙ g))))
    (λ f. ⊎_elim (λ q. ap (λ (y : DataSecEntry). is_func (type_at ts y.btf_type)) (sym q) ∙ f)
    (λ j. no_func ts (suc n) es (sym (cond-false (is_func (type_at ts x.btf_type)) _ _ f) ∙ g) e j) i) (cases_Bool (is_func (type_at ts x.btf_type))))
    (λ b. absurd (err_not _ _ (sym (cond-false (ltb x.btf_type (length ts)) _ _ b) ∙ h))) (cases_Bool (ltb x.btf_type (length ts)))

-- ---- names apart
unless_parts : (b : Bool) (r : Reason) (o : Option Reason) → cond b (Some r) o ≡ None → (b ≡ false) × (o ≡ None)
unless_parts b r o h = search rules

apart : (before : List Extern) (n : ℕ) (xs : List Extern) → duplicate before n xs ≡ None → (y x : Extern) → In y before → In x xs → y.name ≡ x.name → ⊥
apart before n [] h y x j i e = i
apart before n (z ∷ xs) h y x j i e =
    let p = unless_parts (list_any (λ (w : Extern). bytes_eq w.name z.name) before) _ _ h in
    ⊎_elim (λ q. true≢false (sym ((bytes_eq-Decides y.name z.name).1 (e ∙ ap (λ (w : Extern). w.name) (sym q))) ∙ any_none (λ (w : Extern). bytes_eq w.name z.name) before p.0 y j))
    (λ k. apart (z ∷ before) (suc n) xs p.1 y x (inr j) k e) i

pub names_apart : (before : List Extern) (n : ℕ) (xs : List Extern) → duplicate before n xs ≡ None → Distinct xs
names_apart before n [] h = tt
names_apart before n (x ∷ xs) h =
    let p = unless_parts (list_any (λ (w : Extern). bytes_eq w.name x.name) before) _ _ h in
    ((λ y i e. apart (x ∷ before) (suc n) xs p.1 x y (inl refl) i (sym e)), names_apart (x ∷ before) (suc n) xs p.1)

-- ---- a granted collection, stage by stage
pub record Passed (t : Tables) (ss : Symbols) (o : Object) : Type 0 where
  pub section : ℕ
  pub func : Bool
  pub rows : List Extern
  pub found : section_of t ≡ Ok (Some section)
  pub has : has_func t.types (type_at t.types section).parts.start (entries_of t section) ≡ Ok func
  pub read : each (entry_read t ss) (type_at t.types section).parts.start (entries_of t section) ≡ Ok rows
  pub apart : duplicate [] (type_at t.types section).parts.start rows ≡ None
  pub few : leb (length rows) MAX_EXTERNS ≡ true
  pub room : room_for_func func t ≡ true
  pub is : made func rows t ≡ o

room_is : (func : Bool) (xs : List Extern) (t : Tables) → room_refusal func xs t ≡ None → (leb (length xs) MAX_EXTERNS ≡ true) × (room_for_func func t ≡ true)
room_is func xs t h = search rules

module _ (t : Tables) (ss : Symbols) (o : Object) where
  module _ (d : ℕ) (found : section_of t ≡ Ok (Some d)) where
    abbrev at : ℕ
    at = (type_at t.types d).parts.start

  pub collect_fits : collect t ss ≡ Ok o → (tables_fit t ≡ true) × (symbols_fit ss ≡ true) × (collect_section t ss (section_of t) ≡ Ok o)
  collect_fits h = grind (arith, common_steps)

  pub collect_passed : collect t ss ≡ Ok o → ((section_of t ≡ Ok None) × (made false [] t ≡ o)) ⊎ Passed t ss o
  collect_passed h = grind (arith, common_steps)

-- ---- the object made
-- a new placeholder declares, and is a global Var
record New (t : Tables) (p : ℕ) : Type 0 where
  declared : Declared t p
  var : is_var (type_at t.types p) ≡ true
  global : (type_at t.types p).«data» ≡ 1

new_placeholder : (int : ℕ) (t : Tables) → int < length t.types → New (added (placeholder_row int) placeholder_name t) (length t.types)
new_placeholder int t lt = grind (arith, common_steps)

module _ (t : Tables) (xs : List Extern) where
  pub made_externs : (func : Bool) → (made func xs t).externs ≡ xs
  made_externs func = search rules

  made_longer : (func : Bool) → Longer t (made func xs t).tables
  made_longer true =
      let k = with_int (first_int t.types) t in
      longer_on t k.1 (made true xs t).tables (int_longer t (first_int t.types)) (longer_added (placeholder_row k.0) placeholder_name k.1)
  made_longer false = longer_same t

  made_fits : (func : Bool) → room_for_func func t ≡ true → Fits t → Fits (made func xs t).tables
  made_fits true r f = placeholder_fits_in t (first_int t.types) r f
  made_fits false r f = f

  made_new : (func : Bool) (p : ℕ) → (made func xs t).placeholder ≡ Some p → New (made func xs t).tables p
  made_new func p e = grind (arith, common_steps, same_Some, new_placeholder, int_below, first_below, none-some)

module _ (t : Tables) (ss : Symbols) (o : Object) (c : Passed t ss o) where
  abbrev new : Object
  new = made c.func c.rows t

  abbrev places : List DataSecEntry
  places = entries_of t c.section

  pub passed_read : (x : Extern) → In x c.rows → (e : DataSecEntry) × In e places × Declares t ss e x
  passed_read x i = search (rules, each_in, entry_is)

  place_declared : (e : DataSecEntry) → In e places → Declared t e.btf_type
  place_declared e i = let r = in_each (entry_read t ss) _ places c.rows c.read e i in entry_declared t ss e r.1 (entry_is t ss e r.0 r.1 r.2)

  -- a Func implies a placeholder
  func_placed : (func : Bool) → has_func t.types (type_at t.types c.section).parts.start places ≡ Ok func
      → (e : DataSecEntry) → In e places → is_func (type_at t.types e.btf_type) ≡ true → is_some (made func c.rows t).placeholder ≡ true
  func_placed func h e i f = search (rules, true≢false, no_func)

  new_collected : Collected new
  new_collected =
      let u = new.tables in
      let l = made_longer t c.rows c.func in
      let same = longer_entries t u l c.section (section_is t.strings t.types c.section c.found).0 in
      let back : (x : Extern) → In x new.externs → In x c.rows = λ x i. subst (In x) (made_externs t c.rows c.func) i in
      record {
        section = c.section;
        found = longer_section t u l c.section c.found;
        entries = λ e i. is_declared u _ (longer_declared t u l _ (place_declared e (subst (In e) same i)));
        externs = λ x i.
            let r = passed_read x (back x i) in
            is_declared u _ (longer_declared t u l _ (subst (Declared t) (sym r.2.entry) (entry_declared t ss r.0 x r.2)));
        names = λ x i.
            let r = passed_read x (back x i) in
            let q = ap (name_at t.strings) r.2.place ∙ r.2.name in
            longer_name t u l x.place (ap is_some q) ∙ q;
        distinct = subst Distinct (sym (made_externs t c.rows c.func)) (names_apart [] _ c.rows c.apart);
        placeholder = λ p e. is_declared u p (made_new t c.rows c.func p e).declared;
        func = λ e i f.
            let j = subst (In e) same i in
            func_placed c.func c.has e j (sym (ap is_func (longer_at t u l _ (place_declared e j).below)) ∙ f);
      }

-- ---- the theorems
new_fits : (t : Tables) (ss : Symbols) (o : Object) (c : Passed t ss o) → tables_fit t ≡ true → object_fits (made c.func c.rows t) ≡ true
new_fits t ss o c f =
    let n = made c.func c.rows t in
    and_from (tables_fit n.tables) _ (is_fit n.tables (made_fits t c.rows c.func c.room (fits_is t f)))
    (and_from (leb (length n.externs) MAX_EXTERNS) _ (ap (λ xs. leb (length xs) MAX_EXTERNS) (made_externs t c.rows c.func) ∙ c.few) (collected_test n (new_collected t ss o c)))

collects_fit : (t : Tables) (ss : Symbols) (o : Object) → collect t ss ≡ Ok o → object_fits o ≡ true
collects_fit t ss o h =
    let f = (collect_fits t ss o h).0 in
    ⊎_elim (λ e. subst (λ x. object_fits x ≡ true) e.1 (and_from (tables_fit t) _ f refl)) (λ (c : Passed t ss o). subst (λ x. object_fits x ≡ true) c.is (new_fits t ss o c f)) (collect_passed t ss o h)

pub collection_collects : CollectionCollects
collection_collects =
    record {
      fits = collects_fit;
      collected = λ t ss o h n.
          ⊎_elim (λ e. absurd (n (sym (ap (λ (x : Object). x.externs) e.1)))) (λ (c : Passed t ss o). subst Collected c.is (new_collected t ss o c)) (collect_passed t ss o h);
    }

module _ (t : Tables) (ss : Symbols) (o : Object) (h : collect t ss ≡ Ok o) where
  pub collect_untouched : (x : Extern) → In x o.externs → (x.resolved ≡ false) × (x.id ≡ None) × (x.address ≡ None)
  collect_untouched x i =
      ⊎_elim (λ e. absurd (subst (λ (y : Object). In x y.externs) (sym e.1) i))
      (λ (c : Passed t ss o).
      let j : In x c.rows = subst (In x) (made_externs t c.rows c.func) (subst (λ (y : Object). In x y.externs) (sym c.is) i) in
      let r = (passed_read t ss o c x j).2 in
      (r.resolved, r.id, r.address))
      (collect_passed t ss o h)

  pub collect_distinct : Distinct o.externs
  collect_distinct =
      ⊎_elim (λ e. subst (λ (y : Object). Distinct y.externs) e.1 tt) (λ (c : Passed t ss o). subst (λ (y : Object). Distinct y.externs) c.is (new_collected t ss o c).distinct)
      (collect_passed t ss o h)

  pub collect_placeholder : (p : ℕ) → o.placeholder ≡ Some p → (is_var (type_at o.tables.types p) ≡ true) × ((type_at o.tables.types p).«data» ≡ 1)
  collect_placeholder p q =
      ⊎_elim (λ e. absurd (none-some p (sym (sym q ∙ sym (ap (λ (y : Object). y.placeholder) e.1)))))
      (λ (c : Passed t ss o).
      let n = made_new t c.rows c.func p (ap (λ (y : Object). y.placeholder) c.is ∙ q) in
      subst (λ (y : Object). (is_var (type_at y.tables.types p) ≡ true) × ((type_at y.tables.types p).«data» ≡ 1)) c.is (n.var, n.global))
      (collect_passed t ss o h)
