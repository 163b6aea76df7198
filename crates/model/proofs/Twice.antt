-- Fixup twice is fixup once.
use Rattle.std.proofs.lemmas.Grind.{common_steps}
use Rattle.std.proofs.Common.{rules, ◌≡◌, ℕ, suc, ◌+◌, ◌*◌, ◌<◌, ◌≤◌, true, false, cond, ◌||◌, eqb, List, [], ◌∷◌, ◌++◌, length, set, is_some, Some, None, Option, sym, refl, ap, ◌∙◌, subst, ⊎_elim, arith}
use Rattle.std.specs.List.{range_with_len}
use Rattle.std.proofs.lemmas.List.{set-get_or, get_or-set_same}
use Rattle.std.proofs.lemmas.Bool.{true≢false, cases_Bool, cases_eq, cond-true, cond-false, and_left, or_cases}
use Rattle.std.proofs.lemmas.Option.{none-some}
use Rattle.model.specs.Added.{is_int_of_four, first_int, with_int, room_for_int}
use Rattle.model.specs.Chain.{no_row, type_at}
use Rattle.model.specs.Collected.{Collected, object_fits}
use Rattle.model.specs.Externs.{Extern, Object}
use Rattle.model.specs.Fixup.{int_of, global_func, global_var, sized, placed, entry_at, with_rows, fix_entry, fix_entries, fix_section, fixed_tables, fixed_for, fix_refusal_for, fix_refusal, fixed}
use Rattle.model.specs.Kinds.{kind_number, is_int, is_func, is_var, is_data_sec}
use Rattle.model.specs.Lists.{In, lookup, number_of}
use Rattle.model.specs.Tables.{Tables}
use Rattle.model.specs.declared.btf.BtfType.{BtfType}
use Rattle.model.specs.declared.btf.DataSecEntry.{DataSecEntry}
use Rattle.model.specs.declared.refusal.Reason.TheVariants.{NoRoom}
use Rattle.model.specs.declared.rows.Span.{Span}
use Rattle.model.proofs.Grown.{alike_length, alike_at, Fits, Rewritten, rewritten_same, rewritten_on, Declared, declared_is, longer_at, longer_length, longer_entries}
use Rattle.model.proofs.Fixes.{at_set, part_in, id_at, row_at, by_entry, entry_rewritten, entry_id, entry_other, after, entries_keep, entries_rewritten, begin, size, gone, section_rewritten, with_one, done, done_is, one_longer, found_row, one_section, one_fits, one_declared, done_found, object_parts, object_collected}

-- ---- a row as fixup leaves one: a global Var of the int row
pub record Good (ts : List BtfType) (int x : ℕ) : Type 0 where
  pub below : x < length ts
  pub var : is_var (type_at ts x) ≡ true
  pub type : (type_at ts x).size_or_type ≡ int
  pub global : (type_at ts x).«data» ≡ 1

kinds_apart : (r : BtfType) (a b : ℕ) → (a ≡ b → ⊥) → eqb (kind_number r.kind) a ≡ true → eqb (kind_number r.kind) b ≡ false
kinds_apart r a b n h = search rules

good_func : (ts : List BtfType) (int x : ℕ) → Good ts int x → is_func (type_at ts x) ≡ false
good_func ts int x g = search rules

-- another row is set, or the row itself is made so
good_set : (ts : List BtfType) (int id x : ℕ) (r : BtfType) → ((x ≡ id) → ⊥) → Good ts int x → Good (set ts id r) int x
good_set ts int id x r n g = search rules

good_made : (ts : List BtfType) (int x : ℕ) → x < length ts → is_var (type_at ts x) ≡ true → Good (set ts x (global_var int (type_at ts x))) int x
good_made ts int x lt v = search rules

good_var : (ts : List BtfType) (int id x : ℕ) → Good ts int x → Good (set ts id (global_var int (type_at ts id))) int x
good_var ts int id x g = search rules

-- what was fixed stays fixed
good_entry : (p : Option ℕ) (int at i : ℕ) (t : Tables) (x : ℕ) → Good t.types int x → Good (fix_entry p int at i t).types int x
good_entry p int at i t x g =
    by_entry p int at i t (λ u. Good u.types int x)
    (λ q s e. good_set t.types int (id_at p int at i t) x (global_func (row_at p int at i t)) (λ n. true≢false (sym e ∙ ap (λ j. is_func (type_at t.types j)) (sym n) ∙ good_func t.types int x g)) g)
    (λ s e. g)
    (λ e. good_var t.types int (id_at p int at i t) x g)

-- the entry i of the section is fixed
abbrev pub Placed : Tables → ℕ → ℕ → ℕ → Type 0
Placed t int at i = (x : ℕ) × (entry_at t.entries at ≡ placed x i) × Good t.types int x

placed_entry : (p : Option ℕ) (int at i : ℕ) (t : Tables) → at < length t.entries
    → id_at p int at i t < length t.types → (is_func (row_at p int at i t) || is_var (row_at p int at i t)) ≡ true
    → (is_func (row_at p int at i t) ≡ true → is_some p ≡ true) → ((q : ℕ) → p ≡ Some q → Good t.types int q)
    → Placed (fix_entry p int at i t) int at i
placed_entry p int at i t lt b v f h =
    let none : DataSecEntry = record { btf_type = 0; offset = 0; size = 0 } in
    let id = id_at p int at i t in
    let row = row_at p int at i t in
    by_entry p int at i t (λ u. Placed u int at i)
    (λ q s e. (
      q,
      get_or-set_same t.entries at (placed q i) none lt,
      good_set t.types int id q (global_func row) (λ n. true≢false (sym e ∙ ap (λ j. is_func (type_at t.types j)) (sym n) ∙ good_func t.types int q (h q s))) (h q s),
    ))
    (λ s e. absurd (true≢false (sym (f e) ∙ ap is_some s)))
    (λ e. (id, get_or-set_same t.entries at (placed id i) none lt, good_made t.types int id b (⊎_elim (λ y. absurd (true≢false (sym y ∙ e))) (λ y. y) (or_cases (is_func row) (is_var row) v))))

-- ---- a fixed entry is left
pub idle_entry : (p : Option ℕ) (int at i : ℕ) (t : Tables) → Placed t int at i → fix_entry p int at i t ≡ t
idle_entry p int at i t h = grind (arith, common_steps)

pub idle_entries : (p : Option ℕ) (int start : ℕ) (t : Tables) (len : ℕ) → ((j : ℕ) → j < len → Placed t int (start + j) j) → fix_entries p int start (range_with_len 0 len) t ≡ t
idle_entries p int start t len h =
    entries_keep p int start t len (λ i u. u ≡ t) refl (λ i u l e. ap (fix_entry p int (start + i) i) e ∙ idle_entry p int (start + i) i t (h i l))

-- ---- a Func or a Var is no Int, before and after
no_int : (r : BtfType) → (is_func r || is_var r) ≡ true → is_int r ≡ false
no_int r h = search rules

int_entry : (p : Option ℕ) (int at i : ℕ) (t : Tables) → (is_func (row_at p int at i t) || is_var (row_at p int at i t)) ≡ true
    → (x : ℕ) → is_int_of_four (type_at (fix_entry p int at i t).types x) ≡ is_int_of_four (type_at t.types x)
int_entry p int at i t v x = search (rules, by_entry, at_set, and_left, no_int)

-- ---- after the first time each entry is fixed
module _ (p : Option ℕ) (int start : ℕ) (t : Tables) (len : ℕ) where
  -- an id that declares; a Func implies a placeholder
  abbrev Ready : ℕ → Type 0
  Ready x = Declared t x × (is_func (type_at t.types x) ≡ true → is_some p ≡ true)

  -- what holds after i entries
  record Going (i : ℕ) (u : Tables) : Type 0 where
    rewritten : Rewritten t u
    ready : (j : ℕ) → j < len → Ready (entry_at u.entries (start + j)).btf_type
    good : (x : ℕ) → Good t.types int x → Good u.types int x
    ints : (x : ℕ) → is_int_of_four (type_at u.types x) ≡ is_int_of_four (type_at t.types x)
    fixed : (j : ℕ) → j < i → Placed u int (start + j) j

  module _ (fit : start + len ≤ length t.entries) (held : (q : ℕ) → p ≡ Some q → Good t.types int q × Ready q) where
    going_on : (i : ℕ) (u : Tables) → i < len → Going i u → Going (i + 1) (fix_entry p int (start + i) i u)
    going_on i u lt g =
        let r = g.rewritten in
        let id = id_at p int (start + i) i u in
        let row = row_at p int (start + i) i u in
        let h = g.ready i lt in
        let s = alike_at t.types u.types r.types id in
        let n = alike_length t.types u.types r.types in
        let m = r.entries in
        let b = h.0.below in
        let kind : (is_func row || is_var row) ≡ true = ap (λ k. eqb (kind_number k) 12 || eqb (kind_number k) 14) s.kind ∙ h.0.kind in
        let here : Placed (fix_entry p int (start + i) i u) int (start + i) i =
        placed_entry p int (start + i) i u (omega arith) (omega arith) kind (λ e. h.1 (sym (ap (λ k. eqb (kind_number k) 12) s.kind) ∙ e)) (λ q e. g.good q (held q e).0) in
        record {
          rewritten = rewritten_on t u _ r (entry_rewritten p int (start + i) i u);
          ready = λ j l. entry_id p int (start + i) i u Ready (start + j) (λ q e. (held q e).1) (g.ready j l);
          good = λ x k. good_entry p int (start + i) i u x (g.good x k);
          ints = λ x. int_entry p int (start + i) i u kind x ∙ g.ints x;
          fixed = λ j l.
              ⊎_elim
              (λ (e : j ≡ i). subst (λ k. Placed (fix_entry p int (start + i) i u) int (start + k) k) (sym e) here)
              (λ (ne : j ≡ i → ⊥).
              let less : j < i = omega arith in
              let apart : start + j ≡ start + i → ⊥ = λ e. ne (omega arith) in
              let k = g.fixed j less in
              (k.0, entry_other p int (start + i) i u (start + j) apart ∙ k.1, good_entry p int (start + i) i u k.0 k.2))
              (cases_eq j i);
        }

    all_fixed : ((j : ℕ) → j < len → Ready (entry_at t.entries (start + j)).btf_type) → Going len (after p int start t len)
    all_fixed h =
        entries_keep p int start t len Going
        (record { rewritten = rewritten_same t; ready = h; good = λ x k. k; ints = λ x. refl; fixed = λ j l. absurd (omega arith) })
        going_on

-- ---- the section, once more
module _ (p : Option ℕ) (d int : ℕ) (t : Tables) (lt : d < length t.types) (sec : is_data_sec (type_at t.types d) ≡ true) where
  abbrev end : Tables
  end = fix_section p d int t

  abbrev last : List BtfType
  last = (gone p d int t).types

  last_section : is_data_sec (type_at last d) ≡ true
  last_section = search (rules, alike_at, entries_rewritten)

  good_end : (x : ℕ) → Good last int x → Good end.types int x
  good_end x g = search (rules, good_set, true≢false, last_section, kinds_apart)

  ints_end : (x : ℕ) → is_int_of_four (type_at end.types x) ≡ is_int_of_four (type_at last x)
  ints_end x = search (rules, kinds_apart, last_section, and_left, at_set)

  end_row : type_at end.types d ≡ sized (4 * size p d int t) (type_at last d)
  end_row = search (rules, alike_length, entries_rewritten, get_or-set_same)

  -- where each entry is fixed nothing changes
  section_idle : ((j : ℕ) → j < size p d int t → Placed (gone p d int t) int (begin p d int t + j) j) → fix_section p d int end ≡ end
  section_idle h =
      let s = alike_at t.types end.types (section_rewritten p d int t).types d in
      let row = type_at end.types d in
      let n : row.size_or_type ≡ 4 * row.parts.len = ap (λ (r : BtfType). r.size_or_type) end_row ∙ ap (λ (k : Span). 4 * k.len) (sym s.parts) in
      let same : sized (4 * row.parts.len) row ≡ row =
      λ k. record { kind = row.kind; name_offset = row.name_offset; info = row.info; size_or_type = sym n k; «data» = row.«data»; parts = row.parts } in
      let idle : fix_entries p int row.parts.start (range_with_len 0 row.parts.len) end ≡ end =
      idle_entries p int row.parts.start end row.parts.len
      (λ j l.
      let k = h j (subst (λ (m : Span). j < m.len) s.parts l) in
      subst (λ (b : Span). Placed end int (b.start + j) j) (sym s.parts) (k.0, k.1, good_end k.0 k.2)) in
      ap (λ (u : Tables). with_rows (set u.types d (sized (4 * row.parts.len) (type_at u.types d))) u.entries u.params u) idle
      ∙ ap (λ ts. with_rows ts end.entries end.params end) (ap (set end.types d) same ∙ set-get_or end.types d no_row)

-- ---- the int row, once more
same_first : (n : ℕ) (ts us : List BtfType) → length us ≡ length ts → ((x : ℕ) → is_int_of_four (type_at us x) ≡ is_int_of_four (type_at ts x))
    → number_of (lookup is_int_of_four n us) ≡ number_of (lookup is_int_of_four n ts)
same_first n [] [] e h = refl
same_first n [] (u ∷ us) e h = absurd (omega arith)
same_first n (t ∷ ts) [] e h = absurd (omega arith)
same_first n (t ∷ ts) (u ∷ us) e h =
    ⊎_elim
    (λ b. ap number_of (cond-true (is_int_of_four u) (Some (n, u)) (lookup is_int_of_four (suc n) us) (h 0 ∙ b)) ∙ sym (ap number_of (cond-true (is_int_of_four t) (Some (n, t)) (lookup is_int_of_four (suc n) ts) b)))
    (λ b.
    ap number_of (cond-false (is_int_of_four u) (Some (n, u)) (lookup is_int_of_four (suc n) us) (h 0 ∙ b)) ∙ same_first (suc n) ts us (omega arith) (λ x. h (suc x))
    ∙ sym (ap number_of (cond-false (is_int_of_four t) (Some (n, t)) (lookup is_int_of_four (suc n) ts) b)))
    (cases_Bool (is_int_of_four t))

number_none : {X : Type 0} (o : Option (ℕ × X)) → number_of o ≡ None → o ≡ None
number_none o e = search rules

first_push : (n : ℕ) (ts : List BtfType) (u : BtfType) → is_int_of_four u ≡ true → lookup is_int_of_four n ts ≡ None
    → number_of (lookup is_int_of_four n (ts ++ u ∷ [])) ≡ Some (n + length ts)
first_push n [] u i e = let on : n ≡ n + 0 = omega arith in ap number_of (cond-true (is_int_of_four u) (Some (n, u)) None i) ∙ ap Some on
first_push n (t ∷ ts) u i e =
    ⊎_elim (λ b. absurd (none-some (n, t) (sym e ∙ cond-true (is_int_of_four t) (Some (n, t)) (lookup is_int_of_four (suc n) ts) b)))
    (λ b.
    let on : suc n + length ts ≡ n + suc (length ts) = omega arith in
    ap number_of (cond-false (is_int_of_four t) (Some (n, t)) (lookup is_int_of_four (suc n) (ts ++ u ∷ [])) b)
    ∙ first_push (suc n) ts u i (sym (cond-false (is_int_of_four t) (Some (n, t)) (lookup is_int_of_four (suc n) ts) b) ∙ e) ∙ ap Some on)
    (cases_Bool (is_int_of_four t))

first_with : (t : Tables) (o : Option ℕ) → first_int t.types ≡ o → first_int (with_int o t).1.types ≡ Some (with_int o t).0
first_with t o e = search (rules, first_push, number_none)

-- ---- the whole
abbrev pub GlobalVar : Option ℕ → Tables → Type 0
GlobalVar p t = (q : ℕ) → p ≡ Some q → (is_var (type_at t.types q) ≡ true) × ((type_at t.types q).«data» ≡ 1)

int_again : (p : Option ℕ) (v : Tables) (int : ℕ) → ((q : ℕ) → p ≡ Some q → Good v.types int q) → (p ≡ None → first_int v.types ≡ Some int) → int_of p v.types ≡ Some int
int_again p v int g f = search rules

module _ (o : Object) (c : Collected o) (f : Fits o.tables) (g : GlobalVar o.placeholder o.tables) where
  abbrev p : Option ℕ
  p = o.placeholder

  abbrev one : Tables
  one = (with_one o c).1

  abbrev int : ℕ
  int = (with_one o c).0

  abbrev d : ℕ
  d = c.section

  held : (q : ℕ) → p ≡ Some q → Good one.types int q × Ready p int (begin p d int one) one (size p d int one) q
  held q e = search rules

  went : Going p int (begin p d int one) one (size p d int one) (size p d int one) (gone p d int one)
  went =
      let none : DataSecEntry = record { btf_type = 0; offset = 0; size = 0 } in
      let fit = one_fits o c f in
      all_fixed p int (begin p d int one) one (size p d int one) fit held
      (λ j l.
      let e = entry_at one.entries (begin p d int one + j) in
      let i = subst (In e) (longer_entries o.tables one (one_longer o c) d (found_row o c).0) (part_in (begin p d int one) (size p d int one) one.entries none j l (omega arith)) in
      let h = c.entries e i in
      (one_declared o c e.btf_type h, λ k. c.func e i (sym (ap is_func (longer_at o.tables one (one_longer o c) e.btf_type (declared_is o.tables e.btf_type h).below)) ∙ k)))

  one_lt : d < length one.types
  one_lt = let a = (found_row o c).0 in let b = longer_length o.tables one (one_longer o c) in omega arith

  done_good : (q : ℕ) → p ≡ Some q → Good (done o c).types int q
  done_good q e = good_end p d int one one_lt (one_section o c) q (went.good q (held q e).0)

  done_first : p ≡ None → first_int (done o c).types ≡ Some int
  done_first e =
      same_first 0 one.types (done o c).types (alike_length one.types (done o c).types (section_rewritten p d int one).types) (λ x. ints_end p d int one one_lt (one_section o c) x ∙ went.ints x)
      ∙ first_with o.tables (int_of p o.tables.types) (ap (λ x. int_of x o.tables.types) (sym e))

  done_int : int_of p (done o c).types ≡ Some int
  done_int = int_again p (done o c) int done_good done_first

  done_idle : fix_section p d int (done o c) ≡ done o c
  done_idle = section_idle p d int one one_lt (one_section o c) went.fixed

  done_twice : fixed_tables p (done o c) ≡ done o c
  done_twice = search (rules, done_found, done_int, done_idle)

-- the same with the list of externs taken apart
pub record Again (xs : List Extern) (p : Option ℕ) (t : Tables) : Type 0 where
  pub refusal : fix_refusal_for xs p t ≡ None
  pub same : fixed_for xs p t ≡ t
  pub global : GlobalVar p t

twice_for : (xs : List Extern) (o : Object) → o.externs ≡ xs → object_fits o ≡ true → GlobalVar o.placeholder o.tables → Again xs o.placeholder (fixed_for xs o.placeholder o.tables)
twice_for [] o e h g = record { refusal = refl; same = refl; global = g }
twice_for (x ∷ xs) o e h g =
    let c = object_collected o x xs e h in
    let f = (object_parts o h).0 in
    subst (Again (x ∷ xs) o.placeholder) (sym (done_is o c))
    (record {
      refusal = ap (λ i. cond (room_for_int i (done o c)) None (Some NoRoom)) (done_int o c f g);
      same = done_twice o c f g;
      global = λ q e. let k = done_good o c f g q e in (k.var, k.global);
    })

pub fixed_twice : (o : Object) → object_fits o ≡ true
    → ((p : ℕ) → o.placeholder ≡ Some p → (is_var (type_at o.tables.types p) ≡ true) × ((type_at o.tables.types p).«data» ≡ 1))
    → fix_refusal o ≡ None
    → (fix_refusal (fixed o) ≡ None) × (fixed (fixed o) ≡ fixed o)
    × ((p : ℕ) → (fixed o).placeholder ≡ Some p → (is_var (type_at (fixed o).tables.types p) ≡ true) × ((type_at (fixed o).tables.types p).«data» ≡ 1))
fixed_twice o h g r =
    let a = twice_for o.externs o refl h g in
    (a.refusal, ap (λ (t : Tables). record { tables = t; externs = o.externs; placeholder = o.placeholder }) a.same, a.global)
