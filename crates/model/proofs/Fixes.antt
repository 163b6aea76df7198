-- A granted fixup keeps an object well-formed, and leaves the rows that it is not about.
use Rattle.std.proofs.lemmas.Grind.{common_steps}
use Rattle.std.proofs.Common.{rules, ◌≡◌, ℕ, zero, suc, ◌+◌, ◌<◌, ◌≤◌, Bool, true, false, cond, ◌||◌, eqb, leb, ◌⊎◌, List, [], ◌∷◌, ◌++◌, map, length, get_or, take, drop, set, is_some, Some, None, Ok, Option, sym, refl, ap, ◌∙◌, subst, inl, inr, ⊎_elim, arith}
use lib.Seq.{take-nil, drop-nil}
use Rattle.std.specs.List.{range_with_len}
use Rattle.std.proofs.lemmas.List.{length-set, get_or_append_left}
use Rattle.std.proofs.lemmas.Bool.{false≢true, cond_both, and_parts, and_from}
use Rattle.std.proofs.lemmas.Option.{same_Some}
use Rattle.model.specs.Added.{with_int}
use Rattle.model.specs.Chain.{type_at}
use Rattle.model.specs.Collect.{section_of, entries_of}
use Rattle.model.specs.Collected.{declares, Collected, collected_if_any, object_fits}
use Rattle.model.specs.Externs.{Extern, Object}
use Rattle.model.specs.Fixup.{int_of, named_param, named_params, entry_at, fix_func, fix_var, fix_entry, fix_entries, fix_section, fixed_tables, fixed_for, fix_refusal_for, fix_refusal, fixed}
use Rattle.model.specs.Kinds.{kind_number, is_func, is_var, is_data_sec}
use Rattle.model.specs.Lists.{In}
use Rattle.model.specs.Names.{name_at}
use Rattle.model.specs.Runs.{granted}
use Rattle.model.specs.Runs.Step.{fixup}
use Rattle.model.specs.Spans.{part, end_of, Outside}
use Rattle.model.specs.StepLaws.{NotOf, Leaves, param_at, FixupLeavesOtherRows}
use Rattle.model.specs.Tables.{Tables, MAX_EXTERNS, tables_fit}
use Rattle.model.specs.declared.btf.BtfType.{BtfType}
use Rattle.model.specs.declared.btf.BtfParam.{BtfParam}
use Rattle.model.specs.declared.btf.DataSecEntry.{DataSecEntry}
use Rattle.model.specs.declared.refusal.Reason.{Reason}
use Rattle.model.proofs.Lookups.{ok_same}
use Rattle.model.proofs.Tested.{collected_test, collected_is_tested}
use Rattle.model.proofs.Followed.{follow_in}
use Rattle.model.proofs.Grown.{Shape, shape_same, alike_length, alike_at, alike_set, Fits, fits_is, is_fit, Rewritten, rewritten_same, rewritten_on, rewritten_fits, rewritten_section, Longer, longer_section, longer_entries, longer_name, longer_at, Declared, declared_is, is_declared, longer_declared, section_is, parts_in, first_below, int_longer, int_below, int_fits}

-- ---- lists
-- what stands in a list where one place was set
pub at_set : {X : Type 0} (xs : List X) (i : ℕ) (v d : X) (k : ℕ) → ((k ≡ i) × (i < length xs) × (get_or (set xs i v) k d ≡ v)) ⊎ (get_or (set xs i v) k d ≡ get_or xs k d)
at_set xs i v d k = grind (arith, common_steps)

-- a place of a part
pub in_part : {X : Type 0} (s n : ℕ) (xs : List X) (d x : X) → In x (take n (drop s xs)) → (k : ℕ) × (k < n) × (get_or xs (s + k) d ≡ x)
in_part zero zero xs d x i = absurd i
in_part zero (suc n) [] d x i = absurd i
in_part zero (suc n) (y ∷ ys) d x (inl e) = (0, omega arith, e)
in_part zero (suc n) (y ∷ ys) d x (inr i) =
    let r = in_part zero n ys d x i in
    let on : zero + suc r.0 ≡ suc (zero + r.0) = omega arith in
    (suc r.0, omega (arith, r.1), ap (λ j. get_or (y ∷ ys) j d) on ∙ r.2)
in_part (suc s) zero xs d x i = absurd i
in_part (suc s) (suc n) [] d x i = absurd i
in_part (suc s) (suc n) (y ∷ ys) d x i =
    let r = in_part s (suc n) ys d x i in
    let on : suc s + r.0 ≡ suc (s + r.0) = omega arith in
    (r.0, r.1, ap (λ j. get_or (y ∷ ys) j d) on ∙ r.2)

pub part_in : {X : Type 0} (s n : ℕ) (xs : List X) (d : X) (k : ℕ) → k < n → s + k < length xs → In (get_or xs (s + k) d) (take n (drop s xs))
part_in s zero xs d k a b = absurd (omega arith)
part_in zero (suc n) [] d k a b = absurd (omega arith)
part_in zero (suc n) (y ∷ ys) d zero a b = inl refl
part_in zero (suc n) (y ∷ ys) d (suc k) a b =
    let on : zero + suc k ≡ suc (zero + k) = omega arith in
    inr (subst (λ j. In (get_or (y ∷ ys) j d) (take n ys)) (sym on) (part_in zero n ys d k (omega arith) (omega arith)))
part_in (suc s) (suc n) [] d k a b = absurd (omega arith)
part_in (suc s) (suc n) (y ∷ ys) d k a b =
    let on : suc s + k ≡ suc (s + k) = omega arith in
    subst (λ j. In (get_or (y ∷ ys) j d) (take (suc n) (drop s ys))) (sym on) (part_in s (suc n) ys d k a (omega arith))

-- a part of a list, mapped
module _ {X : Type 0} (f : X → X) where
  abbrev pub mapped_part : ℕ → ℕ → List X → List X
  mapped_part s n xs = take s xs ++ (map f (take n (drop s xs)) ++ drop (s + n) xs)

  -- what stands at a place is as before, or in the part and mapped
  abbrev AtPart : ℕ → ℕ → List X → List X → X → ℕ → Type 0
  AtPart s n xs ys d k = (get_or ys k d ≡ get_or xs k d) ⊎ ((s ≤ k) × (k < s + n) × (get_or ys k d ≡ f (get_or xs k d)))

  front_at : (n : ℕ) (xs : List X) (d : X) (k : ℕ) → AtPart zero n xs (map f (take n xs) ++ drop n xs) d k
  front_at n xs d k = grind (arith, common_steps)

  pub part_at : (s n : ℕ) (xs : List X) (d : X) (k : ℕ) → AtPart s n xs (mapped_part s n xs) d k
  part_at zero n xs d k =
      let on : zero + n ≡ n = omega arith in
      subst (λ j. AtPart zero n xs (map f (take n xs) ++ drop j xs) d k) (sym on) (front_at n xs d k)
  part_at (suc s) n [] d k = inl (λ i. get_or (map f (take-nil {A = X} n i) ++ drop-nil {A = X} (suc s + n) i) k d)
  part_at (suc s) n (x ∷ xs) d zero = inl refl
  part_at (suc s) n (x ∷ xs) d (suc k) =
      let on : suc s + n ≡ suc (s + n) = omega arith in
      subst (λ j. AtPart (suc s) n (x ∷ xs) (x ∷ (take s xs ++ (map f (take n (drop s xs)) ++ drop j (x ∷ xs)))) d (suc k)) (sym on)
      (⊎_elim (λ e. inl e) (λ r. let a = r.0 in let b = r.1 in inr (omega arith, omega arith, r.2)) (part_at s n xs d k))

-- ---- one entry
module _ (p : Option ℕ) (int at i : ℕ) (t : Tables) where
  abbrev pub id_at : ℕ
  id_at = (entry_at t.entries at).btf_type

  abbrev pub row_at : BtfType
  row_at = type_at t.types id_at

  pub by_entry : (P : Tables → Type 0)
      → ((q : ℕ) → p ≡ Some q → is_func row_at ≡ true → P (fix_func q at i id_at t))
      → (p ≡ None → is_func row_at ≡ true → P t)
      → (is_func row_at ≡ false → P (fix_var int at i id_at t))
      → P (fix_entry p int at i t)
  by_entry P f n v = search rules

params_length : (name : ℕ) (proto : BtfType) (b : Bool) (ps : List BtfParam) → length (cond b (named_params name proto ps) ps) ≡ length ps
params_length name proto b ps = grind (arith, common_steps)

-- the rows keep their shape
pub entry_rewritten : (p : Option ℕ) (int at i : ℕ) (t : Tables) → Rewritten t (fix_entry p int at i t)
entry_rewritten p int at i t = search (rules, by_entry, alike_set, length-set, params_length, rewritten_same)

-- a row has its type, or becomes of the int row
pub entry_size : (p : Option ℕ) (int at i : ℕ) (t : Tables) (x : ℕ)
    → ((type_at (fix_entry p int at i t).types x).size_or_type ≡ (type_at t.types x).size_or_type) ⊎ ((type_at (fix_entry p int at i t).types x).size_or_type ≡ int)
entry_size p int at i t x = search (rules, by_entry, at_set)

-- a Func keeps its type
pub entry_func : (p : Option ℕ) (int at i : ℕ) (t : Tables) (x : ℕ) → is_func (type_at t.types x) ≡ true
    → (type_at (fix_entry p int at i t).types x).size_or_type ≡ (type_at t.types x).size_or_type
entry_func p int at i t x h = search (rules, by_entry, at_set, false≢true)

-- what declares does so in rewritten tables where its type is a row
pub rewritten_declared : (t u : Tables) → Rewritten t u → (x : ℕ) → Declared t x → (type_at u.types x).size_or_type < length t.types → Declared u x
rewritten_declared t u r x d lt = search (rules, alike_length, alike_at)

pub entry_declared : (p : Option ℕ) (int at i : ℕ) (t : Tables) → int < length t.types → (x : ℕ) → Declared t x → Declared (fix_entry p int at i t) x
entry_declared p int at i t lt x d =
    let l = d.type in
    rewritten_declared t (fix_entry p int at i t) (entry_rewritten p int at i t) x d
    (⊎_elim (λ e. subst (λ n. n < length t.types) (sym e) l) (λ e. subst (λ n. n < length t.types) (sym e) lt) (entry_size p int at i t x))

-- an entry is as before, or stands for the same id, or for the placeholder
pub entry_id : (p : Option ℕ) (int at i : ℕ) (t : Tables) (Q : ℕ → Type 0) (m : ℕ)
    → ((q : ℕ) → p ≡ Some q → Q q) → Q (entry_at t.entries m).btf_type → Q (entry_at (fix_entry p int at i t).entries m).btf_type
entry_id p int at i t Q m f h = search (rules, by_entry, at_set)

-- ---- the entries of the section, in order
module _ (p : Option ℕ) (int start : ℕ) where
  pub by_entries : (P : ℕ → Tables → Type 0) (len : ℕ) → ((i : ℕ) (u : Tables) → i < len → P i u → P (i + 1) (fix_entry p int (start + i) i u))
      → (n i : ℕ) (u : Tables) → i + n ≡ len → P i u → P len (fix_entries p int start (range_with_len i n) u)
  by_entries P len step zero i u e h = subst (λ k. P k u) (let on : i ≡ len = omega arith in on) h
  by_entries P len step (suc n) i u e h = by_entries P len step n (i + 1) (fix_entry p int (start + i) i u) (omega arith) (step i u (omega arith) h)

  module _ (t : Tables) (len : ℕ) where
    abbrev pub after : Tables
    after = fix_entries p int start (range_with_len 0 len) t

    pub entries_keep : (P : ℕ → Tables → Type 0) → P 0 t → ((i : ℕ) (u : Tables) → i < len → P i u → P (i + 1) (fix_entry p int (start + i) i u)) → P len after
    entries_keep P h step = by_entries P len step len 0 t (omega arith) h

    pub entries_rewritten : Rewritten t after
    entries_rewritten = entries_keep (λ i. Rewritten t) (rewritten_same t) (λ i u l r. rewritten_on t u _ r (entry_rewritten p int (start + i) i u))

    pub entries_declared : int < length t.types → (x : ℕ) → Declared t x → Declared after x
    entries_declared lt x d =
        (entries_keep (λ i u. Rewritten t u × Declared u x) (rewritten_same t, d)
        (λ i u l h.
        let n = alike_length t.types u.types h.0.types in
        (rewritten_on t u _ h.0 (entry_rewritten p int (start + i) i u), entry_declared p int (start + i) i u (omega arith) x h.1))
        ).1

    pub entries_id : (Q : ℕ → Type 0) (m : ℕ) → ((q : ℕ) → p ≡ Some q → Q q) → Q (entry_at t.entries m).btf_type → Q (entry_at after.entries m).btf_type
    entries_id Q m f h = entries_keep (λ i u. Q (entry_at u.entries m).btf_type) h (λ i u l. entry_id p int (start + i) i u Q m f)

-- ---- the section
pub not_both : (r : BtfType) → is_data_sec r ≡ true → (is_func r || is_var r) ≡ true → ⊥
not_both r s h = search rules

module _ (p : Option ℕ) (d int : ℕ) (t : Tables) where
  abbrev pub begin : ℕ
  begin = (type_at t.types d).parts.start

  abbrev pub size : ℕ
  size = (type_at t.types d).parts.len

  abbrev pub gone : Tables
  gone = after p int begin t size

  pub section_row_rewritten : Rewritten gone (fix_section p d int t)
  section_row_rewritten = search (rules, alike_set)

  pub section_rewritten : Rewritten t (fix_section p d int t)
  section_rewritten = search (rules, rewritten_on, entries_rewritten, section_row_rewritten)

  -- another row than the section's
  pub section_other : (x : ℕ) → (x ≡ d → ⊥) → type_at (fix_section p d int t).types x ≡ type_at gone.types x
  section_other x n = search rules

  pub declared_other : is_data_sec (type_at t.types d) ≡ true → (x : ℕ) → Declared t x → x ≡ d → ⊥
  declared_other s x h e = search rules

  pub section_declared : int < length t.types → is_data_sec (type_at t.types d) ≡ true → (x : ℕ) → Declared t x → Declared (fix_section p d int t) x
  section_declared lt s x h =
      let g = entries_declared p int begin t size lt x h in
      rewritten_declared gone (fix_section p d int t) section_row_rewritten x g
      (subst (λ (r : BtfType). r.size_or_type < length gone.types) (sym (section_other x (declared_other s x h))) g.type)

  -- what holds of each id of its entries, and of the placeholder, holds of each new one
  pub section_ids : begin + size ≤ length t.entries → (Q : ℕ → Type 0) → ((q : ℕ) → p ≡ Some q → Q q)
      → ((e : DataSecEntry) → In e (entries_of t d) → Q e.btf_type) → (e : DataSecEntry) → In e (entries_of (fix_section p d int t) d) → Q e.btf_type
  section_ids fit Q f h e i =
      let none : DataSecEntry = record { btf_type = 0; offset = 0; size = 0 } in
      let s = alike_at t.types (fix_section p d int t).types section_rewritten.types d in
      let j : In e (part gone.entries (type_at t.types d).parts) = subst (In e) (ap (part gone.entries) s.parts) i in
      let r = in_part begin size gone.entries none e j in
      let lt = r.1 in
      subst (λ (z : DataSecEntry). Q z.btf_type) r.2
      (entries_id p int begin t size Q (begin + r.0) f (h (entry_at t.entries (begin + r.0)) (part_in begin size t.entries none r.0 r.1 (omega arith))))

-- ---- the whole
pub int_known : (p : Option ℕ) (t : Tables) → ((q : ℕ) → p ≡ Some q → Declared t q) → (i : ℕ) → int_of p t.types ≡ Some i → i < length t.types
int_known p t h i e = search (rules, first_below, same_Some)

-- the tables of a collected object, and what they become
module _ (o : Object) (c : Collected o) where
  abbrev pub with_one : ℕ × Tables
  with_one = with_int (int_of o.placeholder o.tables.types) o.tables

  abbrev pub done : Tables
  done = fix_section o.placeholder c.section with_one.0 with_one.1

  pub done_is : fixed_tables o.placeholder o.tables ≡ done
  done_is = search rules

  pub one_longer : Longer o.tables with_one.1
  one_longer = int_longer o.tables (int_of o.placeholder o.tables.types)

  pub one_below : with_one.0 < length with_one.1.types
  one_below = search (rules, int_below, int_known, declared_is)

  pub found_row : (c.section < length o.tables.types) × (is_data_sec (type_at o.tables.types c.section) ≡ true)
  found_row = search (rules, section_is)

  pub one_row : type_at with_one.1.types c.section ≡ type_at o.tables.types c.section
  one_row = longer_at o.tables with_one.1 one_longer c.section found_row.0

  pub one_section : is_data_sec (type_at with_one.1.types c.section) ≡ true
  one_section = ap is_data_sec one_row ∙ found_row.1

  pub one_fits : Fits o.tables → end_of (type_at with_one.1.types c.section).parts ≤ length with_one.1.entries
  one_fits f = search (rules, follow_in, parts_in, found_row, one_longer, one_row)

  pub one_declared : (x : ℕ) → declares o.tables x ≡ true → Declared with_one.1 x
  one_declared x h = search (rules, longer_declared, one_longer, declared_is)

  pub done_declares : (x : ℕ) → Declared with_one.1 x → declares done x ≡ true
  done_declares x h = search (rules, is_declared, section_declared, one_below, one_section)

  pub done_fits : Fits with_one.1 → Fits done
  done_fits f = search (rules, rewritten_fits, section_rewritten)

  pub done_found : section_of done ≡ Ok (Some c.section)
  done_found =
      rewritten_section with_one.1 done (section_rewritten o.placeholder c.section with_one.0 with_one.1) ∙ longer_section o.tables with_one.1 one_longer c.section c.found

  pub done_collected : Fits o.tables → Collected (record { tables = done; externs = o.externs; placeholder = o.placeholder })
  done_collected f =
      let p = o.placeholder in
      let d = c.section in
      let int = with_one.0 in
      let u = with_one.1 in
      let r = section_rewritten p d int u in
      let back : (e : DataSecEntry) → In e (entries_of u d) → In e (entries_of o.tables d) = λ e i. subst (In e) (longer_entries o.tables u one_longer d found_row.0) i in
      let ids = section_ids p d int u (one_fits f) in
      record {
        section = d;
        found = done_found;
        entries = λ e i. done_declares e.btf_type (ids (Declared u) (λ q s. one_declared q (c.placeholder q s)) (λ z j. one_declared z.btf_type (c.entries z (back z j))) e i);
        externs = λ x i. done_declares x.entry (one_declared x.entry (c.externs x i));
        names = λ x i.
            ap (λ s. name_at s x.place) r.strings ∙ longer_name o.tables u one_longer x.place (ap is_some (c.names x i)) ∙ c.names x i;
        distinct = c.distinct;
        placeholder = λ q e. done_declares q (one_declared q (c.placeholder q e));
        func = λ e i g.
            ids (λ x. is_func (type_at u.types x) ≡ true → is_some p ≡ true) (λ q s h. ap is_some s)
            (λ z j h.
            let k = back z j in
            c.func z k (sym (ap is_func (longer_at o.tables u one_longer z.btf_type (declared_is o.tables z.btf_type (c.entries z k)).below)) ∙ h))
            e i (sym (ap (λ k. eqb (kind_number k) 12) (alike_at u.types done.types r.types e.btf_type).kind) ∙ g);
      }

-- the parts of a well-formed object
pub object_parts : (o : Object) → object_fits o ≡ true → Fits o.tables × (leb (length o.externs) MAX_EXTERNS ≡ true) × (collected_if_any o o.externs ≡ true)
object_parts o h =
    let a = and_parts (tables_fit o.tables) _ h in
    let b = and_parts (leb (length o.externs) MAX_EXTERNS) (collected_if_any o o.externs) a.1 in
    (fits_is o.tables a.0, b.0, b.1)

some_externs : (x : Extern) (xs ys : List Extern) → ys ≡ x ∷ xs → ys ≡ [] → ⊥
some_externs x xs ys e n = search rules

pub object_collected : (o : Object) (x : Extern) (xs : List Extern) → o.externs ≡ x ∷ xs → object_fits o ≡ true → Collected o
object_collected o x xs e h = (collected_is_tested o (some_externs x xs o.externs e)).0 (object_parts o h).2

room_is : (b : Bool) (r : Reason) → cond b None (Some r) ≡ None → b ≡ true
room_is b r e = search rules

fits_for : (xs : List Extern) (o : Object) → o.externs ≡ xs → object_fits o ≡ true → fix_refusal_for xs o.placeholder o.tables ≡ None
    → object_fits (record { tables = fixed_for xs o.placeholder o.tables; externs = o.externs; placeholder = o.placeholder }) ≡ true
fits_for [] o e h g = h
fits_for (x ∷ xs) o e h g =
    let c = object_collected o x xs e h in
    let f = object_parts o h in
    let new : Object = record { tables = done o c; externs = o.externs; placeholder = o.placeholder } in
    subst (λ (t : Tables). object_fits (record { tables = t; externs = o.externs; placeholder = o.placeholder }) ≡ true) (sym (done_is o c))
    (and_from (tables_fit (done o c)) _
    (is_fit (done o c) (done_fits o c (int_fits o.tables (int_of o.placeholder o.tables.types) (room_is _ _ g) f.0)))
    (and_from (leb (length o.externs) MAX_EXTERNS) _ f.1 (collected_test new (done_collected o c f.0))))

pub fixed_fits : (o : Object) → object_fits o ≡ true → fix_refusal o ≡ None → object_fits (fixed o) ≡ true
fixed_fits o h g = fits_for o.externs o refl h g

-- ---- what is left
pub entry_other : (p : Option ℕ) (int at i : ℕ) (t : Tables) (m : ℕ) → (m ≡ at → ⊥) → entry_at (fix_entry p int at i t).entries m ≡ entry_at t.entries m
entry_other p int at i t m n = search rules

pub row_other : (p : Option ℕ) (int at i : ℕ) (t : Tables) (k : ℕ) → (k ≡ id_at p int at i t → ⊥) → type_at (fix_entry p int at i t).types k ≡ type_at t.types k
row_other p int at i t k n = search rules

-- a parameter without a type, or with a name
abbrev Unnamed : BtfParam → Type 0
Unnamed x = (x.btf_type ≡ 0) ⊎ (x.name_offset ≡ 0 → ⊥)

not_named : (name : ℕ) (x : BtfParam) → Unnamed x → named_param name x ≡ x
not_named name x h = search rules

params_at : (name : ℕ) (proto : BtfType) (b : Bool) (ps : List BtfParam) (m : ℕ)
    → Unnamed (param_at ps m) ⊎ (b ≡ true → Outside proto.parts m) → param_at (cond b (named_params name proto ps) ps) m ≡ param_at ps m
params_at name proto b ps m h = search (rules, not_named, part_at)

pub param_same : (p : Option ℕ) (int at i : ℕ) (t : Tables) (m : ℕ)
    → Unnamed (param_at t.params m) ⊎ NotOf t.types (id_at p int at i t) m → param_at (fix_entry p int at i t).params m ≡ param_at t.params m
param_same p int at i t m h = search (rules, by_entry, params_at)

-- no part of the type of a function stays none where rows keep their shape and a Func its type
not_of : (ts us : List BtfType) (id m : ℕ) → Shape (type_at ts id) (type_at us id)
    → (is_func (type_at ts id) ≡ true → ((type_at us id).size_or_type ≡ (type_at ts id).size_or_type) × Shape (type_at ts (type_at ts id).size_or_type) (type_at us (type_at ts id).size_or_type))
    → NotOf ts id m → NotOf us id m
not_of ts us id m s f h a b = search rules

module _ (p : Option ℕ) (int start : ℕ) (t : Tables) (len : ℕ) where
  -- the entries that i steps leave
  abbrev pub Untouched : ℕ → Tables → Type 0
  Untouched i u = (m : ℕ) → (m < start) ⊎ (start + i ≤ m) → entry_at u.entries m ≡ entry_at t.entries m

  pub outside_on : (i : ℕ) (u : Tables) → Untouched i u → Untouched (i + 1) (fix_entry p int (start + i) i u)
  outside_on i u h m s = search rules

  pub entries_outside : Untouched len (after p int start t len)
  entries_outside = entries_keep p int start t len Untouched (λ m s. refl) (λ i u l h. outside_on i u h)

  pub entries_row : (k : ℕ) → ((j : ℕ) → j < len → (entry_at t.entries (start + j)).btf_type ≡ k → ⊥) → type_at (after p int start t len).types k ≡ type_at t.types k
  entries_row k n =
      (entries_keep p int start t len (λ i u. Untouched i u × (type_at u.types k ≡ type_at t.types k)) ((λ m s. refl), refl)
      (λ i u l h.
      let here : entry_at u.entries (start + i) ≡ entry_at t.entries (start + i) = h.0 (start + i) (inr (omega arith)) in
      (outside_on i u h.0, row_other p int (start + i) i u k (λ e. n i l (ap (λ (z : DataSecEntry). z.btf_type) (sym here) ∙ sym e)) ∙ h.1))
      ).1

  -- each Func has the type that it had
  abbrev Typed : Tables → Type 0
  Typed u = (x : ℕ) → is_func (type_at t.types x) ≡ true → (type_at u.types x).size_or_type ≡ (type_at t.types x).size_or_type

  typed_on : (at i : ℕ) (u : Tables) → Rewritten t u → Typed u → Typed (fix_entry p int at i u)
  typed_on at i u r h x e = search (rules, entry_func, alike_at)

  pub entries_param : (m : ℕ) → Unnamed (param_at t.params m) ⊎ ((j : ℕ) → j < len → NotOf t.types (entry_at t.entries (start + j)).btf_type m)
      → param_at (after p int start t len).params m ≡ param_at t.params m
  entries_param m h =
      (entries_keep p int start t len (λ i u. Untouched i u × Rewritten t u × Typed u × (param_at u.params m ≡ param_at t.params m))
      ((λ m s. refl), rewritten_same t, (λ x e. refl), refl)
      (λ i u l k.
      let id = (entry_at t.entries (start + i)).btf_type in
      let here : entry_at u.entries (start + i) ≡ entry_at t.entries (start + i) = k.0 (start + i) (inr (omega arith)) in
      let shape = alike_at t.types u.types k.1.types in
      let other : NotOf t.types id m → NotOf u.types (entry_at u.entries (start + i)).btf_type m = λ g.
      subst (λ (z : DataSecEntry). NotOf u.types z.btf_type m) (sym here) (not_of t.types u.types id m (shape id) (λ e. (k.2 id e, shape (type_at t.types id).size_or_type)) g) in (
        outside_on i u k.0,
        rewritten_on t u _ k.1 (entry_rewritten p int (start + i) i u),
        typed_on (start + i) i u k.1 k.2,
        param_same p int (start + i) i u m (⊎_elim (λ n. inl (subst Unnamed (sym k.3) n)) (λ g. inr (other (g i l))) h) ∙ k.3,
      ))
      ).3

module _ (o : Object) (c : Collected o) (f : Fits o.tables) where
  abbrev new : Object
  new = record { tables = done o c; externs = o.externs; placeholder = o.placeholder }

  -- an entry that a step is about was one of the section's
  inside : (j : ℕ) → j < (type_at (with_one o c).1.types c.section).parts.len
      → In (entry_at (with_one o c).1.entries ((type_at (with_one o c).1.types c.section).parts.start + j)) (entries_of o.tables c.section)
  inside j l =
      let u = (with_one o c).1 in
      let row = type_at u.types c.section in
      let fit = one_fits o c f in
      subst (In (entry_at u.entries (row.parts.start + j))) (longer_entries o.tables u (one_longer o c) c.section (found_row o c).0)
      (part_in row.parts.start row.parts.len u.entries (record { btf_type = 0; offset = 0; size = 0 }) j l (omega arith))

  leaves_shape : (k : ℕ) → k < length o.tables.types → Shape (type_at o.tables.types k) (type_at new.tables.types k)
  leaves_shape k lt =
      let u = (with_one o c).1 in
      subst (λ r. Shape r (type_at new.tables.types k)) (longer_at o.tables u (one_longer o c) k lt)
      (alike_at u.types (done o c).types (section_rewritten o.placeholder c.section (with_one o c).0 u).types k)

  leaves_rows : (k : ℕ) → k < length o.tables.types → (k ≡ c.section → ⊥)
      → ((e : DataSecEntry) → In e (entries_of o.tables c.section) → e.btf_type ≡ k → ⊥) → type_at new.tables.types k ≡ type_at o.tables.types k
  leaves_rows k lt n h =
      let u = (with_one o c).1 in
      let row = type_at u.types c.section in
      section_other o.placeholder c.section (with_one o c).0 u k n
      ∙ entries_row o.placeholder (with_one o c).0 row.parts.start u row.parts.len k (λ j l. h (entry_at u.entries (row.parts.start + j)) (inside j l))
      ∙ longer_at o.tables u (one_longer o c) k lt

  leaves_entries : (k : ℕ) → Outside (type_at o.tables.types c.section).parts k
      → entry_at new.tables.entries k ≡ entry_at o.tables.entries k
  leaves_entries k s = search (rules, entries_outside, one_row, one_longer)

  leaves_params : (k : ℕ) → Unnamed (param_at o.tables.params k) ⊎ ((e : DataSecEntry) → In e (entries_of o.tables c.section) → NotOf o.tables.types e.btf_type k)
      → param_at new.tables.params k ≡ param_at o.tables.params k
  leaves_params k h =
      let u = (with_one o c).1 in
      let row = type_at u.types c.section in
      let long = one_longer o c in
      let same : param_at u.params k ≡ param_at o.tables.params k = ap (λ ps. param_at ps k) long.params in
      let shape : (x : ℕ) → x < length o.tables.types → Shape (type_at o.tables.types x) (type_at u.types x) = λ x lt.
      subst (Shape (type_at o.tables.types x)) (sym (longer_at o.tables u long x lt)) (shape_same _) in
      let other : ((e : DataSecEntry) → In e (entries_of o.tables c.section) → NotOf o.tables.types e.btf_type k)
      → (j : ℕ) → j < row.parts.len → NotOf u.types (entry_at u.entries (row.parts.start + j)).btf_type k = λ g j l.
      let e = entry_at u.entries (row.parts.start + j) in
      let i = inside j l in
      let d = declared_is o.tables e.btf_type (c.entries e i) in
      not_of o.tables.types u.types e.btf_type k (shape _ d.below)
      (λ a. (ap (λ (r : BtfType). r.size_or_type) (longer_at o.tables u long _ d.below), shape _ d.type)) (g e i) in
      entries_param o.placeholder (with_one o c).0 row.parts.start u row.parts.len k (⊎_elim (λ n. inl (subst Unnamed (sym same) n)) (λ g. inr (other g)) h) ∙ same

  leaves_strings : (k : ℕ) → k < length o.tables.strings → get_or new.tables.strings k 0 ≡ get_or o.tables.strings k 0
  leaves_strings k lt =
      let u = (with_one o c).1 in
      let l = one_longer o c in
      ap (λ s. get_or s k 0) ((section_rewritten o.placeholder c.section (with_one o c).0 u).strings ∙ l.strings) ∙ get_or_append_left o.tables.strings l.bytes 0 k lt

  pub done_leaves : Leaves o new c.section
  done_leaves =
      record {
        externs = refl;
        placeholder = refl;
        rows = leaves_rows;
        kinds = λ k lt. (leaves_shape k lt).kind;
        names = λ k lt. (leaves_shape k lt).name;
        parts = λ k lt. (leaves_shape k lt).parts;
        entries = leaves_entries;
        params = λ k h. leaves_params k (inl h);
        other_params = λ k h. leaves_params k (inr h);
        strings = leaves_strings;
      }

pub same_leaves : (o : Object) (d : ℕ) → Leaves o o d
same_leaves o d = search rules

leaves_for : (xs : List Extern) (o : Object) (d : ℕ) → o.externs ≡ xs → object_fits o ≡ true → section_of o.tables ≡ Ok (Some d)
    → Leaves o (record { tables = fixed_for xs o.placeholder o.tables; externs = o.externs; placeholder = o.placeholder }) d
leaves_for [] o d e h s = same_leaves o d
leaves_for (x ∷ xs) o d e h s =
    let c = object_collected o x xs e h in
    let same : c.section ≡ d = same_Some _ _ (ok_same _ _ (sym c.found ∙ s)) in
    subst (Leaves o (record { tables = fixed_tables o.placeholder o.tables; externs = o.externs; placeholder = o.placeholder })) same
    (subst (λ (t : Tables). Leaves o (record { tables = t; externs = o.externs; placeholder = o.placeholder }) c.section) (sym (done_is o c)) (done_leaves o c (object_parts o h).0))

pub fixup_leaves_other_rows : FixupLeavesOtherRows
fixup_leaves_other_rows st d h s =
    cond_both (granted fixup st) (fixed st.object) st.object (λ n. Leaves st.object n d) (λ g. leaves_for st.object.externs st.object d refl h s) (λ g. same_leaves st.object d)
