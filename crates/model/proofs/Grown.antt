-- Tables that grow, or whose rows are rewritten and keep their shape, stay well-formed.
use Rattle.std.proofs.lemmas.Grind.{common_steps}
use Rattle.std.proofs.Common.{rules, ◌≡◌, ℕ, zero, suc, ◌+◌, ◌<◌, ◌≤◌, Bool, true, false, cond, ◌&&◌, ◌||◌, eqb, ◌⊎◌, List, [], ◌∷◌, ◌++◌, length, set, is_some, Some, None, Ok, Option, Result, sym, refl, ap, ◌∙◌, subst, inl, inr, ⊎_elim, arith}
use Rattle.std.specs.List.{list_all}
use Rattle.std.specs.Option.{option_map}
use Rattle.std.proofs.lemmas.List.{append-nil, length-append, length_push, drop-append-le, at_drop_all}
use Rattle.std.proofs.lemmas.Bool.{false≢true, cases_Bool, cond-true, cond-false, cond_both}
use Rattle.std.proofs.lemmas.Option.{none-some, same_Some}
use Rattle.model.specs.Chain.{no_row, type_at}
use Rattle.model.specs.Added.{added, int_row, placeholder_row, int_name, placeholder_name, first_int, with_int, with_placeholder, room_for, room_for_int, room_for_placeholder}
use Rattle.model.specs.Collect.{section_here, section_from, section_of, entries_of}
use Rattle.model.specs.Collected.{declares}
use Rattle.model.specs.Kinds.{of_kind, is_func, is_var, is_data_sec}
use Rattle.model.specs.Lists.{In, lookup, number_of}
use Rattle.model.specs.Names.{to_zero, name_at}
use Rattle.model.specs.Spans.{follow}
use Rattle.model.specs.Tables.{Tables, MAX_ROWS, MAX_NAMES, void_first, parts_of_kind, parts_fit, tables_fit}
use Rattle.model.specs.declared.btf.BtfType.{BtfType}
use Rattle.model.specs.declared.refusal.Reason.{Reason}
use Rattle.model.proofs.Lookups.{ok_same}

-- ---- rows of one shape
pub record Shape (t u : BtfType) : Type 0 where
  pub kind : u.kind ≡ t.kind
  pub name : u.name_offset ≡ t.name_offset
  pub parts : u.parts ≡ t.parts

pub shape_same : (t : BtfType) → Shape t t
shape_same t = search rules

pub shape_on : (t u v : BtfType) → Shape t u → Shape u v → Shape t v
shape_on t u v a b = search rules

abbrev pub Alike : List BtfType → List BtfType → Type 0
Alike [] [] = Unit {0}
Alike [] (u ∷ us) = ⊥
Alike (t ∷ ts) [] = ⊥
Alike (t ∷ ts) (u ∷ us) = Shape t u × Alike ts us

pub alike_same : (ts : List BtfType) → Alike ts ts
alike_same [] = tt
alike_same (t ∷ ts) = (shape_same t, alike_same ts)

pub alike_on : (ts us vs : List BtfType) → Alike ts us → Alike us vs → Alike ts vs
alike_on [] [] [] a b = tt
alike_on [] [] (v ∷ vs) a b = b
alike_on [] (u ∷ us) vs a b = absurd a
alike_on (t ∷ ts) [] vs a b = absurd a
alike_on (t ∷ ts) (u ∷ us) [] a b = absurd b
alike_on (t ∷ ts) (u ∷ us) (v ∷ vs) a b = (shape_on t u v a.0 b.0, alike_on ts us vs a.1 b.1)

pub alike_length : (ts us : List BtfType) → Alike ts us → length us ≡ length ts
alike_length [] [] a = refl
alike_length [] (u ∷ us) a = absurd a
alike_length (t ∷ ts) [] a = absurd a
alike_length (t ∷ ts) (u ∷ us) a = ap suc (alike_length ts us a.1)

pub alike_at : (ts us : List BtfType) → Alike ts us → (i : ℕ) → Shape (type_at ts i) (type_at us i)
alike_at [] [] a i = shape_same no_row
alike_at [] (u ∷ us) a i = absurd a
alike_at (t ∷ ts) [] a i = absurd a
alike_at (t ∷ ts) (u ∷ us) a zero = a.0
alike_at (t ∷ ts) (u ∷ us) a (suc i) = alike_at ts us a.1 i

-- a row rewritten in its shape
pub alike_set : (ts : List BtfType) (i : ℕ) (u : BtfType) → Shape (type_at ts i) u → Alike ts (set ts i u)
alike_set [] i u s = tt
alike_set (t ∷ ts) zero u s = (s, alike_same ts)
alike_set (t ∷ ts) (suc i) u s = (shape_same t, alike_set ts i u s)

kind_same : (k : ℕ) (t u : BtfType) → Shape t u → of_kind k u ≡ of_kind k t
kind_same k t u s = search rules

pub alike_void : (ts us : List BtfType) → Alike ts us → void_first us ≡ void_first ts
alike_void ts us a = search rules

parts_same : (t u : BtfType) → Shape t u → parts_fit u ≡ parts_fit t
parts_same t u s = search rules

pub alike_parts : (ts us : List BtfType) → Alike ts us → list_all parts_fit us ≡ list_all parts_fit ts
alike_parts [] [] a = refl
alike_parts [] (u ∷ us) a = absurd a
alike_parts (t ∷ ts) [] a = absurd a
alike_parts (t ∷ ts) (u ∷ us) a = λ i. parts_same t u a.0 i && alike_parts ts us a.1 i

pub alike_spans : (k : ℕ) (ts us : List BtfType) → Alike ts us → parts_of_kind k us ≡ parts_of_kind k ts
alike_spans k [] [] a = refl
alike_spans k [] (u ∷ us) a = absurd a
alike_spans k (t ∷ ts) [] a = absurd a
alike_spans k (t ∷ ts) (u ∷ us) a =
    let s = a.0 in
    let rest = alike_spans k ts us a.1 in λ i. cond (kind_same k t u s i) (s.parts i ∷ rest i) (rest i)

pub alike_section : (strings : List ℕ) (i : ℕ) (ts us : List BtfType) → Alike ts us → section_from strings i us ≡ section_from strings i ts
alike_section strings i [] [] a = refl
alike_section strings i [] (u ∷ us) a = absurd a
alike_section strings i (t ∷ ts) [] a = absurd a
alike_section strings i (t ∷ ts) (u ∷ us) a =
    let s = a.0 in
    (λ j. cond (kind_same 15 t u s j) (section_here (name_at strings (s.name j)) i (section_from strings (suc i) us)) (section_from strings (suc i) us))
    ∙ (λ j. cond (is_data_sec t) (section_here (name_at strings t.name_offset) i (alike_section strings (suc i) ts us a.1 j)) (alike_section strings (suc i) ts us a.1 j))

-- ---- a row more
pub spans_push : (k : ℕ) (ts : List BtfType) (u : BtfType) → of_kind k u ≡ false → parts_of_kind k (ts ++ u ∷ []) ≡ parts_of_kind k ts
spans_push k [] u o = cond-false (of_kind k u) _ _ o
spans_push k (t ∷ ts) u o = let rest = spans_push k ts u o in λ i. cond (of_kind k t) (t.parts ∷ rest i) (rest i)

pub void_push : (ts us : List BtfType) → void_first ts ≡ true → void_first (ts ++ us) ≡ true
void_push ts us h = search rules

pub parts_push : (ts : List BtfType) (u : BtfType) → list_all parts_fit ts ≡ true → parts_fit u ≡ true → list_all parts_fit (ts ++ u ∷ []) ≡ true
parts_push ts u h p = grind (arith, common_steps)

-- ---- names in longer strings
mapped_some : (f : List ℕ → List ℕ) (o : Option (List ℕ)) → is_some (option_map f o) ≡ is_some o
mapped_some f o = search rules

zero_stays : (xs more : List ℕ) → is_some (to_zero xs) ≡ true → to_zero (xs ++ more) ≡ to_zero xs
zero_stays [] more h = absurd (false≢true h)
zero_stays (x ∷ xs) more h =
    ⊎_elim (λ (e : eqb x 0 ≡ true). cond-true _ _ _ e ∙ sym (cond-true _ _ _ e))
    (λ (e : eqb x 0 ≡ false).
    let rest : is_some (to_zero xs) ≡ true = sym (mapped_some (λ n. x ∷ n) (to_zero xs)) ∙ sym (ap is_some (cond-false _ _ _ e)) ∙ h in
    cond-false _ _ _ e ∙ ap (option_map (λ n. x ∷ n)) (zero_stays xs more rest) ∙ sym (cond-false _ _ _ e))
    (cases_Bool (eqb x 0))

pub name_stays : (strings more : List ℕ) (o : ℕ) → is_some (name_at strings o) ≡ true → name_at (strings ++ more) o ≡ name_at strings o
name_stays strings more o h = grind (arith, common_steps, at_drop_all, false≢true, drop-append-le, zero_stays)

pub name_grows : (strings more : List ℕ) (o : ℕ) (n : List ℕ) → name_at strings o ≡ Some n → name_at (strings ++ more) o ≡ Some n
name_grows strings more o n e = name_stays strings more o (ap is_some e) ∙ e

-- ---- the section in longer tables
module _ (strings more : List ℕ) (us : List BtfType) where
  here_grows : (x y : Option (List ℕ)) (i d : ℕ) (a b : Result (Option ℕ) Reason)
      → ((n : List ℕ) → x ≡ Some n → y ≡ Some n) → (a ≡ Ok (Some d) → b ≡ Ok (Some d))
      → section_here x i a ≡ Ok (Some d) → section_here y i b ≡ Ok (Some d)
  here_grows x y i d a b f g h = search rules

  pub section_grows : (i d : ℕ) (ts : List BtfType) → section_from strings i ts ≡ Ok (Some d) → section_from (strings ++ more) i (ts ++ us) ≡ Ok (Some d)
  section_grows i d [] h = absurd (none-some d (ok_same _ _ h))
  section_grows i d (t ∷ ts) h =
      ⊎_elim
      (λ e. cond-true _ _ _ e ∙ here_grows (name_at strings t.name_offset) _ i d (section_from strings (suc i) ts) _
      (λ n. name_grows strings more t.name_offset n) (section_grows (suc i) d ts) (sym (cond-true (is_data_sec t) _ _ e) ∙ h))
      (λ e. cond-false _ _ _ e ∙ section_grows (suc i) d ts (sym (cond-false (is_data_sec t) _ _ e) ∙ h)) (cases_Bool (is_data_sec t))

-- the section is a DataSec
here_at : (x : Option (List ℕ)) (i d : ℕ) (a : Result (Option ℕ) Reason) → section_here x i a ≡ Ok (Some d) → (i ≡ d) ⊎ (a ≡ Ok (Some d))
here_at x i d a h = search rules

section_at : (strings : List ℕ) (i d : ℕ) (ts : List BtfType) → section_from strings i ts ≡ Ok (Some d)
    → (k : ℕ) × (i + k ≡ d) × (k < length ts) × (is_data_sec (type_at ts k) ≡ true)
section_at strings i d [] h = absurd (none-some d (ok_same _ _ h))
section_at strings i d (t ∷ ts) h =
    let after : section_from strings (suc i) ts ≡ Ok (Some d) → (k : ℕ) × (i + k ≡ d) × (k < length (t ∷ ts)) × (is_data_sec (type_at (t ∷ ts) k) ≡ true) =
    λ g. let r = section_at strings (suc i) d ts g in let s = r.1 in let l = r.2 in (suc r.0, omega arith, omega arith, r.3) in
    ⊎_elim
    (λ e. ⊎_elim (λ (q : i ≡ d). (0, omega arith, omega arith, e)) after (here_at (name_at strings t.name_offset) i d (section_from strings (suc i) ts) (sym (cond-true (is_data_sec t) _ _ e) ∙ h)))
    (λ e. after (sym (cond-false (is_data_sec t) _ _ e) ∙ h)) (cases_Bool (is_data_sec t))

pub section_is : (strings : List ℕ) (ts : List BtfType) (d : ℕ) → section_from strings 0 ts ≡ Ok (Some d) → (d < length ts) × (is_data_sec (type_at ts d) ≡ true)
section_is strings ts d h = search (rules, section_at)

-- ---- the parts of a row of a kind
pub parts_in : (k : ℕ) (ts : List BtfType) (d : ℕ) → d < length ts → of_kind k (type_at ts d) ≡ true → In (type_at ts d).parts (parts_of_kind k ts)
parts_in k [] d lt s = absurd (omega arith)
parts_in k (t ∷ ts) zero lt s = subst (In t.parts) (sym (cond-true (of_kind k t) (t.parts ∷ parts_of_kind k ts) (parts_of_kind k ts) s)) (inl refl)
parts_in k (t ∷ ts) (suc d) lt s =
    let rest = parts_in k ts d (omega arith) s in
    cond_both (of_kind k t) (t.parts ∷ parts_of_kind k ts) (parts_of_kind k ts) (In (type_at ts d).parts) (λ e. inr rest) (λ e. rest)

-- ---- well-formed tables, part by part
pub record Fits (t : Tables) : Type 0 where
  pub types : length t.types ≤ MAX_ROWS
  pub entries : length t.entries ≤ MAX_ROWS
  pub params : length t.params ≤ MAX_ROWS
  pub strings : length t.strings ≤ MAX_NAMES
  pub void : void_first t.types ≡ true
  pub parts : list_all parts_fit t.types ≡ true
  pub sections : follow 0 (parts_of_kind 15 t.types) (length t.entries) ≡ true
  pub protos : follow 0 (parts_of_kind 13 t.types) (length t.params) ≡ true

pub fits_is : (t : Tables) → tables_fit t ≡ true → Fits t
fits_is t h = grind (arith, common_steps)

pub is_fit : (t : Tables) → Fits t → tables_fit t ≡ true
is_fit t f = search rules

-- rows rewritten in their shape, entries and parameters as many as before, and the strings
pub record Rewritten (t u : Tables) : Type 0 where
  pub types : Alike t.types u.types
  pub entries : length u.entries ≡ length t.entries
  pub params : length u.params ≡ length t.params
  pub strings : u.strings ≡ t.strings
  pub header : u.header ≡ t.header

pub rewritten_same : (t : Tables) → Rewritten t t
rewritten_same t = search (rules, alike_same)

pub rewritten_on : (t u v : Tables) → Rewritten t u → Rewritten u v → Rewritten t v
rewritten_on t u v a b = search (rules, alike_on)

pub rewritten_fits : (t u : Tables) → Rewritten t u → Fits t → Fits u
rewritten_fits t u r f = search (rules, alike_length, alike_void, alike_parts, alike_spans)

pub rewritten_section : (t u : Tables) → Rewritten t u → section_of u ≡ section_of t
rewritten_section t u r = search (rules, alike_section)

-- ---- one row more that has no parts
pub record Plain (u : BtfType) : Type 0 where
  pub section : of_kind 15 u ≡ false
  pub proto : of_kind 13 u ≡ false
  pub parts : parts_fit u ≡ true

pub added_fits : (row : ℕ → BtfType) (name : List ℕ) (t : Tables) → Plain (row (length t.strings))
    → length t.types + 1 ≤ MAX_ROWS → length t.strings + length name ≤ MAX_NAMES → Fits t → Fits (added row name t)
added_fits row name t p a b f = search (rules, length_push, length-append, void_push, parts_push, spans_push)

-- ---- longer tables
pub record Longer (t u : Tables) : Type 0 where
  pub rows : List BtfType
  pub bytes : List ℕ
  pub types : u.types ≡ t.types ++ rows
  pub strings : u.strings ≡ t.strings ++ bytes
  pub entries : u.entries ≡ t.entries
  pub params : u.params ≡ t.params

pub longer_same : (t : Tables) → Longer t t
longer_same t = record { rows = []; bytes = []; types = sym (append-nil t.types); strings = sym (append-nil t.strings); entries = refl; params = refl }

pub longer_added : (row : ℕ → BtfType) (name : List ℕ) (t : Tables) → Longer t (added row name t)
longer_added row name t = search rules

pub longer_on : (t u v : Tables) → Longer t u → Longer u v → Longer t v
longer_on t u v a b = grind (arith, common_steps)

pub longer_length : (t u : Tables) → Longer t u → length t.types ≤ length u.types
longer_length t u l = grind (arith, common_steps)

pub longer_at : (t u : Tables) → Longer t u → (i : ℕ) → i < length t.types → type_at u.types i ≡ type_at t.types i
longer_at t u l i lt = grind (arith, common_steps)

pub longer_name : (t u : Tables) → Longer t u → (o : ℕ) → is_some (name_at t.strings o) ≡ true → name_at u.strings o ≡ name_at t.strings o
longer_name t u l o h = search (rules, name_stays)

pub longer_section : (t u : Tables) → Longer t u → (d : ℕ) → section_of t ≡ Ok (Some d) → section_of u ≡ Ok (Some d)
longer_section t u l d h = search (rules, section_grows)

pub longer_entries : (t u : Tables) → Longer t u → (d : ℕ) → d < length t.types → entries_of u d ≡ entries_of t d
longer_entries t u l d lt = grind (arith, common_steps)

-- ---- an id that declares, part by part
pub record Declared (t : Tables) (id : ℕ) : Type 0 where
  pub below : id < length t.types
  pub kind : (is_func (type_at t.types id) || is_var (type_at t.types id)) ≡ true
  pub name : is_some (name_at t.strings (type_at t.types id).name_offset) ≡ true
  pub type : (type_at t.types id).size_or_type < length t.types

pub declared_is : (t : Tables) (id : ℕ) → declares t id ≡ true → Declared t id
declared_is t id h = search rules

pub is_declared : (t : Tables) (id : ℕ) → Declared t id → declares t id ≡ true
is_declared t id d = search rules

pub longer_declared : (t u : Tables) → Longer t u → (id : ℕ) → Declared t id → Declared u id
longer_declared t u l id d = search (rules, longer_length, longer_at, longer_name)

-- ---- the int row and the placeholder
module _ {X : Type 0} (p : X → Bool) where
  pub lookup_below : (n : ℕ) (xs : List X) (k : ℕ × X) → lookup p n xs ≡ Some k → k.0 < n + length xs
  lookup_below n [] k e = absurd (none-some k e)
  lookup_below n (x ∷ xs) k e =
      ⊎_elim
      (λ t. let q : n ≡ k.0 = ap (λ z. z.0) (same_Some (n, x) k (sym (cond-true (p x) (Some (n, x)) (lookup p (suc n) xs) t) ∙ e)) in omega arith)
      (λ t. let r = lookup_below (suc n) xs k (sym (cond-false (p x) (Some (n, x)) (lookup p (suc n) xs) t) ∙ e) in omega (arith, r)) (cases_Bool (p x))

number_some : {X : Type 0} (o : Option (ℕ × X)) (i : ℕ) → number_of o ≡ Some i → (k : ℕ × X) × (o ≡ Some k) × (k.0 ≡ i)
number_some None i e = absurd (none-some i e)
number_some (Some k) i e = (k, refl, same_Some k.0 i e)

pub first_below : (ts : List BtfType) (i : ℕ) → first_int ts ≡ Some i → i < length ts
first_below ts i e = search (rules, number_some, lookup_below)

pub room_parts : (rows bytes : ℕ) (t : Tables) → room_for rows bytes t ≡ true → (length t.types + rows ≤ MAX_ROWS) × (length t.strings + bytes ≤ MAX_NAMES)
room_parts rows bytes t h = search rules

plain_int : (name : ℕ) → Plain (int_row name)
plain_int name = search rules

plain_placeholder : (int name : ℕ) → Plain (placeholder_row int name)
plain_placeholder int name = search rules

module _ (t : Tables) where
  pub int_longer : (o : Option ℕ) → Longer t (with_int o t).1
  int_longer o = search (rules, longer_added, longer_same)

  pub int_below : (o : Option ℕ) → ((i : ℕ) → o ≡ Some i → i < length t.types) → (with_int o t).0 < length (with_int o t).1.types
  int_below o h = grind (arith, common_steps)

  pub int_fits : (o : Option ℕ) → room_for_int o t ≡ true → Fits t → Fits (with_int o t).1
  int_fits None r f = let p = room_parts 1 (length int_name) t r in added_fits int_row int_name t (plain_int _) p.0 p.1 f
  int_fits (Some i) r f = f

  pub placeholder_fits_in : (o : Option ℕ) → room_for_placeholder o t ≡ true → Fits t → Fits (with_placeholder (with_int o t)).1
  placeholder_fits_in None r f =
      let p = room_parts 2 (length int_name + length placeholder_name) t r in
      let a = p.0 in
      let b = p.1 in
      let u = added int_row int_name t in
      let n = length_push t.types (int_row (length t.strings)) in
      let m = length-append t.strings int_name in
      added_fits (placeholder_row (length t.types)) placeholder_name u (plain_placeholder _ _) (omega arith) (omega arith)
      (added_fits int_row int_name t (plain_int _) (omega arith) (omega arith) f)
  placeholder_fits_in (Some i) r f =
      let p = room_parts 1 (length placeholder_name) t r in added_fits (placeholder_row i) placeholder_name t (plain_placeholder _ _) p.0 p.1 f
