-- The tests of the tables say exactly that the tables are well-formed.
use Rattle.std.proofs.Common.{rules, ◌≡◌, ℕ, ◌/◌, ◌%◌, ◌<◌, ◌≤◌, Bool, true, false, ◌&&◌, ltb, leb, ◌⊎◌, ◌↔◌, List, [], ◌∷◌, ◌++◌, length, Some, Option, refl, ap, subst, inl, inr, arith}
use Rattle.std.specs.List.{list_all}
use Rattle.std.proofs.lemmas.Bool.{and_parts, and_from, ltb-true, lt-ltb, leb-true, le-leb, eqb-true, eq-eqb}
use Rattle.model.specs.Chain.{type_at}
use Rattle.model.specs.Collected.{Collected, object_fits}
use Rattle.model.specs.Externs.{Extern, Object}
use Rattle.model.specs.Kinds.{kind_number, of_kind}
use Rattle.model.specs.Lists.{ascends, earlier}
use Rattle.model.specs.Relocate.{Program, function_slots, functions_fit, relocations_fit, code_fits, program_fits}
use Rattle.model.specs.Slots.{whole_slots}
use Rattle.model.specs.Spans.{inside, end_of, follow}
use Rattle.model.specs.TableLaws.{slots_of, WellFormedTables, WellFormedObject, Before, WellFormedSymbols, WellFormedCatalogue, WellFormedProgram, TablesAreTested}
use Rattle.model.specs.Tables.{Tables, Symbols, Catalogue, MAX_ROWS, MAX_FUNCTIONS, MAX_NAMES, MAX_SECTION_OFFSET, void_first, parts_fit, inside_if_any, symbols_fit, catalogue_fits}
use Rattle.model.specs.declared.btf.BtfType.{BtfType}
use Rattle.model.specs.declared.rows.CatalogueRow.{CatalogueRow}
use Rattle.model.specs.declared.rows.Function.{Function}
use Rattle.model.specs.declared.rows.Relocation.{Relocation}
use Rattle.model.specs.declared.rows.Span.{Span}
use Rattle.model.specs.declared.rows.Symbol.{Symbol}
use Rattle.model.proofs.Followed.{rows_follow, slots_follow}
use Rattle.model.proofs.Lookups.{all_in, in_all}
use Rattle.model.proofs.Tested.{collected_test}
use Rattle.model.proofs.Grown.{Fits, fits_is, is_fit}
use Rattle.model.proofs.Fixes.{object_parts, object_collected}

-- ---- rows that ascend
-- each comes before every later one
abbrev Ascending : {X : Type 0} → (X → X → Type 0) → List X → Type 0
Ascending {X} R xs = (front : List X) (x : X) (middle : List X) (y : X) (back : List X) → xs ≡ front ++ x ∷ (middle ++ y ∷ back) → R x y

module _ {X : Type 0} (before : X → X → Bool) (R : X → X → Type 0)
    (is : (x y : X) → before x y ≡ true → R x y) (from : (x y : X) → R x y → before x y ≡ true) (on : (x y z : X) → R x y → R y z → R x z) where
  ascends_rest : (x : X) (xs : List X) → ascends before (x ∷ xs) ≡ true → ascends before xs ≡ true
  ascends_rest x xs h = search rules

  ascends_first : (x : X) (middle : List X) (y : X) (back : List X) → ascends before (x ∷ (middle ++ y ∷ back)) ≡ true → R x y
  ascends_first x [] y back h = is x y (and_parts (before x y) _ h).0
  ascends_first x (m ∷ ms) y back h = let p = and_parts (before x m) _ h in on x m y (is x m p.0) (ascends_first m ms y back p.1)

  ascends_split : (front : List X) (x : X) (middle : List X) (y : X) (back : List X) → ascends before (front ++ x ∷ (middle ++ y ∷ back)) ≡ true → R x y
  ascends_split [] x middle y back h = ascends_first x middle y back h
  ascends_split (z ∷ zs) x middle y back h = ascends_split zs x middle y back (ascends_rest z (zs ++ x ∷ (middle ++ y ∷ back)) h)

  is_ascending : (xs : List X) → Ascending R xs → ascends before xs ≡ true
  is_ascending [] h = refl
  is_ascending (x ∷ []) h = refl
  is_ascending (x ∷ y ∷ ys) h =
      and_from (before x y) _ (from x y (h [] x [] y ys refl)) (is_ascending (y ∷ ys) (λ front a middle b back e. h (x ∷ front) a middle b back (ap (λ zs. x ∷ zs) e)))

  ascends_is : (xs : List X) → (ascends before xs ≡ true) ↔ Ascending R xs
  ascends_is xs = search (rules, ascends_split, is_ascending)

-- pairs of numbers in order
earlier_is : (p q : ℕ × ℕ) → earlier p q ≡ true → Before p q
earlier_is p q h = search rules

is_earlier : (p q : ℕ × ℕ) → Before p q → earlier p q ≡ true
is_earlier p q h = search rules

before_on : (p q r : ℕ × ℕ) → Before p q → Before q r → Before p r
before_on p q r h h2 = search rules

keys_ascend : {X : Type 0} (key : X → ℕ × ℕ) (xs : List X) → (ascends (λ x y. earlier (key x) (key y)) xs ≡ true) ↔ Ascending (λ x y. Before (key x) (key y)) xs
keys_ascend key xs = search (rules, ascends_is, earlier_is, is_earlier, before_on)

-- ---- a BTF
void_is : (ts : List BtfType) → void_first ts ≡ true → (0 < length ts) × (kind_number (type_at ts 0).kind ≡ 0)
void_is ts h = search rules

is_void : (ts : List BtfType) → 0 < length ts → kind_number (type_at ts 0).kind ≡ 0 → void_first ts ≡ true
is_void ts l e = search rules

part_is : (r : BtfType) → parts_fit r ≡ true → of_kind 15 r ≡ false → of_kind 13 r ≡ false → r.parts.len ≡ 0
part_is r h s p = search rules

is_part : (r : BtfType) → (of_kind 15 r ≡ false → of_kind 13 r ≡ false → r.parts.len ≡ 0) → parts_fit r ≡ true
is_part r h = search rules

fits_formed : (t : Tables) → Fits t → WellFormedTables t
fits_formed t f = search (rules, void_is, rows_follow, part_is, all_in)

formed_fits : (t : Tables) → WellFormedTables t → Fits t
formed_fits t w = search (rules, is_void, in_all, is_part, rows_follow)

-- ---- an object
collected_or_none : (o : Object) (xs : List Extern) → o.externs ≡ xs → object_fits o ≡ true → (o.externs ≡ []) ⊎ Collected o
collected_or_none o [] e h = inl e
collected_or_none o (x ∷ xs) e h = inr (object_collected o x xs e h)

object_formed : (o : Object) → object_fits o ≡ true → WellFormedObject o
object_formed o h = search (rules, object_parts, fits_formed, leb-true, collected_or_none)

formed_object : (o : Object) → WellFormedObject o → object_fits o ≡ true
formed_object o w = search (rules, is_fit, formed_fits, le-leb, collected_test)

-- ---- symbols and catalogues
indices_ascend : (ss : List Symbol) → (ascends (λ s t. ltb s.index t.index) ss ≡ true) ↔ Ascending (λ s t. s.index < t.index) ss
indices_ascend ss =
    ascends_is (λ (s : Symbol) (t : Symbol). ltb s.index t.index) (λ (s : Symbol) (t : Symbol). s.index < t.index) (λ s t. ltb-true s.index t.index) (λ s t. lt-ltb s.index t.index)
    (λ s t u a b. omega arith) ss

inside_is : (names : List ℕ) (o : Option Span) → inside_if_any names o ≡ true → (n : Span) → o ≡ Some n → end_of n ≤ length names
inside_is names o h n e = search rules

is_inside : (names : List ℕ) (o : Option Span) → ((n : Span) → o ≡ Some n → end_of n ≤ length names) → inside_if_any names o ≡ true
is_inside names o h = search rules

module _ (ss : Symbols) where
  abbrev name_inside : Symbol → Bool
  name_inside s = inside_if_any ss.names s.name

  symbols_formed : symbols_fit ss ≡ true → WellFormedSymbols ss
  symbols_formed h = search (rules, leb-true, indices_ascend, inside_is, all_in)

  formed_symbols : WellFormedSymbols ss → symbols_fit ss ≡ true
  formed_symbols w =
      and_from (leb (length ss.rows) MAX_ROWS && leb (length ss.names) MAX_NAMES) _
      (and_from (leb (length ss.rows) MAX_ROWS) _ (le-leb _ _ w.rows) (le-leb _ _ w.names))
      (and_from (ascends (λ s t. ltb s.index t.index) ss.rows) _ ((indices_ascend ss.rows).1 w.ascend)
      (in_all name_inside ss.rows (λ s i. is_inside ss.names s.name (λ n. w.inside s n i))))

module _ (c : Catalogue) where
  abbrev row_inside : CatalogueRow → Bool
  row_inside k = inside c.names k.name

  catalogue_formed : catalogue_fits (Some c) ≡ true → WellFormedCatalogue c
  catalogue_formed h = search (rules, leb-true, all_in)

  formed_catalogue : WellFormedCatalogue c → catalogue_fits (Some c) ≡ true
  formed_catalogue w =
      and_from (leb (length c.rows) MAX_ROWS && leb (length c.names) MAX_NAMES) _
      (and_from (leb (length c.rows) MAX_ROWS) _ (le-leb _ _ w.rows) (le-leb _ _ w.names)) (in_all row_inside c.rows (λ k i. le-leb _ _ (w.inside k i)))

-- ---- a program
module _ (p : Program) (code : List ℕ) where
  abbrev offset_fits : Function → Bool
  offset_fits f = leb f.section_offset MAX_SECTION_OFFSET

  abbrev place : Function → ℕ × ℕ
  place f = (f.section, f.address)

  abbrev spot : Relocation → ℕ × ℕ
  spot r = (r.section, r.offset)

  program_formed : program_fits p code ≡ true → WellFormedProgram p code
  program_formed h =
      let a = and_parts (code_fits code) _ h in
      let b = and_parts (whole_slots code) (leb (length code / 8) MAX_ROWS) a.0 in
      let c = and_parts (symbols_fit p.symbols) _ a.1 in
      let d = and_parts (relocations_fit p.relocations) (functions_fit p.functions (length code / 8)) c.1 in
      let r = and_parts (leb (length p.relocations) MAX_ROWS) _ d.0 in
      let f = and_parts (leb (length p.functions) MAX_FUNCTIONS) _ d.1 in
      let g = and_parts (list_all offset_fits p.functions) _ f.1 in
      let k = and_parts (ascends (λ x y. earlier (place x) (place y)) p.functions) (follow 0 (function_slots p.functions) (length code / 8)) g.1 in
      let m = eqb-true (length code % 8) 0 b.0 in
      let spans = (slots_follow (length code / 8) p.functions).0 k.1 in
      record {
        slots = length code / 8;
        whole = omega arith;
        few_slots = leb-true _ _ b.1;
        symbols = symbols_formed p.symbols c.0;
        few_relocations = leb-true _ _ r.0;
        relocations = (keys_ascend spot p.relocations).0 r.1;
        few_functions = leb-true _ _ f.0;
        offsets = λ x i. leb-true _ _ (all_in offset_fits p.functions g.0 x i);
        functions = (keys_ascend place p.functions).0 k.0;
        starts = spans.0;
        ends = spans.1;
      }

  formed_program : WellFormedProgram p code → program_fits p code ≡ true
  formed_program w =
      let e = w.whole in
      let l = w.few_slots in
      let same : w.slots ≡ length code / 8 = omega arith in
      let m : length code % 8 ≡ 0 = omega arith in
      and_from (code_fits code) _ (and_from (whole_slots code) (leb (length code / 8) MAX_ROWS) (eq-eqb (length code % 8) 0 m) (le-leb (length code / 8) MAX_ROWS (omega arith)))
      (and_from (symbols_fit p.symbols) _ (formed_symbols p.symbols w.symbols)
      (and_from (relocations_fit p.relocations) (functions_fit p.functions (length code / 8))
      (and_from (leb (length p.relocations) MAX_ROWS) _ (le-leb _ _ w.few_relocations) ((keys_ascend spot p.relocations).1 w.relocations))
      (and_from (leb (length p.functions) MAX_FUNCTIONS) _ (le-leb _ _ w.few_functions)
      (and_from (list_all offset_fits p.functions) _ (in_all offset_fits p.functions (λ f i. le-leb _ _ (w.offsets f i)))
      (and_from (ascends (λ x y. earlier (place x) (place y)) p.functions) _ ((keys_ascend place p.functions).1 w.functions)
      ((slots_follow (length code / 8) p.functions).1 (w.starts, subst (λ n. slots_of p.functions ≤ n) same w.ends)))))))

-- ---- the whole
pub tables_are_tested : TablesAreTested
tables_are_tested = search (rules, fits_formed, fits_is, is_fit, formed_fits, object_formed, formed_object, symbols_formed, formed_symbols, catalogue_formed, formed_catalogue, program_formed, formed_program)
