-- Externs made weak, and the collection of symbols declared weak.
use Rattle.std.proofs.Common.{rules, ◌≡◌, ℕ, zero, suc, Bool, false, cond, ◌&&◌, ◌||◌, List, [], ◌∷◌, map, length, Some, None, Ok, Err, Option, Result, sym, refl, ap, ◌∙◌, subst, inl, inr}
use Rattle.std.specs.List.{list_any, list_all}
use Rattle.std.specs.Str.{bytes_eq}
use Rattle.std.proofs.lemmas.Bool.{cond-true, cond-false, cond_both}
use Rattle.model.specs.Chain.{type_at}
use Rattle.model.specs.Collect.{symbol_named, symbol_read, name_read, row_read, entry_read, duplicate, made, granted_unless, collect_rows, collect_entries, collect_section, collect, entries_of, has_func}
use Rattle.model.specs.Externs.{Extern, Object}
use Rattle.model.specs.Laws.{weaker_symbol, weaker_rows, weaker_symbols}
use Rattle.model.specs.Lists.{In, ascends, lookup, with_first, each}
use Rattle.model.specs.Tables.{Tables, Symbols, symbols_fit}
use Rattle.model.specs.declared.btf.BtfType.{BtfType}
use Rattle.model.specs.declared.btf.DataSecEntry.{DataSecEntry}
use Rattle.model.specs.declared.refusal.Reason.{Reason}
use Rattle.model.specs.declared.rows.Symbol.{Symbol}

-- ---- rows changed by a mask
abbrev pub masked : {X : Type 0} → (Bool → X → X) → (ℕ → Bool) → List X → List X
masked f m [] = []
masked f m (x ∷ xs) = f (m 0) x ∷ masked f (λ i. m (suc i)) xs

-- a mask with one more in front
abbrev after_mark : Bool → (ℕ → Bool) → ℕ → Bool
after_mark b m zero = b
after_mark b m (suc i) = m i

module _ {X : Type 0} (f : Bool → X → X) where
  pub masked_length : (m : ℕ → Bool) (xs : List X) → length (masked f m xs) ≡ length xs
  masked_length m [] = refl
  masked_length m (x ∷ xs) = ap suc (masked_length (λ i. m (suc i)) xs)

  pub in_masked : (m : ℕ → Bool) (xs : List X) (y : X) → In y (masked f m xs) → (b : Bool) × (x : X) × In x xs × (y ≡ f b x)
  in_masked m [] y i = absurd i
  in_masked m (x ∷ xs) y (inl p) = (m 0, x, inl refl, sym p)
  in_masked m (x ∷ xs) y (inr i) = let k = in_masked (λ j. m (suc j)) xs y i in (k.0, k.1, inr k.2, k.3)

  pub map_masked : {Y : Type 0} (g : X → Y) → ((b : Bool) (x : X) → g (f b x) ≡ g x) → (m : ℕ → Bool) (xs : List X) → map g (masked f m xs) ≡ map g xs
  map_masked g h m [] = refl
  map_masked g h m (x ∷ xs) = λ i. h (m 0) x i ∷ map_masked g h (λ j. m (suc j)) xs i

  -- what does not read the change, is the same of the changed rows
  module _ (p : X → Bool) (h : (b : Bool) (x : X) → p (f b x) ≡ p x) where
    pub any_masked : (m : ℕ → Bool) (xs : List X) → list_any p (masked f m xs) ≡ list_any p xs
    any_masked m [] = refl
    any_masked m (x ∷ xs) = λ i. h (m 0) x i || any_masked (λ j. m (suc j)) xs i

    pub all_masked : (m : ℕ → Bool) (xs : List X) → list_all p (masked f m xs) ≡ list_all p xs
    all_masked m [] = refl
    all_masked m (x ∷ xs) = λ i. h (m 0) x i && all_masked (λ j. m (suc j)) xs i

  ascends_masked : (before : X → X → Bool) → ((b c : Bool) (x y : X) → before (f b x) (f c y) ≡ before x y) → (m : ℕ → Bool) (xs : List X) → ascends before (masked f m xs) ≡ ascends before xs
  ascends_masked before h m [] = refl
  ascends_masked before h m (x ∷ []) = refl
  ascends_masked before h m (x ∷ y ∷ ys) = λ i. h (m 0) (m 1) x y i && ascends_masked before h (λ j. m (suc j)) (y ∷ ys) i

  -- what a lookup finds among the rows, and among the changed ones
  abbrev pub Found : Option (ℕ × X) → Option (ℕ × X) → Type 0
  Found None o = o ≡ None
  Found (Some k) o = (b : Bool) × (o ≡ Some (k.0, f b k.1))

  pub lookup_masked : (p : X → Bool) → ((b : Bool) (x : X) → p (f b x) ≡ p x) → (n : ℕ) (m : ℕ → Bool) (xs : List X) → Found (lookup p n xs) (lookup p n (masked f m xs))
  lookup_masked p h n m [] = refl
  lookup_masked p h n m (x ∷ xs) =
      cond_both (p x) (Some (n, x)) (lookup p (suc n) xs) (λ o. Found o (lookup p n (masked f m (x ∷ xs))))
      (λ t. (m 0, cond-true (p (f (m 0) x)) _ _ (h (m 0) x ∙ t)))
      (λ t. subst (Found (lookup p (suc n) xs)) (sym (cond-false (p (f (m 0) x)) _ _ (h (m 0) x ∙ t))) (lookup_masked p h (suc n) (λ i. m (suc i)) xs))

-- ---- an extern that may be missing too, if b says so; those of a list that a mask picks
abbrev pub weaker : Bool → Extern → Extern
weaker b x =
    record {
      name = x.name;
      place = x.place;
      entry = x.entry;
      func = x.func;
      typed = x.typed;
      weak = b || x.weak;
      resolved = x.resolved;
      id = x.id;
      address = x.address;
    }

abbrev pub weakened : (ℕ → Bool) → List Extern → List Extern
weakened m xs = masked weaker m xs

abbrev pub weakened_object : (ℕ → Bool) → Object → Object
weakened_object m o = record { tables = o.tables; externs = weakened m o.externs; placeholder = o.placeholder }

-- ---- weaker symbols
pub rows_masked : (m : ℕ → Bool) (ss : List Symbol) → weaker_rows m ss ≡ masked weaker_symbol m ss
rows_masked m ss = search rules

module _ (m : ℕ → Bool) (ss : Symbols) where
  abbrev changed : Symbols
  changed = record { rows = masked weaker_symbol m ss.rows; names = ss.names }

  pub changed_is : weaker_symbols m ss ≡ changed
  changed_is = search rules

  pub symbols_fit_weak : symbols_fit changed ≡ symbols_fit ss
  symbols_fit_weak = search (rules, masked_length, ascends_masked, all_masked)

  symbol_named_weak : (name : List ℕ) → Found weaker_symbol (symbol_named ss name) (symbol_named changed name)
  symbol_named_weak name = search (rules, lookup_masked)

-- ---- the same refusal, or a grant that a mark changes
abbrev pub Alike : {D X : Type 0} → (D → X → X) → Result X Reason → Result X Reason → Type 0
Alike f (Err e) q = q ≡ Err e
Alike {D} f (Ok x) q = (d : D) × (q ≡ Ok (f d x))

cond_alike : {D X : Type 0} (f : D → X → X) (b : Bool) (p q : Result X Reason) (e : Reason) → Alike f p q → Alike f (cond b p (Err e)) (cond b q (Err e))
cond_alike f b p q e h = search rules

-- ---- one entry
symbol_alike : (ts : List BtfType) (n id : ℕ) (row : BtfType) (name : List ℕ) (o q : Option (ℕ × Symbol)) → Found weaker_symbol o q → Alike weaker (symbol_read ts n id row name o) (symbol_read ts n id row name q)
symbol_alike ts n id row name o q w = search rules

module _ (t : Tables) (m : ℕ → Bool) (ss : Symbols) where
  name_alike : (n id : ℕ) (row : BtfType) (o : Option (List ℕ)) → Alike weaker (name_read t.types ss n id row o) (name_read t.types (changed m ss) n id row o)
  name_alike n id row o = search (rules, symbol_alike, symbol_named_weak)

  row_alike : (n id : ℕ) (row : BtfType) → Alike weaker (row_read t ss n id row) (row_read t (changed m ss) n id row)
  row_alike n id row = search (rules, cond_alike, name_alike)

  entry_alike : (n : ℕ) (e : DataSecEntry) → Alike weaker (entry_read t ss n e) (entry_read t (changed m ss) n e)
  entry_alike n e = search (rules, cond_alike, row_alike)

-- ---- all entries
first_alike : (p q : Result Extern Reason) (ps qs : Result (List Extern) Reason) → Alike weaker p q → Alike weakened ps qs → Alike weakened (with_first p ps) (with_first q qs)
first_alike (Err e) q ps qs h k = ap (λ r. with_first r qs) h
first_alike (Ok x) q (Err e) qs h k = (λ i. with_first (h.1 i) (k i))
first_alike (Ok x) q (Ok xs) qs h k = (after_mark h.0 k.0, λ i. with_first (h.1 i) (k.1 i))

each_alike : {X : Type 0} (f g : ℕ → X → Result Extern Reason) → ((n : ℕ) (x : X) → Alike weaker (f n x) (g n x)) → (n : ℕ) (xs : List X) → Alike weakened (each f n xs) (each g n xs)
each_alike f g h n [] = (λ i. false, refl)
each_alike f g h n (x ∷ xs) = first_alike _ _ _ _ (h n x) (each_alike f g h (suc n) xs)

-- ---- what is tested last
-- two lists have the same names
abbrev SameNames : List Extern → List Extern → Type 0
SameNames xs ys = (n : List ℕ) → list_any (λ y. bytes_eq y.name n) ys ≡ list_any (λ y. bytes_eq y.name n) xs

duplicate_weak : (before front : List Extern) → SameNames before front → (n : ℕ) (m : ℕ → Bool) (xs : List Extern) → duplicate front n (weakened m xs) ≡ duplicate before n xs
duplicate_weak before front h n m [] = refl
duplicate_weak before front h n m (x ∷ xs) = λ i.
    cond (h x.name i) (Some (Reason.DuplicateName n)) (duplicate_weak (x ∷ before) (weaker (m 0) x ∷ front) (λ z. ap (λ t. bytes_eq x.name z || t) (h z)) (suc n) (λ j. m (suc j)) xs i)

made_weak : (func : Bool) (m : ℕ → Bool) (xs : List Extern) (t : Tables) → made func (weakened m xs) t ≡ weakened_object m (made func xs t)
made_weak func m xs t = search rules

unless_alike : (r : Option Reason) (m : ℕ → Bool) (o : Object) → Alike weakened_object (granted_unless r o) (granted_unless r (weakened_object m o))
unless_alike r m o = search rules

module _ (t : Tables) where
  rows_weak : (n : ℕ) (func : Bool) (m : ℕ → Bool) (xs : List Extern) → Alike weakened_object (collect_rows t n func (Ok xs)) (collect_rows t n func (Ok (weakened m xs)))
  rows_weak n func m xs = search (rules, duplicate_weak, masked_length, made_weak, unless_alike)

  rows_alike : (n : ℕ) (func : Bool) (p q : Result (List Extern) Reason) → Alike weakened p q → Alike weakened_object (collect_rows t n func p) (collect_rows t n func q)
  rows_alike n func p q h = search (rules, rows_weak)

  module _ (m : ℕ → Bool) (ss : Symbols) where
    entries_alike : (n : ℕ) (es : List DataSecEntry) (r : Result Bool Reason) → Alike weakened_object (collect_entries t ss n es r) (collect_entries t (changed m ss) n es r)
    entries_alike n es r = search (rules, rows_alike, each_alike, entry_alike)

    section_alike : (r : Result (Option ℕ) Reason) → Alike weakened_object (collect_section t ss r) (collect_section t (changed m ss) r)
    section_alike (Err e) = refl
    section_alike (Ok None) = (m, refl)
    section_alike (Ok (Some d)) =
        let n = (type_at t.types d).parts.start in
        entries_alike n (entries_of t d) (has_func t.types n (entries_of t d))

    -- ---- the whole: refused alike, or granted with the externs made weak by some mask
    pub collect_alike : Alike weakened_object (collect t ss) (collect t (weaker_symbols m ss))
    collect_alike = search (rules, symbols_fit_weak, changed_is, cond_alike, section_alike)
