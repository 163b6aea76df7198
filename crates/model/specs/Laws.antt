-- The laws of every list of calls on a collected object. Assumes nothing.
use Rattle.std.specs.Prelude.{◌≡◌, ℕ, suc, ◌+◌, ◌<◌, Bool, true, false, ◌||◌, ◌⊎◌, ◌↔◌, List, [], ◌∷◌, ◌++◌, map, is_some, Some, None, Ok, Err, Option, ◌≢◌}
use Rattle.std.specs.List.{AllByRecursion}
use Rattle.kallsyms.specs.Ends.{End, clean}
use Rattle.model.specs.Collect.{collect}
use Rattle.model.specs.Collected.{object_fits}
use Rattle.model.specs.Externs.{Extern, Object, extern_named}
use Rattle.model.specs.Lines.{said}
use Rattle.model.specs.Lines.Line.{line}
use Rattle.model.specs.Lists.{In}
use Rattle.model.specs.Relocate.{Program, Taken, taken, slot_index, symbol_of, slot_at, is_load, extern_name}
use Rattle.model.specs.Resolve.{candidate, strong_typed}
use Rattle.model.specs.Runs.{State, Step, brings_fit, refusal, granted, next, runs}
use Rattle.model.specs.Runs.Step.{resolve, fixup, relocate}
use Rattle.model.specs.Slots.{slots, low, high, loads}
use Rattle.model.specs.Slots.Loaded.{immediate}
use Rattle.model.specs.Spans.{part}
use Rattle.model.specs.Tables.{Tables, Symbols, Catalogue, catalogue_fits}
use Rattle.model.specs.declared.refusal.Reason.{Reason}
use Rattle.model.specs.declared.refusal.Reason.TheVariants.{InvalidTable}
use Rattle.model.specs.declared.rows.CatalogueRow.{CatalogueRow}
use Rattle.model.specs.declared.rows.Slot.{Slot}
use Rattle.model.specs.declared.rows.Span.{Span}
use Rattle.model.specs.declared.rows.Symbol.{Symbol}

-- ---- where a run starts: an object that a granted collection made, with code of any bytes
pub record Starts (st : State) : Type 0 where
  pub tables : Tables
  pub symbols : Symbols
  pub collected : collect tables symbols ≡ Ok st.object
  pub bytes : AllByRecursion (λ b. b < 256) st.code

-- ---- when a resolution is granted
-- a line among these has that nonzero address for the name
abbrev pub Lists : List (List ℕ) → List ℕ → ℕ → Type 0
Lists ls n a = In (line n (Some a)) (map said ls) × (a ≢ 0)

-- a call is a resolution that has a nonzero address for the name among its lines
abbrev pub ListedBy : Step → List ℕ → Type 0
ListedBy (resolve c ls e) n = (a : ℕ) × Lists ls n a
ListedBy fixup n = ⊥
ListedBy (relocate p) n = ⊥

-- one of the calls is granted and is such a resolution
abbrev pub FoundBy : List Step → State → List ℕ → Type 0
FoundBy [] st n = ⊥
FoundBy (s ∷ ss) st n = ((granted s st ≡ true) × ListedBy s n) ⊎ FoundBy ss (next s st) n

-- a typeless extern is wanted until one of the calls was
abbrev pub Wanted : List Step → State → Extern → Type 0
Wanted before st x = (x.typed ≡ None) × (FoundBy before st x.name → ⊥)

-- the lookup of an extern in a catalogue finds a row that fits
abbrev pub FindsRow : Option Catalogue → Extern → Type 0
FindsRow None x = ⊥
FindsRow (Some c) x = (k : ℕ × CatalogueRow) × (candidate c x ≡ Some k) × (k.1.fits ≡ true)

-- each strong typed extern's does; so without a catalogue there is no strong typed extern
abbrev pub TypedCondition : Option Catalogue → List Extern → Type 0
TypedCondition c xs = (x : Extern) → In x xs → strong_typed x ≡ true → FindsRow c x

-- the source ends clean, every line with a wanted name has an address that reads, the nonzero ones of a name are equal,
-- and each strong wanted name has one
pub record LinesAnswer (W : Extern → Type 0) (xs : List Extern) (ls : List (List ℕ)) (e : End) : Type 0 where
  pub clean : e ≡ clean
  pub reads : (x : Extern) (o : Option ℕ) → In x xs → W x → In (line x.name o) (map said ls) → is_some o ≡ true
  pub equal : (x : Extern) (a b : ℕ) → In x xs → W x → Lists ls x.name a → Lists ls x.name b → a ≡ b
  pub strong : (x : Extern) → In x xs → W x → x.weak ≡ false → (a : ℕ) × Lists ls x.name a

-- nothing is wanted, or the lines answer
abbrev pub LineCondition : (Extern → Type 0) → List Extern → List (List ℕ) → End → Type 0
LineCondition W xs ls e = ((x : Extern) → In x xs → W x → ⊥) ⊎ LinesAnswer W xs ls e

-- whatever was called before it, a resolution with a well-formed catalogue or none is granted exactly if both conditions hold
abbrev pub GrantedExactlyWhen : Type 0
GrantedExactlyWhen =
    (st : State) (before : List Step) (c : Option Catalogue) (ls : List (List ℕ)) (e : End)
    → Starts st
    → catalogue_fits c ≡ true
    → (granted (resolve c ls e) (runs before st) ≡ true) ↔ (TypedCondition c st.object.externs × LineCondition (Wanted before st) st.object.externs ls e)

-- the object stays well-formed, so that a call is refused for its tables exactly if those that it brings are not
pub record StaysWellFormed : Type 0 where
  pub object : (st : State) (before : List Step) → Starts st → object_fits (runs before st).object ≡ true
  pub calls : (st : State) (before : List Step) (s : Step) → Starts st → (refusal s (runs before st) ≡ Some InvalidTable) ↔ (brings_fit s (runs before st).code ≡ false)

-- ---- an address stands
abbrev pub address_in : Option (ℕ × Extern) → Option ℕ
address_in None = None
address_in (Some k) = k.1.address

-- the address that the extern of a name has
abbrev pub address_of : List ℕ → State → Option ℕ
address_of n st = address_in (extern_named n st.object.externs)

-- the name of a relocation's symbol, if that is known and extern; a relocation with none is skipped or refused
abbrev pub name_in : Option (ℕ × Symbol) → Option Span
name_in None = None
name_in (Some k) = extern_name k.1

abbrev pub name_of : Symbols → Taken → Option Span
name_of ss t = name_in (symbol_of ss t)

-- a relocation touches its slot, and if that is a load the next one too
abbrev pub Touches : Symbols → List Slot → Taken → ℕ → Type 0
Touches ss code t i = (is_some (name_of ss t) ≡ true) × ((i ≡ slot_index t) ⊎ ((is_load (slot_at code (slot_index t)) ≡ true) × (i ≡ slot_index t + 1)))

-- t is a load of the name n among the relocations taken, and no other touches its two slots
pub record LoadAlone (n : List ℕ) (ss : Symbols) (code : List Slot) (front : List Taken) (t : Taken) (back : List Taken) : Type 0 where
  pub place : Span
  pub symbol : name_of ss t ≡ Some place
  pub name : part ss.names place ≡ n
  pub load : is_load (slot_at code (slot_index t)) ≡ true
  pub first : (u : Taken) → In u (front ++ back) → Touches ss code u (slot_index t) → ⊥
  pub second : (u : Taken) → In u (front ++ back) → Touches ss code u (slot_index t + 1) → ⊥

-- the slot i has the low half of an address, the next one the high half, and together they load it
pub record Holds (code : List Slot) (i a : ℕ) : Type 0 where
  pub low_half : (slot_at code i).imm ≡ low a
  pub high_half : (slot_at code (i + 1)).imm ≡ high a
  pub loaded : loads (slot_at code i) (slot_at code (i + 1)) ≡ immediate a

-- after a relocation of a program that took the slots old to new, each load of the name n alone on its slots holds a
abbrev pub LoadsHold : List ℕ → ℕ → Program → List Slot → List Slot → Type 0
LoadsHold n a p old new =
    (front : List Taken) (t : Taken) (back : List Taken)
    → taken p.functions p.relocations ≡ front ++ t ∷ back
    → LoadAlone n p.symbols old front t back
    → Holds new (slot_index t) a

-- a call made after some others gave the extern of the name n the nonzero address a
pub record Gave (st : State) (before : List Step) (s : Step) (n : List ℕ) (a : ℕ) : Type 0 where
  pub start : Starts st
  pub nonzero : a ≡ 0 → ⊥
  pub other : address_of n (runs before st) ≡ Some a → ⊥
  pub gives : address_of n (next s (runs before st)) ≡ Some a

-- a is the only nonzero address of the name among the lines of the call, which is a resolution
abbrev pub OnlyIn : Step → List ℕ → ℕ → Type 0
OnlyIn (resolve c ls e) n a = Lists ls n a × ((b : ℕ) → Lists ls n b → b ≡ a)
OnlyIn fixup n a = ⊥
OnlyIn (relocate p) n a = ⊥

-- it is the name's only one among the lines, is there after any later calls, and is in the loads right after any later granted relocation
pub record Stands (s : Step) (n : List ℕ) (a : ℕ) (later : State) : Type 0 where
  pub only : OnlyIn s n a
  pub there : address_of n later ≡ Some a
  pub loads : (p : Program) → granted (relocate p) later ≡ true → LoadsHold n a p (slots later.code) (slots (next (relocate p) later).code)

abbrev pub AddressStands : Type 0
AddressStands =
    (st : State) (before : List Step) (s : Step) (later : List Step) (n : List ℕ) (a : ℕ)
    → Gave st before s n a
    → Stands s n a (runs later (next s (runs before st)))

-- each extern is the one that its name finds, so that what is said of names is said of every extern
abbrev pub NamesFindTheirExtern : Type 0
NamesFindTheirExtern = (st : State) (x : Extern) → Starts st → In x st.object.externs → (i : ℕ) × (extern_named x.name st.object.externs ≡ Some (i, x))

-- ---- weak for strong
abbrev pub AllGranted : List Step → State → Type 0
AllGranted [] st = Unit {0}
AllGranted (s ∷ ss) st = (granted s st ≡ true) × AllGranted ss (next s st)

-- a symbol, declared weak if b says so
abbrev pub weaker_symbol : Bool → Symbol → Symbol
weaker_symbol b s = record s { is_weak = b || s.is_weak }

-- the symbols that m picks by row, declared weak
abbrev pub weaker_rows : (ℕ → Bool) → List Symbol → List Symbol
weaker_rows m [] = []
weaker_rows m (s ∷ ss) = weaker_symbol (m 0) s ∷ weaker_rows (λ i. m (suc i)) ss

abbrev pub weaker_symbols : (ℕ → Bool) → Symbols → Symbols
weaker_symbols m ss = record ss { rows = weaker_rows m ss.rows }

-- a call that brings symbols, some of them declared weak
abbrev pub weaker_step : (ℕ → Bool) → Step → Step
weaker_step m (resolve c ls e) = resolve c ls e
weaker_step m fixup = fixup
weaker_step m (relocate p) = relocate (record p { symbols = weaker_symbols m p.symbols })

-- the same calls, any symbols that they bring declared weak
abbrev pub WeakerSteps : List Step → List Step → Type 0
WeakerSteps [] [] = Unit {0}
WeakerSteps [] (t ∷ ts) = ⊥
WeakerSteps (s ∷ ss) [] = ⊥
WeakerSteps (s ∷ ss) (t ∷ ts) = ((m : ℕ → Bool) × (t ≡ weaker_step m s)) × WeakerSteps ss ts

-- an extern without its weak mark
abbrev pub unmarked : Extern → Extern
unmarked x = record x { weak = false }

-- two states are equal but for the weak marks: addresses, ids and all else of the externs, all tables, and the code
pub record SameButWeak (st tu : State) : Type 0 where
  pub externs : map unmarked tu.object.externs ≡ map unmarked st.object.externs
  pub addresses : map (λ x. x.address) tu.object.externs ≡ map (λ x. x.address) st.object.externs
  pub ids : map (λ x. x.id) tu.object.externs ≡ map (λ x. x.id) st.object.externs
  pub tables : tu.object.tables ≡ st.object.tables
  pub placeholder : tu.object.placeholder ≡ st.object.placeholder
  pub code : tu.code ≡ st.code

-- where every call is granted on the object o, every one of the same calls is on the object u, and the ends are equal but for the weak marks
abbrev pub FollowsAlike : Object → Object → Type 0
FollowsAlike o u =
    (code : List ℕ) (ss ts : List Step)
    → WeakerSteps ss ts
    → AllGranted ss (record { object = o; code = code })
    → AllGranted ts (record { object = u; code = code }) × SameButWeak (runs ss (record { object = o; code = code })) (runs ts (record { object = u; code = code }))

-- with some symbols declared weak, a collection is refused alike, or granted with equal tables, and the same calls follow alike
pub record WeakForStrong : Type 0 where
  pub refused : (t : Tables) (ss : Symbols) (m : ℕ → Bool) (e : Reason) → collect t ss ≡ Err e → collect t (weaker_symbols m ss) ≡ Err e
  pub granted : (t : Tables) (ss : Symbols) (m : ℕ → Bool) (o : Object) → collect t ss ≡ Ok o
      → (u : Object) × (collect t (weaker_symbols m ss) ≡ Ok u) × (u.tables ≡ o.tables) × FollowsAlike o u
