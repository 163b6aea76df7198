-- What one call changes, and what it leaves. Assumes nothing.
use Rattle.std.specs.Prelude.{◌≡◌, ℕ, ◌+◌, ◌<◌, ◌≤◌, true, false, ◌⊎◌, ◌↔◌, List, [], length, Some, Ok, Err, Option, Result, ◌≢◌, slice_index, slice_index_or}
use Rattle.std.specs.List.{AllByRecursion}
use Rattle.kallsyms.specs.Ends.{End}
use Rattle.model.specs.Added.{int_name}
use Rattle.model.specs.Chain.{type_at}
use Rattle.model.specs.Collect.{collect, collect_object, section_of, entries_of}
use Rattle.model.specs.Collected.{Collected, object_fits, collected_if_any}
use Rattle.model.specs.Externs.{Object}
use Rattle.model.specs.Fixup.{entry_at}
use Rattle.model.specs.Kinds.{is_func, is_func_proto}
use Rattle.model.specs.Laws.{Starts, Touches}
use Rattle.model.specs.Lists.{In}
use Rattle.model.specs.Relocate.{Program, Taken, taken, slot_at}
use Rattle.model.specs.Runs.{State, Step, granted, next, runs}
use Rattle.model.specs.Runs.Step.{resolve, fixup, relocate}
use Rattle.model.specs.Slots.{slots}
use Rattle.model.specs.Spans.{Outside}
use Rattle.model.specs.Tables.{Tables, Symbols, Catalogue}
use Rattle.model.specs.declared.btf.BtfParam.{BtfParam}
use Rattle.model.specs.declared.btf.BtfType.{BtfType}
use Rattle.model.specs.declared.btf.DataSecEntry.{DataSecEntry}
use Rattle.model.specs.declared.refusal.Reason.{Reason}

-- ---- collection
-- the test of an object says exactly that it is as collection leaves it
abbrev pub CollectedIsTested : Type 0
CollectedIsTested = (o : Object) → (o.externs ≢ []) → (collected_if_any o o.externs ≡ true) ↔ Collected o

-- a granted collection makes a well-formed object, and one with externs is collected
pub record CollectionCollects : Type 0 where
  pub fits : (t : Tables) (ss : Symbols) (o : Object) → collect t ss ≡ Ok o → object_fits o ≡ true
  pub collected : (t : Tables) (ss : Symbols) (o : Object) → collect t ss ≡ Ok o → (o.externs ≢ []) → Collected o

-- what the call leaves
abbrev pub left_by : Result Object Reason → Object → Object
left_by (Ok new) o = new
left_by (Err e) o = o

-- ---- a refused call
-- a refused collection leaves the object, a refused resolution or fixup the whole state, a refused relocation the object
pub record RefusedChangesNothing : Type 0 where
  pub collection : (o : Object) (ss : Symbols) (e : Reason) → collect_object o ss ≡ Err e → left_by (collect_object o ss) o ≡ o
  pub resolution : (c : Option Catalogue) (ls : List (List ℕ)) (e : End) (st : State) → granted (resolve c ls e) st ≡ false → next (resolve c ls e) st ≡ st
  pub fix : (st : State) → granted fixup st ≡ false → next fixup st ≡ st
  pub relocation : (p : Program) (st : State) → (next (relocate p) st).object ≡ st.object

-- ---- fixup
-- fixup twice is fixup once
abbrev pub FixupTwiceIsOnce : Type 0
FixupTwiceIsOnce = (st : State) (before : List Step) → Starts st → next fixup (next fixup (runs before st)) ≡ next fixup (runs before st)

abbrev pub param_at : List BtfParam → ℕ → BtfParam
param_at ps k = slice_index_or ps k (record { name_offset = 0; btf_type = 0 })

-- a parameter k is no part of the type of the function of an id
abbrev pub NotOf : List BtfType → ℕ → ℕ → Type 0
NotOf ts id k =
    is_func (type_at ts id) ≡ true
    → is_func_proto (type_at ts (type_at ts id).size_or_type) ≡ true
    → Outside (type_at ts (type_at ts id).size_or_type).parts k

-- of an object o with the section d: rows that are neither d nor of an entry, and entries outside the section, are as before, and every
-- row keeps its kind, its name and its parts; so do parameters that have a name, no type, or are of no function of the section; and
-- the strings, but for what is added at their end
pub record Leaves (o new : Object) (d : ℕ) : Type 0 where
  pub externs : new.externs ≡ o.externs
  pub placeholder : new.placeholder ≡ o.placeholder
  pub rows : (k : ℕ) → k < length o.tables.types → (k ≢ d) → ((e : DataSecEntry) → In e (entries_of o.tables d) → e.btf_type ≢ k) → type_at new.tables.types k ≡ type_at o.tables.types k
  pub kinds : (k : ℕ) → k < length o.tables.types → (type_at new.tables.types k).kind ≡ (type_at o.tables.types k).kind
  pub names : (k : ℕ) → k < length o.tables.types → (type_at new.tables.types k).name_offset ≡ (type_at o.tables.types k).name_offset
  pub parts : (k : ℕ) → k < length o.tables.types → (type_at new.tables.types k).parts ≡ (type_at o.tables.types k).parts
  pub entries : (k : ℕ) → Outside (type_at o.tables.types d).parts k → entry_at new.tables.entries k ≡ entry_at o.tables.entries k
  pub params : (k : ℕ) → ((param_at o.tables.params k).btf_type ≡ 0) ⊎ ((param_at o.tables.params k).name_offset ≢ 0) → param_at new.tables.params k ≡ param_at o.tables.params k
  pub other_params : (k : ℕ) → ((e : DataSecEntry) → In e (entries_of o.tables d) → NotOf o.tables.types e.btf_type k) → param_at new.tables.params k ≡ param_at o.tables.params k
  pub strings : (k : ℕ) → k < length o.tables.strings → slice_index new.tables.strings k ≡ slice_index o.tables.strings k

abbrev pub FixupLeavesOtherRows : Type 0
FixupLeavesOtherRows = (st : State) (d : ℕ) → object_fits st.object ≡ true → section_of st.object.tables ≡ Ok (Some d) → Leaves st.object (next fixup st).object d

-- ---- relocation
-- a slot that no relocation touches is as before, also after a refusal, and the code is as long
pub record RelocationLeavesOtherSlots : Type 0 where
  pub slot : (st : State) (p : Program) (i : ℕ) → AllByRecursion (λ b. b < 256) st.code
      → ((t : Taken) → In t (taken p.functions p.relocations) → Touches p.symbols (slots st.code) t i → ⊥)
      → slot_at (slots (next (relocate p) st).code) i ≡ slot_at (slots st.code) i
  pub size : (st : State) (p : Program) → length (next (relocate p) st).code ≡ length st.code

-- ---- room
-- whatever is called, the tables of a collected object need room for one type row and four bytes of strings more, and no other table grows
pub record RoomForOneRow (st later : State) : Type 0 where
  pub types : length later.object.tables.types ≤ length st.object.tables.types + 1
  pub strings : length later.object.tables.strings ≤ length st.object.tables.strings + length int_name
  pub entries : length later.object.tables.entries ≡ length st.object.tables.entries
  pub params : length later.object.tables.params ≡ length st.object.tables.params
  pub externs : length later.object.externs ≡ length st.object.externs
  pub code : length later.code ≡ length st.code

abbrev pub RoomSuffices : Type 0
RoomSuffices = (st : State) (ss : List Step) → Starts st → RoomForOneRow st (runs ss st)
