-- The test of an object says that it is as collection leaves it.
use Rattle.std.proofs.Common.{rules, ◌≡◌, ℕ, true, not, List, [], ◌∷◌, is_some, Some, Option, Result, sym, refl, ◌∙◌}
use Rattle.std.specs.List.{list_any}
use Rattle.std.specs.Str.{bytes_eq}
use Rattle.std.proofs.lemmas.Bool.{true≢false, false≢true, and_parts, and_from, not-true, not_from_false}
use Rattle.std.proofs.lemmas.Option.{none-some, same_Some}
use Rattle.std.proofs.lemmas.Slice.Eq.{bytes_eq-Decides}
use Rattle.model.specs.Chain.{type_at}
use Rattle.model.specs.Collect.{section_of}
use Rattle.model.specs.Collected.{declares, Distinct, Collected, distinct, placeholder_fits, found_fits, externs_fit, collected_if_any}
use Rattle.model.specs.Externs.{Extern, Object}
use Rattle.model.specs.Kinds.{is_func}
use Rattle.model.specs.Lists.{In}
use Rattle.model.specs.Names.{name_at}
use Rattle.model.specs.StepLaws.{CollectedIsTested}
use Rattle.model.specs.Tables.{Tables}
use Rattle.model.specs.declared.btf.DataSecEntry.{DataSecEntry}
use Rattle.model.specs.declared.refusal.Reason.{Reason}
use Rattle.model.proofs.Lookups.{all_in, in_all, none_any, any_none, not_same, reads_is, is_read}

-- ---- distinct names
pub distinct_is : (xs : List Extern) → distinct xs ≡ true → Distinct xs
distinct_is [] h = tt
distinct_is (x ∷ xs) h =
    let p = and_parts (not (list_any (λ (y : Extern). bytes_eq y.name x.name) xs)) (distinct xs) h in
    ((λ y i e. true≢false (sym ((bytes_eq-Decides y.name x.name).1 e) ∙ any_none (λ (z : Extern). bytes_eq z.name x.name) xs (not-true _ p.0) y i)), distinct_is xs p.1)

pub is_distinct : (xs : List Extern) → Distinct xs → distinct xs ≡ true
is_distinct [] h = refl
is_distinct (x ∷ xs) h =
    and_from (not (list_any (λ (y : Extern). bytes_eq y.name x.name) xs)) (distinct xs)
    (not_from_false _ (none_any (λ (y : Extern). bytes_eq y.name x.name) xs (λ y i. not_same y.name x.name (h.0 y i)))) (is_distinct xs h.1)

-- ---- the placeholder
module _ (t : Tables) (es : List DataSecEntry) where
  pub placeholder_is : (p : Option ℕ) → placeholder_fits t es p ≡ true
      → ((q : ℕ) → p ≡ Some q → declares t q ≡ true)
      × ((e : DataSecEntry) → In e es → is_func (type_at t.types e.btf_type) ≡ true → is_some p ≡ true)
  placeholder_is p h = search (rules, none-some, true≢false, any_none, not-true, same_Some)

  pub is_placeholder : (p : Option ℕ)
      → ((q : ℕ) → p ≡ Some q → declares t q ≡ true)
      → ((e : DataSecEntry) → In e es → is_func (type_at t.types e.btf_type) ≡ true → is_some p ≡ true)
      → placeholder_fits t es p ≡ true
  is_placeholder p d f = search (rules, not_from_false, none_any, false≢true)

-- ---- the externs
module _ (t : Tables) where
  pub externs_are : (xs : List Extern) → externs_fit t xs ≡ true
      → ((x : Extern) → In x xs → declares t x.entry ≡ true) × ((x : Extern) → In x xs → name_at t.strings x.place ≡ Some x.name) × Distinct xs
  externs_are xs h = search (rules, all_in, reads_is, distinct_is)

  pub are_externs : (xs : List Extern)
      → ((x : Extern) → In x xs → declares t x.entry ≡ true)
      → ((x : Extern) → In x xs → name_at t.strings x.place ≡ Some x.name)
      → Distinct xs
      → externs_fit t xs ≡ true
  are_externs xs e n d = search (rules, in_all, is_read, is_distinct)

-- ---- the whole
if_any : (o : Object) (xs : List Extern) → (xs ≡ [] → ⊥) → collected_if_any o xs ≡ true
    → (found_fits o.tables o.placeholder (section_of o.tables) ≡ true) × (externs_fit o.tables o.externs ≡ true)
if_any o xs n h = search rules

any_if : (o : Object) (xs : List Extern) → found_fits o.tables o.placeholder (section_of o.tables) ≡ true → externs_fit o.tables o.externs ≡ true
    → collected_if_any o xs ≡ true
any_if o xs f e = search rules

found_is : (o : Object) (r : Result (Option ℕ) Reason) → section_of o.tables ≡ r → found_fits o.tables o.placeholder r ≡ true
    → externs_fit o.tables o.externs ≡ true → Collected o
found_is o r is f h = search (rules, false≢true, placeholder_is, externs_are, all_in)

pub collected_test : (o : Object) → Collected o → collected_if_any o o.externs ≡ true
collected_test o c = search (rules, any_if, in_all, is_placeholder, are_externs)

pub collected_is_tested : CollectedIsTested
collected_is_tested o n = search (rules, if_any, found_is, collected_test)
