-- What holds of an object once it is collected. Assumes nothing.
use Rattle.std.specs.Prelude.{◌≡◌, ℕ, Bool, true, false, not, ◌&&◌, ◌||◌, List, [], ◌∷◌, length, is_some, Some, None, Ok, Err, Option, Result, ◌≢◌, nat_le, nat_lt}
use Rattle.std.specs.List.{list_any, list_all}
use Rattle.std.specs.Str.{bytes_eq}
use Rattle.model.specs.Chain.{type_at}
use Rattle.model.specs.Collect.{section_of, entries_of}
use Rattle.model.specs.Externs.{Extern, Object}
use Rattle.model.specs.Kinds.{is_func, is_var}
use Rattle.model.specs.Lists.{In}
use Rattle.model.specs.Names.{name_at, reads_as}
use Rattle.model.specs.Tables.{Tables, MAX_EXTERNS, tables_fit}
use Rattle.model.specs.declared.btf.DataSecEntry.{DataSecEntry}
use Rattle.model.specs.declared.refusal.Reason.{Reason}

-- whether an id is a Func or a Var whose name reads and whose type is a row
abbrev pub declares : Tables → ℕ → Bool
declares t id =
    nat_lt id (length t.types)
    && ((is_func (type_at t.types id) || is_var (type_at t.types id))
    && (is_some (name_at t.strings (type_at t.types id).name_offset) && nat_lt (type_at t.types id).size_or_type (length t.types)))

-- no two have one name
abbrev pub Distinct : List Extern → Type 0
Distinct [] = Unit {0}
Distinct (x ∷ xs) = ((y : Extern) → In y xs → y.name ≢ x.name) × Distinct xs

-- of an object that has externs: .ksyms is found, extern names read and are distinct, each entry of the section, each extern's
-- entry and the placeholder declare, and a Func among the entries implies a placeholder
pub record Collected (o : Object) : Type 0 where
  pub section : ℕ
  pub found : section_of o.tables ≡ Ok (Some section)
  pub entries : (e : DataSecEntry) → In e (entries_of o.tables section) → declares o.tables e.btf_type ≡ true
  pub externs : (x : Extern) → In x o.externs → declares o.tables x.entry ≡ true
  pub names : (x : Extern) → In x o.externs → name_at o.tables.strings x.place ≡ Some x.name
  pub distinct : Distinct o.externs
  pub placeholder : (p : ℕ) → o.placeholder ≡ Some p → declares o.tables p ≡ true
  pub func : (e : DataSecEntry) → In e (entries_of o.tables section) → is_func (type_at o.tables.types e.btf_type) ≡ true → is_some o.placeholder ≡ true

-- ---- the same as a test
abbrev pub distinct : List Extern → Bool
distinct [] = true
distinct (x ∷ xs) = not (list_any (λ y. bytes_eq y.name x.name) xs) && distinct xs

abbrev pub placeholder_fits : Tables → List DataSecEntry → Option ℕ → Bool
placeholder_fits t es None = not (list_any (λ e. is_func (type_at t.types e.btf_type)) es)
placeholder_fits t es (Some p) = declares t p

abbrev pub section_fits : Tables → List DataSecEntry → Option ℕ → Bool
section_fits t es p = list_all (λ e. declares t e.btf_type) es && placeholder_fits t es p

abbrev pub found_fits : Tables → Option ℕ → Result (Option ℕ) Reason → Bool
found_fits t p (Err e) = false
found_fits t p (Ok None) = false
found_fits t p (Ok (Some d)) = section_fits t (entries_of t d) p

abbrev pub externs_fit : Tables → List Extern → Bool
externs_fit t xs = list_all (λ x. declares t x.entry && reads_as (name_at t.strings x.place) x.name) xs && distinct xs

abbrev pub collected_if_any : Object → List Extern → Bool
collected_if_any o [] = true
collected_if_any o (x ∷ xs) = found_fits o.tables o.placeholder (section_of o.tables) && externs_fit o.tables o.externs

-- an object is well-formed: its tables are, it has few externs, and if it has some it is as collection leaves it
abbrev pub object_fits : Object → Bool
object_fits o = tables_fit o.tables && (nat_le (length o.externs) MAX_EXTERNS && collected_if_any o o.externs)
