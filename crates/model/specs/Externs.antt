-- The kernel symbols that a probe declares, with their names as bytes. Assumes nothing.
use Rattle.std.specs.Prelude.{ℕ, Bool, true, List, length, Some, Option}
use Rattle.std.specs.Str.{bytes_eq}
use Rattle.model.specs.Chain.{type_at}
use Rattle.model.specs.Kinds.{is_func}
use Rattle.model.specs.Lists.{lookup}
use Rattle.model.specs.Names.{essential}
use Rattle.model.specs.Spans.{part}
use Rattle.model.specs.Tables.{Tables}
use Rattle.model.specs.declared.rows.ExternDesc.{ExternDesc}
use Rattle.model.specs.declared.rows.Span.{Span}

-- an extern: its name and the place of that in the type strings, the id of its Func or Var, whether that is a Func,
-- the id of its type (none of a typeless one), whether it may be missing, whether it is resolved, and what it was resolved to
pub record Extern : Type 0 where
  pub name : List ℕ
  pub place : ℕ
  pub entry : ℕ
  pub func : Bool
  pub typed : Option ℕ
  pub weak : Bool
  pub resolved : Bool
  pub id : Option ℕ
  pub address : Option ℕ

-- an object: its BTF, its externs, and the id of the variable that stands for functions in its section
pub record Object : Type 0 where
  pub tables : Tables
  pub externs : List Extern
  pub placeholder : Option ℕ

-- the extern that a row of an object's collection stands for
abbrev pub seen : Tables → ExternDesc → Extern
seen t x =
    record {
      name = part t.strings x.name;
      place = x.name.start;
      entry = x.btf_id;
      func = is_func (type_at t.types x.btf_id);
      typed = x.type_id;
      weak = x.is_weak;
      resolved = x.is_resolved;
      id = x.kernel_btf_id;
      address = x.ksym_addr;
    }

-- the extern of a name
abbrev pub extern_named : List ℕ → List Extern → Option (ℕ × Extern)
extern_named n xs = lookup (λ x. bytes_eq x.name n) 0 xs

-- the place of a name, and of the part of it that a Func is looked up by
abbrev pub whole_name : Extern → Span
whole_name x = record { start = x.place; len = length x.name }

abbrev pub essential_name : Extern → Span
essential_name x = record { start = x.place; len = length (essential x.name) }

-- the extern, resolved to an id and an address
abbrev pub resolved_to : Option ℕ → Option ℕ → Extern → Extern
resolved_to i a x = record x { resolved = true; id = i; address = a }

-- the extern with another address, resolved or not as before
abbrev pub addressed : ℕ → Extern → Extern
addressed a x = record x { address = Some a }
