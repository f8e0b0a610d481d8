-- What a schema's fields stand for.
use Rattle.std.specs.Prelude.{◌≡◌, map, string_bytes}
use Rattle.std.specs.List.{AllByRecursion}
use Rattle.melon_schema.specs.declared.app_schema.AppSchema.TheInside.{Inside}
use Rattle.melon_schema.specs.Seen.{SeenSchema}
use Rattle.melon_schema.specs.Sound.{IsSoundSchema}

abbrev pub declared_in : Inside → SeenSchema
declared_in s = record { version = s.version; tables = map (λ e. e.1) s.tables.entries }

-- each table stands under its own name
abbrev pub AreNamed : Inside → Type 0
AreNamed s = AllByRecursion (λ e. string_bytes e.0 ≡ e.1.name) s.tables.entries

pub record IsDeclared (s : Inside) : Type 0 where
  pub named : AreNamed s
  pub sound : IsSoundSchema (declared_in s)
