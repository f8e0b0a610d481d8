-- The schemas that an opening completes to the two tables.
use Rattle.std.specs.Prelude.{◌≡◌, ◌⊎◌}
use Rattle.sqlite.specs.Schema.{Schema}
use Rattle.melon_sqlite.specs.Tables.{no_schema, rows_schema, kept_schema}

-- the schema has nothing, the first table alone, or exactly the two
abbrev pub IsOurs : Schema → Type 0
IsOurs s = (s ≡ no_schema) ⊎ ((s ≡ rows_schema) ⊎ (s ≡ kept_schema))
