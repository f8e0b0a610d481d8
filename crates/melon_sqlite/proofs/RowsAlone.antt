-- The schema with the first table alone.
use Rattle.std.proofs.Common.{◌≡◌, refl, [], ◌∷◌, sym, ap, ◌∙◌}
use Rattle.sqlite_tied.specs.Compute.{everything}
use Rattle.sqlite_schema.specs.declared.schema.Schema.{Schema}
use Rattle.melon_sqlite.specs.Tables.{rows_schema, rows_index}

pub rows_indexes : rows_schema.indexes ≡ rows_index ∷ []
unfolding everything
rows_indexes = refl

pub rows_schema_is : (s : Schema) → s.tables ≡ rows_schema.tables → s.indexes ≡ rows_index ∷ [] → s.views ≡ [] → s ≡ rows_schema
rows_schema_is s p q r = λ i. record { tables = p i; indexes = (q ∙ sym rows_indexes) i; views = r i }

pub rows_schema_indexes : (s : Schema) → s ≡ rows_schema → s.indexes ≡ rows_index ∷ []
rows_schema_indexes s e = ap (λ (x : Schema). x.indexes) e ∙ rows_indexes
