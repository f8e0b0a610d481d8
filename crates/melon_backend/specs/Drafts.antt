-- What a push is to put, gathered record by record, and what its rows weigh.
use Rattle.std.specs.Prelude.{◌≡◌, ℕ, ◌<◌, List, map, Bool, false, slice_get}
use Rattle.std.specs.List.{filter_map, list_all}
use Rattle.std.specs.Option.{option_map_or}
use Rattle.melon_schema.specs.declared.schema.TableSchema.{TableSchema}
use Rattle.melon_raw.specs.Rows.{Key}
use Rattle.melon_wire.specs.Keys.{key_at}
use Rattle.melon_backend.specs.declared.put.Put.{Put}
use Rattle.melon_backend.specs.declared.table.ServerTable.{ServerTable}
use Rattle.melon_backend.specs.declared.draft.Draft.{Draft}
use Rattle.melon_backend.specs.Rows.{bytes_in, live_one}
use Rattle.melon_backend.specs.Inside.{is_ready}
use Rattle.melon_backend.specs.Pushing.{Naming, put_named, row_filed, weight_before, weight_after}

-- the puts of what is listed, their bodies, and four sums
pub record IsDraft (schema : List TableSchema) (r : ℕ) (ns : List Naming) (d : Draft) : Type 0 where
  pub puts : d.puts.items ≡ filter_map (put_named schema r) ns
  pub rows : d.rows ≡ map (row_filed schema) (filter_map (put_named schema r) ns)
  pub stored_before : d.stored_before ≡ weight_before (bytes_in schema) schema r ns
  pub stored_after : d.stored_after ≡ weight_after (bytes_in schema) schema r ns
  pub live_before : d.live_before ≡ weight_before (λ i. live_one) schema r ns
  pub live_after : d.live_after ≡ weight_after (λ i. live_one) schema r ns

-- ---- ready

abbrev pub key_put : Put → Key
key_put p = key_at p.table p.row.id

abbrev pub is_ready_at : List ServerTable → Put → Bool
is_ready_at tables p = option_map_or (is_ready p.row) (slice_get tables p.table) false

abbrev pub are_ready : List ServerTable → List Put → Bool
are_ready tables ps = list_all (is_ready_at tables) ps

abbrev pub IsPutWithin : ℕ → Put → Type 0
IsPutWithin n p = p.table < n
