-- What the lines of the server ask of the keeper, do and print.
use Rattle.std.specs.Prelude.{ℕ, List, [], get_or, Option, Some, None, Result, Ok, Err}
use Rattle.serde_json.specs.Data.{Data}
use Rattle.melon_schema.specs.Places.{table_named}
use Rattle.melon_schema.specs.Schema.{schema_of}
use Rattle.melon_schema.specs.Seen.{SeenSchema}
use Rattle.melon_schema.specs.declared.schema_fault.SchemaFault.{SchemaFault}
use Rattle.melon_raw.specs.Rows.{table_at}
use Rattle.melon_outside.specs.declared.kept.Kept.{Kept}
use Rattle.melon_outside.specs.declared.kept.OpenFault.{OpenFault}
use Rattle.melon_backend.specs.Backends.{Plan, SeenBackend, open_plan}
use Rattle.melon_backend.specs.Bodies.{rows_text}
use Rattle.melon_script.specs.declared.item.Item.{Item}
use Rattle.melon_script.specs.declared.item.Item.TheVariants as items
use Rattle.melon_machine.specs.Calls.{Calls, Done, Load, asks}
use Rattle.melon_machine.specs.Outcomes.{Stepped, stepped, stepped_as, on_table}
use Rattle.melon_machine.specs.Refusals.{backend_refusal, keeper_refusal, open_refusal, schema_refusal}
use Rattle.melon_machine.specs.State.{Server, ServerKind, server_store, server_if_kept}

module _ {S : Type 0} (kind : ServerKind S) where
  -- ---- opening

  -- the values that have none yet are committed first
  abbrev pub begins_by : Result Plan OpenFault → Calls (Stepped (Option S))
  begins_by (Ok plan) = asks server_store plan.batch (stepped (Some (kind.opened plan.after)) (items.Backend plan.after.revision)) (stepped None keeper_refusal)
  begins_by (Err fault) = Done (stepped None (open_refusal fault))

  abbrev pub begins_over : SeenSchema → Option Kept → Calls (Stepped (Option S))
  begins_over schema None = Done (stepped None keeper_refusal)
  begins_over schema (Some kept) = begins_by (open_plan server_store schema kept)

  abbrev pub begins_under : Result SeenSchema SchemaFault → Calls (Stepped (Option S))
  begins_under (Err fault) = Done (stepped None (schema_refusal fault))
  begins_under (Ok schema) = Load server_store (begins_over schema)

  -- a server that is open stays as it is
  abbrev pub backend_step : Option S → Data → Calls (Stepped (Option S))
  backend_step None json = begins_under (schema_of json)
  backend_step (Some server) json = Done (stepped (Some server) (backend_refusal 1))

  -- ---- its rows

  abbrev pub server_rows_shown : S → List ℕ → ℕ → Item
  server_rows_shown server table t = items.Server table (kind.revision server) (rows_text (table_at (kind.schema server).tables t) (get_or (kind.rows server) t []))

  abbrev pub server_shown : List ℕ → Option S → Item
  server_shown table None = backend_refusal 2
  server_shown table (Some server) = on_table table (server_rows_shown server table) (table_named table (kind.schema server).tables)

  abbrev pub server_step : Option S → List ℕ → Stepped (Option S)
  server_step server table = stepped server (server_shown table server)

-- ---- as the code has it

abbrev pub kept_server : Stepped (Option Server) → Stepped (Option SeenBackend)
kept_server s = stepped_as server_if_kept s
