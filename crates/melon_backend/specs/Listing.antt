-- What a push lists, as the code lists it.
use Rattle.std.specs.Prelude.{ℕ, ◌<◌, List, ◌++◌, map, Option, option_map, Result, Ok, ⊤}
use Rattle.std.specs.List.{flat_map}
use Rattle.std.specs.Option.{option_copied}
use Rattle.melon_schema.specs.Faults.{◌>>=◌}
use Rattle.melon_schema.specs.Places.{table_named}
use Rattle.melon_schema.specs.declared.schema.TableSchema.{TableSchema}
use Rattle.melon_raw.specs.Rows.{Key}
use Rattle.melon_wire.specs.declared.changes.Remote.{Remote}
use Rattle.melon_wire.specs.declared.changes.TableChanges.{TableChanges}
use Rattle.melon_wire.specs.Keys.{key_at, first_again}
use Rattle.melon_wire.specs.Standing.{Standing, as_created, as_updated, as_deleted, standing_in}
use Rattle.melon_log.specs.declared.server_row.ServerRow.{ServerRow}
use Rattle.melon_log.specs.declared.fault.PushFault.{PushFault}
use Rattle.melon_log.specs.declared.fault.PushFault.TheVariants.{Repeated}
use Rattle.melon_log.specs.ServerRows.{ServerRows, at, at_id}
use Rattle.melon_log.specs.Verdict.{unless_one, records_at, conflict, gone, long}
use Rattle.melon_backend.specs.declared.listed.InList.{InList}
use Rattle.melon_backend.specs.declared.listed.InList.TheVariants as lists
use Rattle.melon_backend.specs.declared.listed.Listed.{Listed}
use Rattle.melon_backend.specs.declared.named.Named.{Named}
use Rattle.melon_backend.specs.Pushing.{Naming}

-- ---- one table

-- an id, and in which list it stands
pub record Telling : Type 0 where
  pub key : Key
  pub how : Standing

abbrev pub key_told : Telling → Key
key_told t = t.key

abbrev pub standing_seen : InList → Standing
standing_seen (lists.Created fields) = as_created fields.now
standing_seen (lists.Updated fields) = as_updated fields.now
standing_seen lists.Deleted = as_deleted

abbrev pub telling_seen : Listed → Telling
telling_seen l = record { key = key_at 0 l.id.now; how = standing_seen l.list }

abbrev pub tellings_seen : List Listed → List Telling
tellings_seen listed = map telling_seen listed

abbrev pub created_told : Remote → Telling
created_told row = record { key = key_at 0 row.id; how = as_created row.fields }

abbrev pub updated_told : Remote → Telling
updated_told row = record { key = key_at 0 row.id; how = as_updated row.fields }

abbrev pub deleted_told : List ℕ → Telling
deleted_told id = record { key = key_at 0 id; how = as_deleted }

abbrev pub told_in : TableChanges → List Telling
told_in t = map created_told t.created ++ (map updated_told t.updated ++ map deleted_told t.deleted)

abbrev pub repeated_in : TableChanges → List Telling → Option PushFault
repeated_in t told = option_map (λ (x : Key). Repeated t.table x.id) (first_again (map key_told told))

-- ---- with their rows

abbrev pub naming_seen : Named → Naming
naming_seen n = record { key = key_at n.table n.id.now; how = standing_seen n.list; row = option_copied n.row }

abbrev pub namings_seen : List Named → List Naming
namings_seen named = map naming_seen named

abbrev pub naming_told : List ServerRow → ℕ → Telling → Naming
naming_told rows i t = record { key = key_at i t.key.id; how = t.how; row = at_id t.key.id rows }

-- a record of a table by what is told of that table
abbrev pub naming_in : ServerRows → TableChanges → Key → Naming
naming_in rows t x = record { key = x; how = standing_in t x.id; row = at rows x }

abbrev pub namings_in : List TableSchema → ServerRows → TableChanges → List Naming
namings_in schema rows t = map (naming_in rows t) (records_at t (table_named t.table schema))

abbrev pub all_namings : List TableSchema → ServerRows → List TableChanges → List Naming
all_namings schema rows tables = flat_map (namings_in schema rows) tables

abbrev pub IsOfTable : ℕ → Naming → Type 0
IsOfTable tables n = n.key.table < tables

-- ---- refused

abbrev pub conflict_named : List TableSchema → ℕ → Naming → Option PushFault
conflict_named schema t n = conflict schema (λ x. n.row) t (λ x. n.how) n.key

abbrev pub gone_named : List TableSchema → ℕ → Naming → Option PushFault
gone_named schema t n = gone schema (λ x. n.row) t (λ x. n.how) n.key

abbrev pub long_named : List TableSchema → Naming → Option PushFault
long_named schema n = long schema (λ x. n.row) 0 (λ x. n.how) n.key

-- all conflicts come before all rows that are gone
unfoldable pub refused : List TableSchema → ℕ → List Naming → Result ⊤ PushFault
refused schema t ns = do
  agreed ← unless_one (conflict_named schema t) ns
  there ← unless_one (gone_named schema t) ns
  short ← unless_one (long_named schema) ns
  Ok tt
