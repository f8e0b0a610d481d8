-- What a push lists, why it is refused, and what it puts.
use Rattle.std.specs.Prelude.{◌≡◌, ℕ, ◌+◌, nat_lt, List, [], ◌∷◌, map, sum_by, false, not, Option, Some, None, option_map, Result, Ok, ⊤, if◌then◌else◌}
use Rattle.std.specs.List.{filter_map}
use Rattle.melon_schema.specs.Faults.{◌>>=◌, unless}
use Rattle.melon_schema.specs.declared.schema.TableSchema.{TableSchema}
use Rattle.melon_raw.specs.Rows.{Key, table_at}
use Rattle.melon_outside.specs.declared.kept.KeptRow.{KeptRow}
use Rattle.melon_outside.specs.declared.kept.KeptBatch.{KeptBatch}
use Rattle.melon_wire.specs.declared.changes.Changes.{Changes}
use Rattle.melon_wire.specs.Sent.{names_something}
use Rattle.melon_wire.specs.Standing.{Standing, standing}
use Rattle.melon_log.specs.declared.server_row.ServerRow.{ServerRow}
use Rattle.melon_log.specs.declared.fault.PushFault.{PushFault}
use Rattle.melon_log.specs.declared.fault.PushFault.TheVariants.{StoreFull}
use Rattle.melon_log.specs.ServerRows.{ServerRows, at, row_put}
use Rattle.melon_log.specs.Log.{columns_at}
use Rattle.melon_log.specs.Verdict.{records, judged}
use Rattle.melon_backend.specs.declared.put.Put.{Put}
use Rattle.melon_backend.specs.Bodies.{body}
use Rattle.melon_backend.specs.Rows.{with_puts, stored_bytes, weight_of}
use Rattle.melon_backend.specs.Backends.{SeenBackend, Plan, value, revision_name, put_at}

-- ---- the rows that are put

-- a record that a push lists: in which list, and its row now
pub record Naming : Type 0 where
  pub key : Key
  pub how : Standing
  pub row : Option ServerRow

abbrev pub naming : List TableSchema → ServerRows → Changes → Key → Naming
naming schema rows c x = record { key = x; how = standing schema c x; row = at rows x }

-- the row that a push of revision r puts for it
abbrev pub put_named : List TableSchema → ℕ → Naming → Option Put
put_named schema r n = option_map (put_at n.key.table) (row_put (columns_at schema n.key.table) n.key.id n.row r n.how)

-- all that are put, in the order of the records
abbrev pub puts : List TableSchema → ServerRows → ℕ → Changes → List Put
puts schema rows r c = filter_map (λ x. put_named schema r (naming schema rows c x)) (records schema c)

-- ---- what is asked of the keeper

abbrev pub row_filed : List TableSchema → Put → KeptRow
row_filed schema p = record { table = (table_at schema p.table).name; id = p.row.id; body = body (table_at schema p.table) p.row }

-- the bodies of the rows are put, and the revision is kept
abbrev pub push_batch : List TableSchema → ℕ → List Put → KeptBatch
push_batch schema r ps = record { clear = false; removes = []; puts = map (row_filed schema) ps; values = value revision_name r ∷ [] }

-- ---- the plan

-- one more, while it is below 9007199254740991
abbrev pub next_revision : ℕ → ℕ
next_revision r = if nat_lt r 9007199254740991 then r + 1 else r

abbrev pub with_push : SeenBackend → ℕ → List Put → SeenBackend
with_push b r ps = record { name = b.name; schema = b.schema; rows = with_puts b.rows ps; revision = r }

abbrev pub within_limit : ℕ → Result ⊤ PushFault
within_limit bytes = unless (not (nat_lt 134217728 bytes)) (StoreFull bytes)

abbrev pub puts_plan : SeenBackend → ℕ → List Put → Result Plan PushFault
puts_plan b r ps = within_limit (stored_bytes b.schema.tables (with_puts b.rows ps)) >>= λ within. Ok (record { batch = Some (push_batch b.schema.tables r ps); after = with_push b r ps })

-- a push that names nothing asks nothing and changes nothing
abbrev pub accepted_plan : SeenBackend → Changes → Result Plan PushFault
accepted_plan b c =
    if names_something c then puts_plan b (next_revision b.revision) (puts b.schema.tables b.rows (next_revision b.revision) c)
    else Ok (record { batch = None; after = b })

-- What a push at last t is to commit, where nothing refuses it, and the backend once that is done.
unfoldable pub push_plan : SeenBackend → ℕ → Changes → Result Plan PushFault
push_plan b t c = judged b.schema.tables b.revision (at b.rows) t c >>= λ accepted. accepted_plan b c

-- ---- sums over what is listed

abbrev pub before_put : (ℕ → ServerRow → ℕ) → Naming → Option Put → ℕ
before_put weight n None = 0
before_put weight n (Some p) = weight_of (weight n.key.table) n.row

abbrev pub after_put : (ℕ → ServerRow → ℕ) → Option Put → ℕ
after_put weight None = 0
after_put weight (Some p) = weight p.table p.row

-- the weights of the rows that are replaced, and of those that are put
abbrev pub weight_before : (ℕ → ServerRow → ℕ) → List TableSchema → ℕ → List Naming → ℕ
weight_before weight schema r ns = sum_by (λ n. before_put weight n (put_named schema r n)) ns

abbrev pub weight_after : (ℕ → ServerRow → ℕ) → List TableSchema → ℕ → List Naming → ℕ
weight_after weight schema r ns = sum_by (λ n. after_put weight (put_named schema r n)) ns

-- ---- what is listed

abbrev pub namings : List TableSchema → ServerRows → Changes → List Naming
namings schema rows c = map (naming schema rows c) (records schema c)

abbrev pub key_named : Naming → Key
key_named n = n.key

-- the row is the record's row now
abbrev pub IsNowOf : ServerRows → Naming → Type 0
IsNowOf rows n = n.row ≡ at rows n.key

-- the plan of a push that lists these records
abbrev pub named_plan : SeenBackend → List Naming → Result Plan PushFault
named_plan b ns = puts_plan b (next_revision b.revision) (filter_map (put_named b.schema.tables (next_revision b.revision)) ns)
