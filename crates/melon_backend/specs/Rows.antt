-- Rows of tables with one put in.
use Rattle.std.specs.Prelude.{ℕ, ◌+◌, List, [], ◌∷◌, ◌++◌, get_or, set, filter, sum_by, Bool, true, false, Option, Some, None}
use Rattle.melon_schema.specs.declared.schema.TableSchema.{TableSchema}
use Rattle.melon_raw.specs.Order.{is_below}
use Rattle.melon_raw.specs.Rows.{table_at}
use Rattle.melon_log.specs.declared.server_row.ServerRow.{ServerRow}
use Rattle.melon_log.specs.ServerRows.{ServerRows, is_live}
use Rattle.melon_backend.specs.declared.put.Put.{Put}
use Rattle.melon_backend.specs.Bodies.{row_bytes}

abbrev pub below : List ℕ → List ServerRow → List ServerRow
below id rows = filter (λ r. is_below r.id id) rows

abbrev pub above : List ℕ → List ServerRow → List ServerRow
above id rows = filter (λ r. is_below id r.id) rows

-- the rows with this one in the place of its id
abbrev pub put_row : ServerRow → List ServerRow → List ServerRow
put_row row rows = below row.id rows ++ row ∷ above row.id rows

abbrev pub with_put : ServerRows → Put → ServerRows
with_put rows p = set rows p.table (put_row p.row (get_or rows p.table []))

-- one put after the other
abbrev pub with_puts : ServerRows → List Put → ServerRows
with_puts rows [] = rows
with_puts rows (p ∷ ps) = with_puts (with_put rows p) ps

-- ---- sums

-- each row weighed by the place of its table
abbrev pub total : (ℕ → ServerRow → ℕ) → ℕ → ServerRows → ℕ
total weight i [] = 0
total weight i (rs ∷ rows) = sum_by (weight i) rs + total weight (i + 1) rows

abbrev pub bytes_in : List TableSchema → ℕ → ServerRow → ℕ
bytes_in schema i row = row_bytes (table_at schema i) row

-- the bytes of all bodies
abbrev pub stored_bytes : List TableSchema → ServerRows → ℕ
stored_bytes schema rows = total (bytes_in schema) 0 rows

abbrev pub one_if : Bool → ℕ
one_if true = 1
one_if false = 0

abbrev pub live_one : ServerRow → ℕ
live_one row = one_if (is_live row)

-- how many rows are live
abbrev pub live_rows : ServerRows → ℕ
live_rows rows = total (λ i. live_one) 0 rows

abbrev pub weight_of : (ServerRow → ℕ) → Option ServerRow → ℕ
weight_of weight None = 0
weight_of weight (Some row) = weight row
