-- Sizes in bytes: of a row, of the rows of a store, and of a journal.
use Rattle.std.specs.Prelude.{ℕ, ◌+◌, List, [], ◌∷◌, length, sum_by, Option, Some, None}
use Rattle.melon_schema.specs.declared.schema.TableSchema.{TableSchema}
use Rattle.melon_raw.specs.declared.raw.Raw.{Raw}
use Rattle.melon_raw.specs.Rows.{Rows, table_at}
use Rattle.melon_raw.specs.Encoding.{encoding}
use Rattle.melon_change.specs.declared.change.Change.{Change}
use Rattle.melon_change.specs.declared.history.Entry.{Entry}

-- the length of its encoding
abbrev pub row_bytes : TableSchema → Raw → ℕ
row_bytes table row = length (encoding table row)

-- where there is no row there are no bytes
abbrev pub bytes_if_any : TableSchema → Option Raw → ℕ
bytes_if_any table None = 0
bytes_if_any table (Some row) = row_bytes table row

abbrev pub table_bytes : TableSchema → List Raw → ℕ
table_bytes table rows = sum_by (row_bytes table) rows

-- of all rows of the declared tables
abbrev pub stored_bytes : List TableSchema → Rows → ℕ
stored_bytes [] rows = 0
stored_bytes (t ∷ ts) [] = 0
stored_bytes (t ∷ ts) (rs ∷ rows) = table_bytes t rs + stored_bytes ts rows

abbrev pub before_bytes : List TableSchema → Change → ℕ
before_bytes schema c = bytes_if_any (table_at schema c.table) c.before

abbrev pub after_bytes : List TableSchema → Change → ℕ
after_bytes schema c = bytes_if_any (table_at schema c.table) c.after

-- of the rows before and after, where they exist
abbrev pub change_bytes : List TableSchema → Change → ℕ
change_bytes schema c = before_bytes schema c + after_bytes schema c

abbrev pub set_bytes : List TableSchema → List Change → ℕ
set_bytes schema set = sum_by (change_bytes schema) set

-- of all changes of all entries
abbrev pub journal_bytes : List TableSchema → List Entry → ℕ
journal_bytes schema entries = sum_by (λ e. set_bytes schema e.set) entries
