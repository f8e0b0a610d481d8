-- A batch that breaks no rule is a change set that an entry of the app may have.
use Rattle.std.specs.Prelude.{◌≡◌, ℕ, List, length, Option, Some, Ok}
use Rattle.melon_schema.specs.declared.schema.TableSchema.{TableSchema}
use Rattle.melon_raw.specs.declared.raw.Raw.{Raw}
use Rattle.melon_raw.specs.Rows.{Fits, Key, Rows, at}
use Rattle.melon_change.specs.declared.op.Op.{Op}
use Rattle.melon_change.specs.declared.change.Change.{Change}
use Rattle.melon_change.specs.declared.history.Origin.TheVariants.{Local}
use Rattle.melon_change.specs.Changes.{columns_at}
use Rattle.melon_change.specs.Batch.{batch_of}
use Rattle.melon_change.specs.History.{AreChanges}

-- each row fits the table that it stands in
abbrev pub RowsFit : List TableSchema → Rows → Type 0
RowsFit schema rows = (x : Key) (row : Raw) → at rows x ≡ Some row → Fits (columns_at schema x.table) row

abbrev pub BatchesAreLegal : Type 0
BatchesAreLegal =
    (schema : List TableSchema) (rows : Rows) (ops : List Op) (changes : List Change) → length rows ≡ length schema → RowsFit schema rows
    → batch_of schema rows ops ≡ Ok changes → AreChanges schema rows Local changes
