-- What the two tables keep of each store.
use Rattle.std.specs.Prelude.{◌≡◌, ℕ, pos, negsuc, Bool, true, false, List, [], bytes_eq, map, filter}
use Rattle.std.specs.List.{list_any}
use Rattle.sqlite_value.specs.declared.value.Value.{Value}
use Rattle.sqlite_value.specs.declared.value.Value.TheVariants.{Int}
use Rattle.sqlite_value.specs.Order.{Row, column, bytes}
use Rattle.sqlite_trees.specs.Tree.{Trees}
use Rattle.sqlite_trees.specs.View.{IsShaped}
use Rattle.sqlite_trees.specs.declared.store.Shape.TheVariants.{Table}
use Rattle.sqlite.specs.Effect.{Database, IsDatabase}
use Rattle.melon_outside.specs.declared.kept.Kept.{Kept}
use Rattle.melon_outside.specs.declared.kept.KeptRow.{KeptRow}
use Rattle.melon_outside.specs.declared.kept.KeptValue.{KeptValue}
use Rattle.melon_outside.specs.Ascending.{with_items}
use Rattle.melon_outside.specs.Kept.{key_cmp, key_of, name_of, text_cmp}
use Rattle.melon_sqlite.specs.Tables.{kept_schema}

-- a row of either table is its rowid, the name of its store, and the other columns
abbrev pub store_of : Row → List ℕ
store_of row = bytes (column row 1)

abbrev pub of_store : List ℕ → List Row → List Row
of_store store rows = filter (λ r. bytes_eq (store_of r) store) rows

abbrev pub row_of : Row → KeptRow
row_of row = record { table = bytes (column row 2); id = bytes (column row 3); body = bytes (column row 4) }

-- no commit writes a number below zero and no load gives one, so here it counts as zero
abbrev pub natural : Value → ℕ
natural (Int (pos n)) = n
natural _ = 0

abbrev pub value_of : Row → KeptValue
value_of row = record { name = bytes (column row 2); number = natural (column row 3) }

-- a store's rows, each put in its place
abbrev pub rows_in : List Row → List ℕ → List KeptRow
rows_in rows store = with_items key_cmp key_of (map row_of (of_store store rows)) []

abbrev pub values_in : List Row → List ℕ → List KeptValue
values_in rows store = with_items text_cmp name_of (map value_of (of_store store rows)) []

-- the trees of the two tables, beside which each has an index
abbrev pub rows_tree : ℕ
rows_tree = 0

abbrev pub values_tree : ℕ
values_tree = 2

abbrev pub stores_in : Trees → List ℕ → Kept
stores_in trees store = record { rows = rows_in (trees rows_tree) store; values = values_in (trees values_tree) store }

-- A value of the store is below zero.
abbrev pub is_negative : Value → Bool
is_negative (Int (negsuc n)) = true
is_negative _ = false

abbrev pub has_negative : Trees → List ℕ → Bool
has_negative trees store = list_any (λ r. is_negative (column r 3)) (of_store store (trees values_tree))

-- The database has exactly the two tables as they are written, and the rows of each are in the order of their rowids.
pub record IsKept (db : Database) : Type 0 where
  pub schema : db.schema ≡ kept_schema
  pub sound : IsDatabase db
  pub rows : IsShaped Table (db.trees rows_tree)
  pub values : IsShaped Table (db.trees values_tree)
