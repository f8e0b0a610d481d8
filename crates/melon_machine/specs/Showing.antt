-- What is shown of observers and relations.
use Rattle.std.specs.Prelude.{ℕ, List, [], ◌∷◌, length, map, Option, Some, None}
use Rattle.melon_schema.specs.declared.schema.ColumnSchema.{ColumnSchema}
use Rattle.melon_schema.specs.declared.schema.TableSchema.{TableSchema}
use Rattle.melon_raw.specs.declared.datum.Datum.{Datum}
use Rattle.melon_raw.specs.declared.datum.OpField.{OpField}
use Rattle.melon_raw.specs.Encoding.{encoding}
use Rattle.melon_raw.specs.Rows.{Rows, column_at, table_at}
use Rattle.melon_change.specs.History.{History}
use Rattle.melon_query.specs.declared.query.Query.{Query}
use Rattle.melon_views.specs.declared.emission.Shape.{Shape}
use Rattle.melon_query.specs.declared.shown.Shown.{Shown}
use Rattle.melon_views.specs.declared.emission.Emission.{Emission}
use Rattle.melon_views.specs.declared.emission.Emission.TheVariants as emission
use Rattle.melon_views.specs.declared.emission.Turn.{Turn}
use Rattle.melon_views.specs.declared.emission.Turn.TheVariants as turn
use Rattle.melon_views.specs.declared.parent.Parent.{Parent}
use Rattle.melon_views.specs.declared.parent.Parent.TheVariants as parent
use Rattle.melon_views.specs.Members.{columns_of}
use Rattle.melon_views.specs.Views.{shown}
use Rattle.melon_views.specs.Turns.{turns_from}
use Rattle.melon_relation.specs.declared.relation.Relation.{Relation}
use Rattle.melon_relation.specs.Relations.{parent_in}
use Rattle.melon_relation.specs.Watching.{watch_turn}
use Rattle.melon_script.specs.declared.item.Item.{Item}
use Rattle.melon_script.specs.declared.item.Item.TheVariants as items
use Rattle.melon_script.specs.declared.item.Given.{Given}
use Rattle.melon_script.specs.declared.item.Given.TheVariants as given
use Rattle.melon_script.specs.declared.item.GivenRow.{GivenRow}
use Rattle.melon_machine.specs.State.{Watch, Answer, Owner}

-- ---- values

-- a cell under the name of its column
abbrev pub field_of : List ColumnSchema → ℕ → Datum → OpField
field_of columns place value = record { column = (column_at columns place).name; value = value }

abbrev pub fields_of : List ColumnSchema → List ℕ → List Datum → List OpField
fields_of columns [] values = []
fields_of columns (place ∷ places) [] = []
fields_of columns (place ∷ places) (value ∷ values) = field_of columns place value ∷ fields_of columns places values

abbrev pub given_row : List ColumnSchema → List ℕ → Shown → GivenRow
given_row columns places row = record { id = row.id; fields = fields_of columns places row.cells }

abbrev pub given_emission : List ColumnSchema → Shape → Emission → Given
given_emission columns shape (emission.Ids ids) = given.Ids ids
given_emission columns shape (emission.Rows rows) = given.Rows (map (given_row columns (columns_of shape)) rows)

-- the row is its encoding
abbrev pub given_parent : TableSchema → Parent → Given
given_parent table parent.Nothing = given.Nothing
given_parent table parent.Missing = given.Missing
given_parent table (parent.Row row) = given.Row (encoding table row)

-- ---- observers

module _ (tables : List TableSchema) (name observer : List ℕ) where
  -- after so many entries the query's answer is this
  abbrev pub answer_item : Query → Shape → ℕ → Emission → Item
  answer_item q s at e = items.Emit name observer at (given_emission (table_at tables q.table).columns s e)

  -- after so many entries the relation leads to this
  abbrev pub owner_item : Relation → ℕ → Parent → Item
  owner_item r at p = items.Emit name observer at (given_parent (table_at tables r.to) p)

  -- the first emission, of the rows after so many entries
  abbrev pub opening_item : ℕ → Rows → Watch → Item
  opening_item at rows (Answer q s) = answer_item q s at (shown q s rows)
  opening_item at rows (Owner r) = owner_item r at (parent_in r rows)

  -- what one turn of an observer of a query prints
  abbrev pub answer_turn : Query → Shape → Turn → Item
  answer_turn q s (turn.Emit n e) = answer_item q s n e
  answer_turn q s (turn.Still n) = items.Still name observer n

  abbrev pub owner_turns : Relation → ℕ → Option (ℕ × Parent) → List Item
  owner_turns r end None = items.Still name observer end ∷ []
  owner_turns r end (Some changed) = owner_item r changed.0 changed.1 ∷ items.Still name observer end ∷ []

  -- the turns from a position on until one is still
  abbrev pub turn_items : History → ℕ → Watch → List Item
  turn_items h at (Answer q s) = map (answer_turn q s) (turns_from q s h at)
  turn_items h at (Owner r) = owner_turns r (length h.entries) (watch_turn r h at)
