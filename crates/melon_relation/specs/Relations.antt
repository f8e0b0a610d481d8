-- Associations of declared tables, the relation of a row to one other row, and when there is none.
use Rattle.std.specs.Prelude.{ℕ, List, slice_get, Option, Some, None, Result, Ok}
use Rattle.melon_schema.specs.Faults.{◌>>=◌, unless, or_fault}
use Rattle.melon_schema.specs.declared.schema.TableSchema.{TableSchema}
use Rattle.melon_raw.specs.Rows.{Rows, at}
use Rattle.melon_query.specs.declared.query.Join.{Join}
use Rattle.melon_query.specs.declared.query.Join.TheVariants.{OwnKey, TheirKey}
use Rattle.melon_query.specs.Reading.{join_with}
use Rattle.melon_change.specs.Changes.{key, is_shown}
use Rattle.melon_views.specs.declared.parent.Parent.{Parent}
use Rattle.melon_views.specs.Parents.{parent_of}
use Rattle.melon_relation.specs.declared.relation.Relation.{Relation}
use Rattle.melon_relation.specs.declared.fault.RelationFault.{RelationFault}
use Rattle.melon_relation.specs.declared.fault.RelationFault.TheVariants.{NoRow, NoAssociation}

-- ---- associations

abbrev pub joined : Option TableSchema → Option TableSchema → Option Join
joined None other = None
joined (Some own) None = None
joined (Some own) (Some other) = join_with own other other.name

-- how the table declared at one place is associated with that at another
abbrev pub association : List TableSchema → ℕ → ℕ → Option Join
association tables table to = joined (slice_get tables table) (slice_get tables to)

abbrev pub own_key : Option Join → Option ℕ
own_key None = None
own_key (Some (OwnKey column)) = Some column
own_key (Some (TheirKey column)) = None

abbrev pub their_key : Option Join → Option ℕ
their_key None = None
their_key (Some (OwnKey column)) = None
their_key (Some (TheirKey column)) = Some column

-- the column of a table that keeps the id of a row of another table, to which its rows belong
abbrev pub parent_key : List TableSchema → ℕ → ℕ → Option ℕ
parent_key tables table to = own_key (association tables table to)

-- the column of the other table that keeps the id of the row which has its rows
abbrev pub child_key : List TableSchema → ℕ → ℕ → Option ℕ
child_key tables table to = their_key (association tables table to)

-- ---- the relation of one row

-- what the relation shows of rows
abbrev pub parent_in : Relation → Rows → Parent
parent_in r rows = parent_of r.to r.column (key r.table r.id) rows

-- the relation of a row by which it belongs to a row of the table `to`
unfoldable pub related : List TableSchema → Rows → ℕ → List ℕ → ℕ → Result Relation RelationFault
related tables rows table id to = do
  shown ← unless (is_shown (at rows (key table id))) NoRow
  column ← or_fault (parent_key tables table to) NoAssociation
  Ok (record { table = table; id = id; column = column; to = to })

-- what that relation shows
abbrev pub parent_told : List TableSchema → Rows → ℕ → List ℕ → ℕ → Result Parent RelationFault
parent_told tables rows table id to = related tables rows table id to >>= λ r. Ok (parent_in r rows)
