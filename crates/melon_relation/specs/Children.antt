-- The rows that a row has, and the query of them.
use Rattle.std.specs.Prelude.{ℕ, List, [], ◌∷◌, map, filter, Bool, ◌&&◌, None, Result, Ok}
use Rattle.melon_schema.specs.Faults.{◌>>=◌, or_fault}
use Rattle.melon_schema.specs.declared.schema.TableSchema.{TableSchema}
use Rattle.melon_raw.specs.declared.datum.Datum.TheVariants.{Words}
use Rattle.melon_raw.specs.declared.raw.Raw.{Raw}
use Rattle.melon_raw.specs.Rows.{Rows, cell, is_visible}
use Rattle.melon_query.specs.declared.query.Col.TheVariants.{Cell}
use Rattle.melon_query.specs.declared.query.CompareOp.TheVariants.{Eq}
use Rattle.melon_query.specs.declared.query.Right.TheVariants.{One}
use Rattle.melon_query.specs.declared.query.Cond.TheVariants.{Compare}
use Rattle.melon_query.specs.declared.query.Query.{Query}
use Rattle.melon_query.specs.Tuples.{names, rows_of}
use Rattle.melon_relation.specs.declared.fault.RelationFault.{RelationFault}
use Rattle.melon_relation.specs.declared.fault.RelationFault.TheVariants.{NoAssociation}
use Rattle.melon_relation.specs.Relations.{child_key}

-- it is visible, and its key column keeps the id
abbrev pub is_child : ℕ → List ℕ → Raw → Bool
is_child column id row = is_visible row.status && names (cell row column) id

-- the ids of the visible rows whose key column keeps the id, as they lie: ascending
abbrev pub children_in : ℕ → ℕ → List ℕ → Rows → List (List ℕ)
children_in to column id rows = map (λ row. row.id) (filter (is_child column id) (rows_of to rows))

-- the query of the rows of a table whose key column equals the id
abbrev pub children_query : ℕ → ℕ → List ℕ → Query
children_query to column id = record {
  table = to;
  conds = Compare (record { column = Cell column; op = Eq; right = One (Words id) }) ∷ [];
  sort = [];
  take = None;
  skip = 0;
}

-- the query of the rows that a row has in the table `to`
abbrev pub children_asked : List TableSchema → ℕ → List ℕ → ℕ → Result Query RelationFault
children_asked tables table id to = or_fault (child_key tables table to) NoAssociation >>= λ column. Ok (children_query to column id)

-- the ids of those rows
abbrev pub children_told : List TableSchema → Rows → ℕ → List ℕ → ℕ → Result (List (List ℕ)) RelationFault
children_told tables rows table id to = or_fault (child_key tables table to) NoAssociation >>= λ column. Ok (children_in to column id rows)
