-- When a query is well formed: its places are declared, and its parts fit each other.
use Rattle.std.specs.Prelude.{ℕ, ◌==◌, List, [], ◌∷◌, length, Bool, true, false, not, ◌&&◌, ◌||◌, nat_lt, is_some}
use Rattle.std.specs.List.{list_all}
use Rattle.melon_schema.specs.Schema.{is_words}
use Rattle.melon_schema.specs.declared.schema.ColumnSchema.{ColumnSchema}
use Rattle.melon_schema.specs.declared.schema.TableSchema.{TableSchema}
use Rattle.melon_raw.specs.Rows.{table_at}
use Rattle.melon_query.specs.declared.query.Col.{Col}
use Rattle.melon_query.specs.declared.query.Col.TheVariants.{Id, Cell}
use Rattle.melon_query.specs.declared.query.Right.{Right}
use Rattle.melon_query.specs.declared.query.Right.TheVariants.{One, Many, Other}
use Rattle.melon_query.specs.declared.query.Compare.{Compare}
use Rattle.melon_query.specs.declared.query.Join.{Join}
use Rattle.melon_query.specs.declared.query.Join.TheVariants.{OwnKey, TheirKey}
use Rattle.melon_query.specs.declared.query.Joined.{Joined}
use Rattle.melon_query.specs.declared.query.Cond.{Cond, fold-Cond}
use Rattle.melon_query.specs.declared.query.Cond.TheOpen.{Cond-F}
use Rattle.melon_query.specs.declared.query.Query.{Query}
use Rattle.melon_query.specs.Kinds.{kind_of, takes_kind, takes_right, lists_null}
use Rattle.melon_query.specs.Fresh.{all_ons}

-- a declared column, or the id
abbrev pub is_column : List ColumnSchema → Col → Bool
is_column columns Id = true
is_column columns (Cell place) = nat_lt place (length columns)

abbrev pub names_columns : List ColumnSchema → Right → Bool
names_columns columns (One value) = true
names_columns columns (Many values) = true
names_columns columns (Other column) = is_column columns column

-- its columns are declared, and its operator takes the column and the right side
unfoldable pub is_comparison : List ColumnSchema → Compare → Bool
is_comparison columns by = is_column columns by.column && (names_columns columns by.right
    && ((takes_kind by.op (kind_of by.column columns) && takes_right by.op (kind_of by.column columns) columns by.right) && not (lists_null by.right)))

-- a declared column that keeps texts
abbrev pub is_key : List ColumnSchema → ℕ → Bool
is_key columns place = nat_lt place (length columns) && is_words (kind_of (Cell place) columns)

abbrev pub is_join : List ColumnSchema → List ColumnSchema → Join → Bool
is_join own other (OwnKey place) = is_key own place
is_join own other (TheirKey place) = is_key other place

-- each of them, over these columns, where an `on` may stand or not
abbrev pub each_sound : List (List ColumnSchema → Bool → Bool) → List ColumnSchema → Bool → Bool
each_sound [] columns may = true
each_sound (p ∷ ps) columns may = p columns may && each_sound ps columns may

abbrev pub sound_step : List TableSchema → List ColumnSchema → Cond-F (List ColumnSchema → Bool → Bool) → List ColumnSchema → Bool → Bool
sound_step tables own (Cond-F.Compare by) columns may = is_comparison columns by
sound_step tables own (Cond-F.All parts) columns may = each_sound parts columns may
sound_step tables own (Cond-F.Any parts) columns may = each_sound parts columns may
sound_step tables own (Cond-F.On table join parts) columns may =
    may && (nat_lt table (length tables) && (is_join own (table_at tables table).columns join && each_sound parts (table_at tables table).columns false))

-- a condition over these columns, where the main table has columns `own`
abbrev pub is_sound : List TableSchema → List ColumnSchema → Cond → List ColumnSchema → Bool → Bool
is_sound tables own = fold-Cond (List ColumnSchema → Bool → Bool) (sound_step tables own)

abbrev pub all_sound : List TableSchema → List ColumnSchema → List Cond → List ColumnSchema → Bool → Bool
all_sound tables own [] columns may = true
all_sound tables own (c ∷ cs) columns may = is_sound tables own c columns may && all_sound tables own cs columns may

abbrev pub is_same_join : Join → Join → Bool
is_same_join (OwnKey a) (OwnKey b) = a == b
is_same_join (TheirKey a) (TheirKey b) = a == b
is_same_join a b = false

-- what stands for one table is one association
abbrev pub agree : Joined → Joined → Bool
agree j k = not (j.table == k.table) || is_same_join j.join k.join

abbrev pub all_agree : List Joined → Bool
all_agree [] = true
all_agree (j ∷ js) = list_all (agree j) js && all_agree js

-- the columns of the main table
abbrev pub main_columns : List TableSchema → Query → List ColumnSchema
main_columns tables q = (table_at tables q.table).columns

unfoldable pub is_well_formed : List TableSchema → Query → Bool
is_well_formed tables q =
    nat_lt q.table (length tables) && (all_sound tables (main_columns tables q) q.conds (main_columns tables q) true && (all_agree (all_ons q.conds)
    && (list_all (λ key. is_column (main_columns tables q) key.column) q.sort && (is_some q.take || q.skip == 0))))
