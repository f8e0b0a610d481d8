-- The members of a simple query's answer, and which entries change them; and which entries may change any other answer.
use Rattle.std.specs.Prelude.{ℕ, ◌==◌, List, [], map, Bool, true, false, not, ◌&&◌, Option, Some, None, if◌then◌else◌}
use Rattle.std.specs.List.{list_any, list_all}
use Rattle.melon_raw.specs.declared.raw.Raw.{Raw}
use Rattle.melon_raw.specs.Datum.{datum_eq}
use Rattle.melon_raw.specs.Rows.{cell, has, is_visible}
use Rattle.melon_query.specs.declared.query.Cond.{Cond}
use Rattle.melon_query.specs.declared.query.Query.{Query}
use Rattle.melon_query.specs.Tuples.{alone}
use Rattle.melon_query.specs.Meaning.{all_hold}
use Rattle.melon_query.specs.Simple.{tables_of}
use Rattle.melon_change.specs.declared.change.Change.{Change}
use Rattle.melon_views.specs.declared.emission.Shape.{Shape}
use Rattle.melon_views.specs.declared.emission.Shape.TheVariants.{Ids, Columns}
use Rattle.melon_query.specs.declared.shown.Shown.{Shown}
use Rattle.melon_views.specs.declared.emission.Emission.{Emission}
use Rattle.melon_views.specs.declared.emission.Emission.TheVariants as emission

-- the columns that a shape names
abbrev pub columns_of : Shape → List ℕ
columns_of Ids = []
columns_of (Columns columns) = columns

-- the row by itself is chosen: it is visible, and all conditions hold of it
abbrev pub chooses : List Cond → Raw → Bool
chooses conds row = is_visible row.status && all_hold conds (alone row)

-- the row of a record, where it is chosen
abbrev pub chosen : List Cond → Option Raw → Option Raw
chosen conds None = None
chosen conds (Some row) = if chooses conds row then Some row else None

-- the emission that these members are
abbrev pub told : Shape → List Shown → Emission
told Ids members = emission.Ids (map (λ m. m.id) members)
told (Columns columns) members = emission.Rows members

-- ---- changes

abbrev pub show_same : List ℕ → Raw → Raw → Bool
show_same columns a b = list_all (λ column. datum_eq (cell a column) (cell b column)) columns

-- a member goes, comes, or shows another cell
abbrev pub member_changes : List ℕ → Option Raw → Option Raw → Bool
member_changes columns None None = false
member_changes columns None (Some after) = true
member_changes columns (Some before) None = true
member_changes columns (Some before) (Some after) = not (show_same columns before after)

-- the change makes a member of the query's answer go, come or show another cell
abbrev pub changes_member : Query → List ℕ → Change → Bool
changes_member q columns c = c.table == q.table && member_changes columns (chosen q.conds c.before) (chosen q.conds c.after)

-- one of the changes does
unfoldable pub matters : Query → Shape → List Change → Bool
matters q s set = list_any (changes_member q (columns_of s)) set

-- one of the changes is in a table that the query reads
unfoldable pub touches : Query → List Change → Bool
touches q set = list_any (λ c. has c.table (tables_of q)) set
