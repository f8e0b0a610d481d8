-- The tuples of a main row.
use Rattle.std.specs.Prelude.{ℕ, List, [], ◌∷◌, map, filter, Bool, false, ◌&&◌, Option, Some, None, get_or, bytes_eq, if◌then◌else◌, ◌==◌}
use Rattle.std.specs.List.{flat_map}
use Rattle.melon_raw.specs.declared.datum.Datum.{Datum}
use Rattle.melon_raw.specs.declared.datum.Datum.TheVariants.{Null, Words, Whole, Truth}
use Rattle.melon_raw.specs.declared.raw.Raw.{Raw}
use Rattle.melon_raw.specs.Rows.{is_visible}
use Rattle.melon_query.specs.declared.query.Col.TheVariants.{Cell}
use Rattle.melon_query.specs.declared.query.Join.{Join}
use Rattle.melon_query.specs.declared.query.Join.TheVariants.{OwnKey, TheirKey}
use Rattle.melon_query.specs.declared.query.Joined.{Joined}
use Rattle.melon_query.specs.Values.{value_at}

-- of a joined table a row, or the absent row
pub record Member : Type 0 where
  pub table : ℕ
  pub row : Option Raw

pub record Tuple : Type 0 where
  pub main : Raw
  pub members : List Member

abbrev pub alone : Raw → Tuple
alone row = record { main = row; members = [] }

-- the row of a table, unless it is absent
abbrev pub member_of : ℕ → List Member → Option Raw
member_of table [] = None
member_of table (m ∷ ms) = if m.table == table then m.row else member_of table ms

-- a key names an id; null names none
abbrev pub names : Datum → List ℕ → Bool
names Null id = false
names (Words key) id = bytes_eq key id
names (Whole z) id = false
names (Truth b) id = false

abbrev pub are_associated : Join → Raw → Raw → Bool
are_associated (OwnKey place) main row = names (value_at (Cell place) main) row.id
are_associated (TheirKey place) main row = names (value_at (Cell place) row) main.id

abbrev pub rows_of : ℕ → List (List Raw) → List Raw
rows_of table tables = get_or tables table []

abbrev pub is_choice : Join → Raw → Raw → Bool
is_choice join main row = is_visible row.status && are_associated join main row

-- the absent row alone where there are no rows
abbrev pub or_absent : List Raw → List (Option Raw)
or_absent [] = None ∷ []
or_absent (r ∷ rs) = map Some (r ∷ rs)

-- all associated visible rows of a joined table, or the absent row alone
abbrev pub choices : List (List Raw) → Raw → Joined → List (Option Raw)
choices tables main joined = or_absent (filter (is_choice joined.join main) (rows_of joined.table tables))

abbrev pub with_each : Joined → List (List Member) → Option Raw → List (List Member)
with_each joined later row = map (λ ms. record { table = joined.table; row = row } ∷ ms) later

-- the full product over the joined tables
unfoldable pub members_over : List (List Raw) → Raw → List Joined → List (List Member)
members_over tables main [] = [] ∷ []
members_over tables main (j ∷ js) = flat_map (with_each j (members_over tables main js)) (choices tables main j)
