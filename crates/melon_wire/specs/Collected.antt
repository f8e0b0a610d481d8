-- What a push collects of an app's rows, and the form of what is collected.
use Rattle.std.specs.Prelude.{◌≡◌, ℕ, ◌+◌, List, [], ◌∷◌, ◌++◌, length, get_or, map, filter, Bool, true, false, ◌&&◌, nat_lt}
use Rattle.std.specs.List.{list_all, flat_map, range_with_len}
use Rattle.melon_raw.specs.declared.raw.Status.{Status}
use Rattle.melon_raw.specs.declared.raw.Status.TheVariants.{Created, Updated, Deleted}
use Rattle.melon_raw.specs.declared.raw.Raw.{Raw}
use Rattle.melon_raw.specs.Rows.{Key, Rows}
use Rattle.melon_wire.specs.declared.fetch.Held.{Held}
use Rattle.melon_wire.specs.declared.fetch.Gone.{Gone}
use Rattle.melon_wire.specs.declared.fetch.Fetch.{Fetch}
use Rattle.melon_wire.specs.Keys.{key_at, are_apart, do_ascend}
use Rattle.melon_raw.specs.Same.{status_eq}

-- ---- what is collected

abbrev pub has_status : Status → Raw → Bool
has_status status row = status_eq row.status status

-- the rows of the table at a place that have the status, by ascending id
abbrev pub rows_with : Status → Rows → ℕ → List Raw
rows_with status rows i = filter (has_status status) (get_or rows i [])

abbrev pub held_at : Status → Rows → ℕ → List Held
held_at status rows i = map (λ r. record { table = i; row = r }) (rows_with status rows i)

abbrev pub gone_at : Rows → ℕ → List Gone
gone_at rows i = map (λ r. record { table = i; id = r.id }) (rows_with Deleted rows i)

-- The rows that are created, the rows that are updated, and the names of the rows that are deleted, each by its table's
-- place and by ascending id.
unfoldable pub collected : Rows → Fetch
collected rows =
    let places = range_with_len 0 (length rows) in
    record { created = flat_map (held_at Created rows) places; updated = flat_map (held_at Updated rows) places; deleted = flat_map (gone_at rows) places }

-- ---- what a fetch names

abbrev pub held_key : Held → Key
held_key h = key_at h.table h.row.id

abbrev pub gone_key : Gone → Key
gone_key g = key_at g.table g.id

abbrev pub keys_fetched : Fetch → List Key
keys_fetched f = map held_key f.created ++ (map held_key f.updated ++ map gone_key f.deleted)

-- how many records it names
abbrev pub fetched_count : Fetch → ℕ
fetched_count f = length f.created + (length f.updated + length f.deleted)

abbrev pub is_empty : {X : Type 0} → List X → Bool
is_empty [] = true
is_empty (x ∷ xs) = false

abbrev pub is_nothing : Fetch → Bool
is_nothing f = is_empty f.created && (is_empty f.updated && is_empty f.deleted)

-- ---- the form of a fetch

-- Each list ascends by the place of the table and then by id, no record is named twice, and the rows have the statuses
-- of their lists.
pub record IsFetch (f : Fetch) : Type 0 where
  pub created : list_all (λ h. has_status Created h.row) f.created ≡ true
  pub updated : list_all (λ h. has_status Updated h.row) f.updated ≡ true
  pub created_ascend : do_ascend (map held_key f.created) ≡ true
  pub updated_ascend : do_ascend (map held_key f.updated) ≡ true
  pub deleted_ascend : do_ascend (map gone_key f.deleted) ≡ true
  pub apart : are_apart (keys_fetched f) ≡ true

-- the places of its tables are below n
abbrev pub is_within : ℕ → Fetch → Bool
is_within n f = list_all (λ x. nat_lt x.table n) (keys_fetched f)
