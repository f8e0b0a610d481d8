-- The rows that the server doesn't know as they are.
use Rattle.std.specs.Prelude.{List, filter, Bool, true, false}
use Rattle.melon_raw.specs.declared.raw.Raw.{Raw}
use Rattle.melon_raw.specs.declared.raw.Status.{Status}
use Rattle.melon_raw.specs.declared.raw.Status.TheVariants.{Created, Updated, Deleted, Synced}

-- every status but synced
abbrev pub is_dirty : Status → Bool
is_dirty Created = true
is_dirty Updated = true
is_dirty Deleted = true
is_dirty Synced = false

-- the rows that aren't synced, by ascending id
abbrev pub dirty_rows : List Raw → List Raw
dirty_rows rows = filter (λ r. is_dirty r.status) rows
