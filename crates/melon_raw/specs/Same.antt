-- Rows that are the same: in id, status, marks and cells.
use Rattle.std.specs.Prelude.{ℕ, ◌==◌, Bool, true, false, ◌&&◌, Option, Some, None, bytes_eq}
use Rattle.std.specs.Cmp.Lexicographic.{pointwise}
use Rattle.melon_raw.specs.declared.raw.Status.{Status}
use Rattle.melon_raw.specs.declared.raw.Status.TheVariants.{Created, Updated, Deleted, Synced}
use Rattle.melon_raw.specs.declared.raw.Raw.{Raw}
use Rattle.melon_raw.specs.Datum.{datum_eq}

abbrev pub status_eq : Status → Status → Bool
status_eq Created Created = true
status_eq Updated Updated = true
status_eq Deleted Deleted = true
status_eq Synced Synced = true
status_eq a b = false

abbrev pub row_eq : Raw → Raw → Bool
row_eq a b = bytes_eq a.id b.id && (status_eq a.status b.status && (pointwise (λ m n. m == n) a.marks b.marks && pointwise datum_eq a.cells b.cells))

-- no row is the same as no row
abbrev pub is_same : Option Raw → Option Raw → Bool
is_same None None = true
is_same (Some a) (Some b) = row_eq a b
is_same a b = false
