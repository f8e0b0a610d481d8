-- What becomes of each record once its push was accepted.
use Rattle.std.specs.Prelude.{◌≡◌, ℕ, List, find, Bool, true, false, Option, Some, None, unwrap_or, if◌then◌else◌}
use Rattle.std.specs.List.{list_any}
use Rattle.melon_raw.specs.declared.raw.Status.TheVariants.{Deleted}
use Rattle.melon_raw.specs.declared.raw.Raw.{Raw}
use Rattle.melon_raw.specs.Edits.{row_synced}
use Rattle.melon_raw.specs.Rows.{Key, is_key}
use Rattle.melon_wire.specs.declared.fetch.Held.{Held}
use Rattle.melon_wire.specs.declared.fetch.Gone.{Gone}
use Rattle.melon_wire.specs.declared.fetch.Fetch.{Fetch}
use Rattle.melon_raw.specs.Same.{row_eq}
use Rattle.melon_wire.specs.Collected.{has_status, held_key, gone_key}

-- ---- how a record was collected

-- as a row, with its collected copy; as an id; or not at all
pub data Collection : Type 0 where
  as_row : Raw → Collection
  as_id : Collection
  not_collected : Collection

abbrev pub held_of : List Held → Key → Option Held
held_of held x = find (λ h. is_key x (held_key h)) held

abbrev pub is_gone : List Gone → Key → Bool
is_gone gone x = list_any (λ g. is_key x (gone_key g)) gone

abbrev pub collects : Option Held → Option Held → Bool → Collection
collects (Some h) updated deleted = as_row h.row
collects None (Some h) deleted = as_row h.row
collects None None true = as_id
collects None None false = not_collected

unfoldable pub collection : Fetch → Key → Collection
collection f x = collects (held_of f.created x) (held_of f.updated x) (is_gone f.deleted x)

-- ---- what it is settled to

-- A row that equals its collected copy becomes synced, and a row whose id was collected is destroyed where it is still
-- marked as deleted. Every other row isn't settled.
abbrev pub settlement : Raw → Collection → Option (Option Raw)
settlement row (as_row copy) = if row_eq row copy then Some (Some (row_synced row)) else None
settlement row as_id = if has_status Deleted row then Some None else None
settlement row not_collected = None

-- the row of a record after settling; one that isn't settled stays as it is
abbrev pub settled_by : Option Raw → Collection → Option Raw
settled_by None how = None
settled_by (Some row) how = unwrap_or (settlement row how) (Some row)

abbrev pub settled_to : Fetch → Key → Option Raw → Option Raw
settled_to f x before = settled_by before (collection f x)
