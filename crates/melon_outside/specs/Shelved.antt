-- What the places of rows by key stand for.
use Rattle.std.specs.Prelude.{ℕ, Bool, true, List, [], ◌∷◌, Option, Some, None, is_some, map}
use Rattle.std.specs.List.{list_all}
use Rattle.std.specs.BTreeMap.{is_at}
use Rattle.std.specs.Map.{lookup}
use Rattle.melon_outside.specs.declared.kept.KeptKey.{KeptKey}
use Rattle.melon_outside.specs.declared.kept.KeptRow.{KeptRow}
use Rattle.melon_outside.specs.declared.kept.Kept.{Kept}
use Rattle.melon_outside.specs.declared.kept.KeptStore.{KeptStore}
use Rattle.melon_outside.specs.declared.shelf.Filing.{Filing}
use Rattle.melon_outside.specs.declared.shelf.Shelf.{Shelf}
use Rattle.melon_outside.specs.Kept.{key_cmp}

abbrev pub Places : Type 0
Places = List (KeptKey × Option (List ℕ))

abbrev pub row_at : KeptKey → List ℕ → KeptRow
row_at key body = record { table = key.table; id = key.id; body = body }

-- a place may be without a row
abbrev pub placed : KeptKey → Option (List ℕ) → List KeptRow → List KeptRow
placed key None rows = rows
placed key (Some body) rows = row_at key body ∷ rows

-- the rows that stand in the places
abbrev pub shown : Places → List KeptRow
shown [] = []
shown (e ∷ es) = placed e.0 e.1 (shown es)

abbrev pub has_place : KeptKey → Places → Bool
has_place key es = is_some (lookup (is_at (key_cmp key)) es)

abbrev pub row_of : Filing → KeptRow
row_of filing = row_at filing.key filing.body

abbrev pub have_places : List Filing → Places → Bool
have_places filings es = list_all (λ (f : Filing). has_place f.key es) filings

abbrev pub seen_kept : Shelf → Kept
seen_kept shelf = record { rows = shown shelf.places.entries; values = shelf.values }

abbrev pub seen_store : Shelf → KeptStore
seen_store shelf = record { name = shelf.name; kept = seen_kept shelf }

-- the stores as they were given, until the first call puts them on shelves
abbrev pub stores_of : List KeptStore → List Shelf → List KeptStore
stores_of [] shelves = map seen_store shelves
stores_of (s ∷ given) shelves = s ∷ given
