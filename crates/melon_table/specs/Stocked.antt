-- What a shelf's fields stand for.
use Rattle.std.specs.Prelude.{◌≡◌, ◌≢◌, ℕ, ◌+◌, ◌≤◌, List, [], ◌∷◌, length, filter, Bool, true, false, Option, Some, None}
use Rattle.std.specs.List.{AllByRecursion, filter_map, insert, remove}
use Rattle.slab.specs.Slab.{Slab, get, ContainsKey, HasRoomFor}
use Rattle.melon_raw.specs.declared.raw.Raw.{Raw}
use Rattle.melon_table.specs.declared.shelf.Shelf.TheInside.{Inside}
use Rattle.melon_table.specs.Dirty.{is_dirty}
use Rattle.melon_table.specs.Seen.{SeenShelf}

-- the rows of these keys
abbrev pub rows_at : Slab Raw → List ℕ → List Raw
rows_at rows keys = filter_map (get rows) keys

-- each key has a row
abbrev pub AllHeld : Slab Raw → List ℕ → Type 0
AllHeld rows keys = AllByRecursion (ContainsKey rows) keys

-- whether the row of a key isn't synced
abbrev pub is_dirty_slot : Option Raw → Bool
is_dirty_slot None = false
is_dirty_slot (Some row) = is_dirty row.status

abbrev pub dirty_keys : Slab Raw → List ℕ → List ℕ
dirty_keys rows keys = filter (λ key. is_dirty_slot (get rows key)) keys

-- a key stands among others, behind so many of them, just where it is one of them now
abbrev pub marked : Bool → Bool → ℕ → ℕ → List ℕ → List ℕ
marked false true before key keys = insert keys before key
marked true false before key keys = remove keys before
marked false false before key keys = keys
marked true true before key keys = keys

-- this key is none of them
abbrev pub Lacks : List ℕ → ℕ → Type 0
Lacks keys key = AllByRecursion (λ other. other ≢ key) keys

-- no two of the keys are one
abbrev pub AreApart : List ℕ → Type 0
AreApart [] = Unit {0}
AreApart (key ∷ keys) = Lacks keys key × AreApart keys

abbrev pub shelf_in : Inside → SeenShelf
shelf_in s = record { rows = rows_at s.rows s.order.keys; spare = s.spare }

-- Each key has a row of its own, those of rows that aren't synced stand apart too, and the spare rows fit without memory.
pub record KeepsStock (s : Inside) : Type 0 where
  pub held : AllHeld s.rows s.order.keys
  pub apart : AreApart s.order.keys
  pub dirty : s.dirty.keys ≡ dirty_keys s.rows s.order.keys
  pub dirty_fit : length s.order.keys + s.spare ≤ s.dirty.most
  pub keys_fit : length s.order.keys + s.spare ≤ s.order.most
  pub rows_fit : HasRoomFor s.rows s.spare
