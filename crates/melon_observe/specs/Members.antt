-- Members in the order of their ids.
use Rattle.std.specs.Prelude.{ℕ, ◌==◌, List, [], ◌∷◌, ◌++◌, length, filter, Bool, true, not, ◌&&◌}
use Rattle.std.specs.List.{list_all}
use Rattle.melon_raw.specs.Order.{is_below}
use Rattle.melon_views.specs.declared.emission.Shape.{Shape}
use Rattle.melon_query.specs.declared.shown.Shown.{Shown}
use Rattle.melon_views.specs.Members.{columns_of}

abbrev pub is_ascending : List Shown → Bool
is_ascending [] = true
is_ascending (m ∷ ms) = list_all (λ n. is_below m.id n.id) ms && is_ascending ms

abbrev pub below : List ℕ → List Shown → List Shown
below id ms = filter (λ m. is_below m.id id) ms

abbrev pub above : List ℕ → List Shown → List Shown
above id ms = filter (λ m. is_below id m.id) ms

abbrev pub are_below : List ℕ → List Shown → Bool
are_below id ms = list_all (λ m. is_below m.id id) ms

abbrev pub are_not_below : List ℕ → List Shown → Bool
are_not_below id ms = list_all (λ m. not (is_below m.id id)) ms

-- the members with this one in the place of its id
abbrev pub put_member : Shown → List Shown → List Shown
put_member m ms = below m.id ms ++ m ∷ above m.id ms

-- the members without that of the id
abbrev pub without_member : List ℕ → List Shown → List Shown
without_member id ms = below id ms ++ above id ms

-- each member has a cell for each column that the shape names
abbrev pub have_cells : Shape → List Shown → Bool
have_cells s ms = list_all (λ m. length m.cells == length (columns_of s)) ms
