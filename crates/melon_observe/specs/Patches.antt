-- What the changes of an entry leave of members.
use Rattle.std.specs.Prelude.{ℕ, ◌==◌, List, [], ◌∷◌, map, filter, Option, Some, None}
use Rattle.melon_raw.specs.declared.raw.Raw.{Raw}
use Rattle.melon_query.specs.declared.query.Query.{Query}
use Rattle.melon_change.specs.declared.change.Change.{Change}
use Rattle.melon_query.specs.declared.shown.Shown.{Shown}
use Rattle.melon_query.specs.Shown.{shown_row}
use Rattle.melon_query.specs.Order.{in_order}
use Rattle.melon_raw.specs.Order.{is_below}
use Rattle.melon_views.specs.Members.{chosen}
use Rattle.melon_observe.specs.declared.patching.Patch.{Patch}
use Rattle.melon_observe.specs.declared.patching.Patch.TheVariants.{Put, Remove}
use Rattle.melon_observe.specs.Members.{put_member, without_member}

abbrev pub patch_to : List ℕ → List ℕ → Option Raw → Patch
patch_to columns id None = Remove id
patch_to columns id (Some row) = Put (shown_row columns row)

-- the row after as it is shown, where it is chosen, or the removal of the record
abbrev pub patch_of : Query → List ℕ → Change → Patch
patch_of q columns c = patch_to columns c.id (chosen q.conds c.after)

-- the patches of the changes in the query's table
abbrev pub patches_of : Query → List ℕ → List Change → List Patch
patches_of q columns set = map (patch_of q columns) (filter (λ c. c.table == q.table) set)

-- the id of the member that a patch puts or removes
abbrev pub id_of : Patch → List ℕ
id_of (Put m) = m.id
id_of (Remove id) = id

-- patches in the order of their ids
abbrev pub by_id : List Patch → List Patch
by_id ps = in_order (λ p q. is_below (id_of p) (id_of q)) ps

abbrev pub patched : Patch → List Shown → List Shown
patched (Put m) ms = put_member m ms
patched (Remove id) ms = without_member id ms

-- the members after all patches
abbrev pub all_patched : List Shown → List Patch → List Shown
all_patched ms [] = ms
all_patched ms (p ∷ ps) = all_patched (patched p ms) ps
