-- What patched members show.
use Rattle.std.proofs.Common.{◌≡◌, ℕ, List, filter, true, sym, ap, ◌∙◌}
use Rattle.melon_schema.specs.declared.schema.TableSchema.{TableSchema}
use Rattle.melon_raw.specs.Rows.{Rows}
use Rattle.melon_raw.specs.Rows as rows
use Rattle.melon_table.proofs.ById.{is_ascending-filter}
use Rattle.melon_query.specs.declared.query.Query.{Query}
use Rattle.melon_query.specs.Simple.{is_simple}
use Rattle.melon_query.specs.Tuples.{rows_of}
use Rattle.melon_change.specs.declared.change.Change.{Change}
use Rattle.melon_change.specs.declared.history.Origin.{Origin}
use Rattle.melon_change.specs.Changes.{after_set}
use Rattle.melon_change.specs.History.{AreChanges}
use Rattle.melon_views.specs.declared.emission.Shape.{Shape}
use Rattle.melon_query.specs.declared.shown.Shown.{Shown}
use Rattle.melon_views.specs.Views.{shown}
use Rattle.melon_views.specs.Members.{columns_of, chooses, told}
use Rattle.melon_views.specs.Laws.{Ascend}
use Rattle.melon_views.proofs.Chosen.{members, shown_told}
use Rattle.melon_views.proofs.Histories.{Ascend-after_set}
use Rattle.melon_observe.specs.Members.{is_ascending, have_cells}
use Rattle.melon_observe.specs.Patches.{patches_of, all_patched}
use Rattle.melon_observe.proofs.Keeping.{kept_members, ascending-shown, cells-shown}
use Rattle.melon_observe.proofs.Patched.{members_after}

-- members that are the view of some rows, patched by a change set, are the view of the rows after it
pub shown_after : (q : Query) (s : Shape) (ms : List Shown) (schema : List TableSchema) (now : Rows) (origin : Origin) (set : List Change) → is_simple q ≡ true → Ascend now → have_cells s ms ≡ true
    → AreChanges schema now origin set → told s ms ≡ shown q s now → told s (all_patched ms (patches_of q (columns_of s) set)) ≡ shown q s (after_set now set)
shown_after q s ms schema now origin set simple asc cells changes kept =
    ap (λ (ns : List Shown). told s (all_patched ns (patches_of q (columns_of s) set))) (kept_members q s ms now simple (asc q.table) cells kept)
    ∙ (ap (told s) (sym (members_after q (columns_of s) schema now origin set changes))
    ∙ sym (shown_told q s (after_set now set) simple (Ascend-after_set now set asc q.table)))

-- members that were read from rows
pub read_ascending : (q : Query) (columns : List ℕ) (now : Rows) → rows.is_ascending (rows_of q.table now) ≡ true → is_ascending (members q columns now) ≡ true
read_ascending q columns now asc = ascending-shown columns (filter (chooses q.conds) (rows_of q.table now)) ∙ is_ascending-filter (chooses q.conds) (rows_of q.table now) asc

pub read_cells : (q : Query) (s : Shape) (now : Rows) → have_cells s (members q (columns_of s) now) ≡ true
read_cells q s now = cells-shown s (filter (chooses q.conds) (rows_of q.table now))
