use Rattle.std.proofs.Common.{◌≡◌, ◌<◌, ℕ, List, length, get_or, [], sym, ap, ◌∙◌, subst}
use Rattle.std.specs.List.{filter_map}
use Rattle.melon_schema.specs.declared.schema.ColumnSchema.{ColumnSchema}
use Rattle.melon_table.specs.Seen.{rows_of, columns_of}
use Rattle.melon_change.specs.declared.change.Change.{Change}
use Rattle.melon_change.specs.declared.history.Origin.TheVariants.{Settled}
use Rattle.melon_change.specs.Changes.{columns_at}
use Rattle.melon_change.specs.History.{AreChanges, FitsIfAny}
use Rattle.melon_change.proofs.Founded.{columns_declared, length_declared}
use Rattle.melon_push.specs.declared.fetched.Fetched.{Fetched}
use Rattle.melon_push.specs.Settling.{settled}
use Rattle.melon_push.specs.Fetching.{all_seen, change_seen, BeforesFit}
use Rattle.melon_push.specs.Laws.{LeavesSettled}
use Rattle.melon_push.proofs.Tabled.{rows_length}
use Rattle.melon_push.proofs.Gathered.{settled_is_seen}
use Rattle.melon_push.proofs.Settled.{leaves, allowed}
use Rattle.melon_push.proofs.settling.settle.Goals as goal

pub returns-clause-set : goal.returns-clause-set
returns-clause-set c =
    let rows = rows_of c.args.tables.now in
    c.from_list.ensures
    ∙ (c.in_ok-set.ensures.changes ∙ (ap (λ (fs : List Fetched). filter_map (change_seen rows) (all_seen fs)) c.as_slice.ensures.value
    ∙ sym (settled_is_seen c.args.fetch.now (all_seen c.in_ok-all.all.items) c.in_ok-all.ensures c.requires rows)))

pub returns-clause-allowed : goal.returns-clause-allowed
returns-clause-allowed c =
    λ schema same.
    let tables = c.args.tables.now in
    let rows = rows_of tables in
    let fits = subst (BeforesFit (columns_of tables)) (sym c.from_list.ensures ∙ returns-clause-set c) c.in_ok-set.ensures.fits in
    subst (AreChanges schema rows Settled) (sym (returns-clause-set c)) (allowed rows c.args.fetch.now schema c.requires (λ d. FitsIfAny (get_or (columns_of tables) d.table []) d.before)
    (λ d within q. subst (λ (ks : List ColumnSchema). FitsIfAny ks d.before) (columns_declared tables schema d.table same (subst (λ (n : ℕ). d.table < n) (rows_length tables ∙ length_declared tables schema same) within)) q) fits)

pub returns-clause-leaves : goal.returns-clause-leaves
returns-clause-leaves c = subst (LeavesSettled (rows_of c.args.tables.now) c.args.fetch.now) (sym (returns-clause-set c)) (leaves (rows_of c.args.tables.now) c.args.fetch.now)
