use Rattle.std.proofs.Common.{◌≡◌, List, length, Ok, sym, ap, ◌∙◌, subst}
use Rattle.std.proofs.lemmas.List.{length-map}
use Rattle.std.proofs.lemmas.Result.{err_from_is_err_and}
use Rattle.melon_schema.specs.declared.schema.TableSchema.{TableSchema}
use Rattle.melon_table.specs.Seen.{SeenTable, rows_of, columns_of, declared_columns}
use Rattle.melon_change.specs.declared.change.Change.{Change}
use Rattle.melon_change.proofs.Founded.{length_declared}
use Rattle.melon_pull.specs.declared.listed.Listed.{Listed}
use Rattle.melon_pull.specs.Listing.{tellings_seen, incoming_told, BeforesFit}
use Rattle.melon_pull.proofs.Told.{incoming_is_told}
use Rattle.melon_pull.proofs.Applied.{set_leaves, set_once, set_allowed}
use Rattle.melon_pull.proofs.applying.incoming.Goals as goal

rows_declared : (tables : List SeenTable) (schema : List TableSchema) → columns_of tables ≡ declared_columns schema → length (rows_of tables) ≡ length schema
rows_declared tables schema same = length-map tables (λ t. t.rows) ∙ length_declared tables schema same

pub returns-in_err-set-clause-set : goal.returns-in_err-set-clause-set
returns-in_err-set-clause-set c =
    let p = err_from_is_err_and c.from_residual-in_err-set.result c.from_residual-in_err-set.ensures.1 in
    let schema = c.args.schema.now.tables in
    let rows = rows_of c.args.tables.now in
    let same = incoming_is_told schema c.args.changes.now (tellings_seen c.in_ok-listed.listed.items) c.in_ok-listed.ensures rows ∙ ap (λ (ls : List Listed). incoming_told schema rows (tellings_seen ls)) (sym c.as_slice.ensures.value) in
    rw (p.1, p.2) (λ other. same ∙ c.in_err-set.ensures.changes other)

pub returns-clause-set : goal.returns-clause-set
returns-clause-set c =
    let schema = c.args.schema.now.tables in
    let rows = rows_of c.args.tables.now in
    let same = incoming_is_told schema c.args.changes.now (tellings_seen c.in_ok-listed.listed.items) c.in_ok-listed.ensures rows ∙ ap (λ (ls : List Listed). incoming_told schema rows (tellings_seen ls)) (sym c.as_slice.ensures.value) in
    same ∙ (c.in_ok-set.ensures.changes ∙ ap Ok (sym c.from_list.ensures))

pub returns-clause-allowed : goal.returns-clause-allowed
returns-clause-allowed c =
    λ ids. set_allowed c.args.schema.now.tables (rows_of c.args.tables.now) c.args.changes.now (rows_declared c.args.tables.now c.args.schema.now.tables c.requires) c.from_list.result (returns-clause-set c) ids
    (subst (BeforesFit c.args.schema.now.tables) (sym c.from_list.ensures) c.in_ok-set.ensures.fits)

pub returns-clause-leaves : goal.returns-clause-leaves
returns-clause-leaves c = set_leaves c.args.schema.now.tables (rows_of c.args.tables.now) c.args.changes.now (rows_declared c.args.tables.now c.args.schema.now.tables c.requires) c.from_list.result (returns-clause-set c)

pub returns-clause-once : goal.returns-clause-once
returns-clause-once c = set_once c.args.schema.now.tables (rows_of c.args.tables.now) c.args.changes.now (rows_declared c.args.tables.now c.args.schema.now.tables c.requires) c.from_list.result (returns-clause-set c)
