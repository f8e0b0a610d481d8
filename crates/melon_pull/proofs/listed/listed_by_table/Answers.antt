use Rattle.std.proofs.Common.{◌++◌, sym, ap, ◌∙◌, arith}
use Rattle.melon_schema.specs.declared.schema.TableSchema.{TableSchema}
use Rattle.melon_wire.specs.Standing.{changes_for}
use Rattle.melon_pull.specs.Listing.{tellings_seen, told_at}
use Rattle.melon_pull.proofs.Seen.{more_told}
use Rattle.melon_pull.proofs.listed.listed_by_table.Goals as goal

pub loop-table-preserved : goal.loop-table-preserved
loop-table-preserved c =
    let before = tellings_seen c.loop-table.listed.items in
    let named = c.as_str-name.ensures ∙ ap (λ (t : TableSchema). t.name) c.declared_at.ensures in
    let now = c.in_ok-list_named.ensures ∙ ap (λ name. before ++ told_at c.loop-table.table (changes_for c.args.changes.now name)) named in
    more_told c.args.schema.now.tables c.args.changes.now c.loop-table.table before (tellings_seen c.list_named.new.listed.items) (omega (arith, c.len-table-end.ensures, c.loop-table-test.true)) now c.loop-table.invariant
