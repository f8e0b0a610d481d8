use Rattle.std.proofs.Common.{option_map, ap, sym, ◌∙◌}
use Rattle.std.specs.Option.{option_copied}
use Rattle.melon_schema.specs.declared.schema.TableSchema.{TableSchema}
use Rattle.melon_log.specs.ServerRows.{row_put}
use Rattle.melon_backend.specs.Backends.{put_at}
use Rattle.melon_backend.specs.Listing.{standing_seen, naming_seen}
use Rattle.melon_backend.proofs.Drafting.{draft_same, draft_more}
use Rattle.melon_backend.proofs.draft.add_named.Goals as goal

pub returns-in_ok-add_put : goal.returns-in_ok-add_put
returns-in_ok-add_put c = λ ns so_far.
    let one = c.args.one.now in
    let is = ap (λ (t : TableSchema). option_map (put_at one.table) (row_put t.columns one.id.now (option_copied one.row) c.args.revision (standing_seen one.list))) (sym c.declared_at-table.ensures) ∙ (sym c.in_ok-put.ensures ∙ c.in-Some.is) in
    let e = c.in_ok-add_put.ensures in
    draft_more c.args.schema.now.tables c.args.revision ns c.args.draft.now so_far (naming_seen one) c.in-Some.put is c.declared_at-table.result.now c.declared_at-table.ensures c.add_put.new.draft e.puts e.rows e.stored_before e.stored_after e.live_before e.live_after

pub returns-in_default : goal.returns-in_default
returns-in_default c = λ ns so_far.
    let one = c.args.one.now in
    let is = ap (λ (t : TableSchema). option_map (put_at one.table) (row_put t.columns one.id.now (option_copied one.row) c.args.revision (standing_seen one.list))) (sym c.declared_at-table.ensures) ∙ (sym c.in_ok-put.ensures ∙ c.in_default.is) in
    draft_same c.args.schema.now.tables c.args.revision ns c.args.draft.now so_far (naming_seen one) is
