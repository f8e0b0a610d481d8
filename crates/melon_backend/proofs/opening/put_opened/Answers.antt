use Rattle.std.proofs.Common.{ℕ, ◌+◌, List, [], length, get_or, ap, ◌∙◌}
use Rattle.std.specs.Option.{option_copied}
use Rattle.melon_schema.specs.declared.schema.TableSchema.{TableSchema}
use Rattle.melon_log.specs.ServerRows.{at_id}
use Rattle.melon_backend.specs.declared.table.ServerTable.{ServerTable}
use Rattle.melon_backend.specs.Bodies.{row_bytes}
use Rattle.melon_backend.specs.Rows.{bytes_in, live_one, weight_of}
use Rattle.melon_backend.specs.Inside.{tables_rows}
use Rattle.melon_backend.proofs.LaidOut.{enough, enough_live, more_laid}
use Rattle.melon_backend.proofs.opening.put_opened.Goals as goal

pub overflow_sub-opened : goal.overflow_sub-opened
overflow_sub-opened c =
    let was = c.row_now-was.ensures ∙ ap (λ (ts : List ServerTable). at_id c.args.put.row.id (get_or (tables_rows ts) c.args.put.table [])) c.as_slice.ensures.value in
    let gone = c.in_ok-gone.ensures ∙ (ap (λ (table : TableSchema). weight_of (row_bytes table) (option_copied c.row_now-was.result)) c.declared_at.ensures ∙ ap (weight_of (bytes_in c.args.schema.now.tables c.args.put.table)) was) in
    let total = c.in_ok-stored.ensures ∙ ap (λ (n : ℕ). c.args.opened.now.stored + n) c.len.ensures in
    let dead = c.one_if_live-dead.ensures ∙ ap (weight_of live_one) was in
    let live_total = c.in_ok-live.ensures ∙ ap (λ (n : ℕ). c.args.opened.now.live + n) c.one_if_live.ensures in
    enough c.args.schema.now.tables c.args.opened.now.tables.items c.args.opened.now.stored c.args.opened.now.live c.requires.so_far c.args.put c.requires.within c.in_ok-gone.gone (length c.args.kept.now.body) c.in_ok-stored.stored c.one_if_live-dead.result c.in_ok-live.live gone c.requires.size total dead live_total

pub overflow_sub-opened-2 : goal.overflow_sub-opened-2
overflow_sub-opened-2 c =
    let was = c.row_now-was.ensures ∙ ap (λ (ts : List ServerTable). at_id c.args.put.row.id (get_or (tables_rows ts) c.args.put.table [])) c.as_slice.ensures.value in
    let gone = c.in_ok-gone.ensures ∙ (ap (λ (table : TableSchema). weight_of (row_bytes table) (option_copied c.row_now-was.result)) c.declared_at.ensures ∙ ap (weight_of (bytes_in c.args.schema.now.tables c.args.put.table)) was) in
    let total = c.in_ok-stored.ensures ∙ ap (λ (n : ℕ). c.args.opened.now.stored + n) c.len.ensures in
    let dead = c.one_if_live-dead.ensures ∙ ap (weight_of live_one) was in
    let live_total = c.in_ok-live.ensures ∙ ap (λ (n : ℕ). c.args.opened.now.live + n) c.one_if_live.ensures in
    enough_live c.args.schema.now.tables c.args.opened.now.tables.items c.args.opened.now.stored c.args.opened.now.live c.requires.so_far c.args.put c.requires.within c.in_ok-gone.gone (length c.args.kept.now.body) c.in_ok-stored.stored c.one_if_live-dead.result c.in_ok-live.live gone c.requires.size total dead live_total

pub returns-clause-so_far : goal.returns-clause-so_far
returns-clause-so_far c =
    let was = c.row_now-was.ensures ∙ ap (λ (ts : List ServerTable). at_id c.args.put.row.id (get_or (tables_rows ts) c.args.put.table [])) c.as_slice.ensures.value in
    let gone = c.in_ok-gone.ensures ∙ (ap (λ (table : TableSchema). weight_of (row_bytes table) (option_copied c.row_now-was.result)) c.declared_at.ensures ∙ ap (weight_of (bytes_in c.args.schema.now.tables c.args.put.table)) was) in
    let total = c.in_ok-stored.ensures ∙ ap (λ (n : ℕ). c.args.opened.now.stored + n) c.len.ensures in
    let dead = c.one_if_live-dead.ensures ∙ ap (weight_of live_one) was in
    let live_total = c.in_ok-live.ensures ∙ ap (λ (n : ℕ). c.args.opened.now.live + n) c.one_if_live.ensures in
    more_laid c.args.schema.now.tables c.args.opened.now.tables.items c.args.opened.now.stored c.args.opened.now.live c.requires.so_far c.args.put c.requires.within c.in_ok-gone.gone (length c.args.kept.now.body) c.in_ok-stored.stored c.one_if_live-dead.result c.in_ok-live.live gone c.requires.size total dead live_total c.put_now.new.tables.items c.in_ok-put_now.ensures.kept c.in_ok-put_now.ensures.long c.in_ok-put_now.ensures.rows
