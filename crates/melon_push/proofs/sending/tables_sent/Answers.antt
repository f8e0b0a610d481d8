use Rattle.std.proofs.Common.{◌<◌, List, ◌++◌, length, sym, ap, ◌∙◌, arith}
use Rattle.melon_schema.specs.declared.schema.TableSchema.{TableSchema}
use Rattle.melon_push.specs.Fetching.{fetch_seen, table_sent, sent_from}
use Rattle.melon_wire.specs.declared.changes.TableChanges.{TableChanges}
use Rattle.melon_push.proofs.Parted.{from_first, past_here, none_more, one_more}
use Rattle.melon_push.proofs.sending.tables_sent.Goals as goal

pub loop-table-init : goal.loop-table-init
loop-table-init c = (
  c.all_of-left.ensures ∙ sym (from_first c.args.fetch.now),
  ap (λ (ts : List TableChanges). ts ++ sent_from c.args.schema.now.tables c.args.fetch.now 0) c.new-sent.ensures.items,
)

pub loop-table-preserved-then-is_nothing : goal.loop-table-preserved-then-is_nothing
loop-table-preserved-then-is_nothing c =
    let schema = c.args.schema.now.tables in
    let f = c.args.fetch.now in
    let i = c.loop-table.table in
    let within : i < length schema = omega (arith, c.loop-table-test.true, c.len-table-end.ensures, c.loop-table.auto.table-end) in
    let left = fetch_seen c.loop-table.left in
    let run = fetch_seen c.split_run.result.0 in
    let past = fetch_seen c.split_run.result.1 in (
      past_here schema f c.requires i within left run past c.loop-table.invariant.0 c.split_run.ensures.run c.split_run.ensures.past,
      none_more schema f c.requires i within left run past c.loop-table.invariant.0 c.split_run.ensures.run c.split_run.ensures.past c.loop-table.sent.items (sym c.is_nothing.ensures ∙ c.if-is_nothing.true) c.loop-table.invariant.1,
    )

pub loop-table-preserved : goal.loop-table-preserved
loop-table-preserved c =
    let schema = c.args.schema.now.tables in
    let f = c.args.fetch.now in
    let i = c.loop-table.table in
    let within : i < length schema = omega (arith, c.loop-table-test.true, c.len-table-end.ensures, c.loop-table.auto.table-end) in
    let left = fetch_seen c.loop-table.left in
    let run = fetch_seen c.split_run.result.0 in
    let past = fetch_seen c.split_run.result.1 in (
      past_here schema f c.requires i within left run past c.loop-table.invariant.0 c.split_run.ensures.run c.split_run.ensures.past,
      one_more schema f c.requires i within left run past c.loop-table.invariant.0 c.split_run.ensures.run c.split_run.ensures.past c.loop-table.sent.items c.push.new.self.items c.in_ok-table_sent.field-0 (sym c.is_nothing.ensures ∙ c.if-is_nothing.false)
          (c.in_ok-table_sent.ensures ∙ ap (λ (t : TableSchema). table_sent t run) c.declared_at.ensures)
          c.in_ok-push.ensures.items c.loop-table.invariant.1,
    )
