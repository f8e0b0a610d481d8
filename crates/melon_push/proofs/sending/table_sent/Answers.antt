use Rattle.std.proofs.Common.{◌∙◌}
use Rattle.melon_push.specs.Fetching.{fetch_seen}
use Rattle.melon_push.proofs.Parted.{rows_are, table_is}
use Rattle.melon_push.proofs.sending.table_sent.Goals as goal

pub returns : goal.returns
returns c =
    let table = c.args.table.now in
    let columns = c.as_slice-columns.result.now in
    let run = fetch_seen c.args.run.now in
    table_is table run c.in_ok-copy.field-0 c.in_ok-rows_sent.field-0 c.in_ok-rows_sent-2.field-0 c.in_ok-ids_sent.field-0 c.in_ok-copy.ensures
    (rows_are table columns c.as_slice.result.now run.created c.in_ok-rows_sent.field-0 c.as_slice-columns.ensures (c.as_slice.ensures.value ∙ c.in_ok-order.ensures) c.in_ok-rows_sent.ensures)
    (rows_are table columns c.as_slice-2.result.now run.updated c.in_ok-rows_sent-2.field-0 c.as_slice-columns.ensures (c.as_slice-2.ensures.value ∙ c.in_ok-order.ensures) c.in_ok-rows_sent-2.ensures)
    c.in_ok-ids_sent.ensures
