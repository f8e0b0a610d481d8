use Rattle.std.proofs.Common.{List, map, ap, ◌∙◌}
use Rattle.std.proofs.lemmas.Result.{IfOk-weaker}
use Rattle.melon_log.specs.declared.server_row.ServerRow.{ServerRow}
use Rattle.melon_log.specs.Pulled.{table_told}
use Rattle.melon_backend.specs.Inside.{rows_in}
use Rattle.melon_backend.specs.Pulling.{touched_row}
use Rattle.melon_backend.proofs.Telling.{touched_told}
use Rattle.melon_backend.proofs.pull.table_told.Goals as goal

pub returns : goal.returns
returns c = IfOk-weaker c.lists_told.result _ _
    (λ told is. is ∙ (ap (λ (rows : List ServerRow). table_told c.args.t c.args.table.now rows) (ap (map touched_row) c.as_slice.ensures.value ∙ c.in_ok-found.ensures) ∙ touched_told c.args.t c.args.table.now (rows_in c.args.rows.now)))
    c.lists_told.ensures
