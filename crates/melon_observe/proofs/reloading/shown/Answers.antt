use Rattle.std.proofs.Common.{sym, ◌∙◌}
use Rattle.melon_table.specs.Seen.{rows_of as all_rows}
use Rattle.melon_observe.proofs.Rowed.{shown_there, shown_nowhere}
use Rattle.melon_observe.proofs.reloading.shown.Goals as goal
use Rattle.melon_observe.proofs.reloading.shown.Goals.{in-Some+in_ok-rows-in-Some, in-None}

pub returns-after-table_at : goal.returns-after-table_at
returns-after-table_at g c =
    elim c.match-table_at.branch [
      | in-Some+in_ok-rows-in-Some w ↦
          shown_there c.args.query.now c.args.shape.now c.in-Columns.columns (all_rows c.args.tables.now) c.in_ok-ids.ids w.in-Some.table.now.rows c.match-table_at.rows
          c.in-Columns.is c.in_ok-ids.ensures.answer w.in-Some.ensures (w.rows-is ∙ w.in_ok-rows-in-Some.ensures)
      | in-None w ↦
          shown_nowhere c.args.query.now c.args.shape.now c.in-Columns.columns (all_rows c.args.tables.now) c.match-table_at.rows
          c.in-Columns.is (sym w.in-None.ensures) (w.rows-is ∙ w.new-rows.ensures)
    ]
