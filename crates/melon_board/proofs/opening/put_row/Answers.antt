use Rattle.std.proofs.Common.{List, set, ap, sym, subst, ◌∙◌}
use Rattle.melon_schema.specs.declared.schema.ColumnSchema.{ColumnSchema}
use Rattle.melon_raw.specs.declared.raw.Raw.{Raw}
use Rattle.melon_raw.specs.Rows.{Fits, at_id, put_row}
use Rattle.melon_table.specs.Seen.{rows_of}
use Rattle.melon_board.proofs.Rowed.{rows_here, columns_here, rows_set, columns_same}
use Rattle.melon_board.proofs.opening.put_row.Goals as goal

pub returns-in_err-room-clause-columns : goal.returns-in_err-room-clause-columns
returns-in_err-room-clause-columns c = columns_same c.args.tables.now c.args.table c.of_mut-place.result.now c.room.new.self c.of_mut-place.ensures.value c.room.ensures.columns

pub put-requires-clause-fits : goal.put-requires-clause-fits
put-requires-clause-fits c = subst (λ (k : List ColumnSchema). Fits k c.args.row) (columns_here c.args.tables.now c.args.table c.of_mut-place.result.now c.room.new.self c.of_mut-place.ensures.value ∙ sym c.room.ensures.columns) c.requires.fits

pub returns-clause-was : goal.returns-clause-was
returns-clause-was c = c.put.ensures.was ∙ ap (λ (rs : List Raw). at_id c.args.row.id rs) (c.room.ensures.rows ∙ sym (rows_here c.args.tables.now c.args.table c.of_mut-place.result.now c.room.new.self c.of_mut-place.ensures.value))

pub returns-clause-rows : goal.returns-clause-rows
returns-clause-rows c =
    rows_set c.args.tables.now c.args.table c.of_mut-place.result.now c.put.new.self c.of_mut-place.ensures.value (put_row c.args.row c.of_mut-place.result.now.rows) (c.put.ensures.rows ∙ ap (λ (rs : List Raw). put_row c.args.row rs) c.room.ensures.rows)
    ∙ ap (λ (rs : List Raw). set (rows_of c.args.tables.now) c.args.table (put_row c.args.row rs)) (sym (rows_here c.args.tables.now c.args.table c.of_mut-place.result.now c.put.new.self c.of_mut-place.ensures.value))

pub returns-clause-columns : goal.returns-clause-columns
returns-clause-columns c = columns_same c.args.tables.now c.args.table c.of_mut-place.result.now c.put.new.self c.of_mut-place.ensures.value (c.put.ensures.columns ∙ c.room.ensures.columns)
