use Rattle.std.proofs.Common.{List, sym, subst, ◌∙◌}
use Rattle.melon_schema.specs.declared.schema.ColumnSchema.{ColumnSchema}
use Rattle.melon_raw.specs.Rows.{Fits}
use Rattle.melon_pull.proofs.Placed.{columns_here, columns_same}
use Rattle.melon_pull.proofs.tests.tests.put.Goals as goal

pub returns-in_err-room : goal.returns-in_err-room
returns-in_err-room c = columns_same c.args.tables.now 0 c.of_mut-posts.result.now c.room.new.self c.of_mut-posts.ensures.value c.room.ensures.columns

pub put-requires-clause-fits : goal.put-requires-clause-fits
put-requires-clause-fits c = subst (λ (k : List ColumnSchema). Fits k c.args.row) (columns_here c.args.tables.now 0 c.of_mut-posts.result.now c.room.new.self c.of_mut-posts.ensures.value ∙ sym c.room.ensures.columns) c.requires.fits

pub returns : goal.returns
returns c = columns_same c.args.tables.now 0 c.of_mut-posts.result.now c.put.new.self c.of_mut-posts.ensures.value (c.put.ensures.columns ∙ c.room.ensures.columns)
