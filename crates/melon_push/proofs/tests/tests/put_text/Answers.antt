use Rattle.std.proofs.Common.{List, Option, length, sym, ap, subst, ◌∙◌, arith}
use Rattle.std.specs.Option.{IfSome}
use Rattle.melon_schema.specs.declared.schema.ColumnSchema.{ColumnSchema}
use Rattle.melon_schema.specs.declared.schema.TableSchema.{TableSchema}
use Rattle.melon_raw.specs.declared.raw.Raw.{Raw}
use Rattle.melon_raw.specs.Rows.{Fits}
use Rattle.melon_change.proofs.Founded.{columns_declared, length_declared}
use Rattle.melon_push.proofs.tests.tests.put_text.Goals as goal

pub put-requires-clause-within : goal.put-requires-clause-within
put-requires-clause-within c = omega (arith, length_declared c.args.tables.now c.args.schema.now.tables c.requires.columns, c.requires.within)

pub put-requires-clause-fits : goal.put-requires-clause-fits
put-requires-clause-fits c =
    let declared = ap (λ (t : TableSchema). t.columns) c.declared_at.ensures in
    subst (λ (k : List ColumnSchema). Fits k c.in-Some.row) (declared ∙ sym (columns_declared c.args.tables.now c.args.schema.now.tables 0 c.requires.columns c.requires.within)) (subst (λ (o : Option Raw). IfSome o (Fits c.declared_at.result.now.columns)) c.in-Some.is c.in_ok-row.ensures)
