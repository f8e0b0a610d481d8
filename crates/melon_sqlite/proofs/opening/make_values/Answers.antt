use Rattle.std.proofs.Common.{[], Ok, Err, codes, is_some, sym, ap, ◌∙◌}
use Rattle.sqlite_schema.specs.declared.schema.Schema.{Schema}
use Rattle.sqlite_schema.specs.Names.{table_named}
use Rattle.sqlite.specs.Held.{state}
use Rattle.melon_sqlite.specs.Tables.{values_text}
use Rattle.melon_sqlite.proofs.Makes.{second_made, second_there}
use Rattle.melon_sqlite.proofs.Opens.{executes_open}
use Rattle.melon_sqlite.proofs.opening.make_values.Goals as goal

pub returns-then-has_table-clause-kept : goal.returns-then-has_table-clause-kept
returns-then-has_table-clause-kept g c clean m =
    second_there (state g.S.Store c.args.conn.now) m (ap (λ (s : Schema). is_some (table_named s (codes "kept_values"))) (sym c.schema.ensures.value) ∙ sym c.has_table.ensures ∙ c.if-has_table.true)

pub returns-in-Ok-clause-kept : goal.returns-in-Ok-clause-kept
returns-in-Ok-clause-kept g c clean m =
    second_made (state g.S.Store c.args.conn.now) (state g.S.Store c.create_values.new.conn) m c.in-Ok.field-0
    (ap (λ (s : Schema). is_some (table_named s (codes "kept_values"))) (sym c.schema.ensures.value) ∙ sym c.has_table.ensures ∙ c.if-has_table.false) (c.in-Ok.ensures.runs clean)

pub returns-in-Ok-clause-opened : goal.returns-in-Ok-clause-opened
returns-in-Ok-clause-opened g c clean = executes_open values_text [] (state g.S.Store c.args.conn.now) (state g.S.Store c.create_values.new.conn) (Ok c.in-Ok.field-0) (c.in-Ok.ensures.runs clean)

pub returns-in-Err-clause-opened : goal.returns-in-Err-clause-opened
returns-in-Err-clause-opened g c clean = executes_open values_text [] (state g.S.Store c.args.conn.now) (state g.S.Store c.create_values.new.conn) (Err c.in-Err.error) (c.in-Err.ensures.runs clean)
