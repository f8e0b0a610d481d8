use Rattle.std.proofs.Common.{◌≡◌, [], ◌∷◌, ap, ◌∙◌, Ok, Err, IfOk, Result, map}
use Rattle.sqlite_value.specs.declared.value.Value.TheVariants.{Text}
use Rattle.sqlite.specs.Held.{state}
use Rattle.melon_sqlite.proofs.ReadRows.{read_same, query_shown, query_failed, shown_opened, failed_opened, kept_plain_rows}
use Rattle.melon_sqlite.proofs.ReadRows.{reads_rows}
use Rattle.melon_sqlite.specs.Contents.{rows_in}
use Rattle.melon_sqlite.specs.Statements.{row_shown}
use Rattle.melon_sqlite.specs.Tables.{read_rows_text}
use Rattle.melon_sqlite.proofs.statements.read_rows.Goals as goal

found : {A E : Type 0} (r : Result A E) (x y : A) → IfOk r (λ a. a ≡ x) → x ≡ y → IfOk r (λ a. a ≡ y)
found (Ok a) x y h e = h ∙ e
found (Err e) x y h p = tt

pub returns-in-Ok-clause-rows : goal.returns-in-Ok-clause-rows
returns-in-Ok-clause-rows g c clean K =
    let old = state g.S.Store c.args.conn.now in
    found c.rows_from.result (map row_shown c.as_slice.result.now) (rows_in (old.now.trees 0) c.args.store.now) c.rows_from.ensures
    (ap (map row_shown) c.as_slice.ensures.value ∙ reads_rows old (state g.S.Store c.show_rows.new.conn) c.args.store.now _ K (c.in-Ok.ensures.shown clean))

pub returns-in-Ok-clause-same : goal.returns-in-Ok-clause-same
returns-in-Ok-clause-same g c clean =
    let old = state g.S.Store c.args.conn.now in
    let new = state g.S.Store c.show_rows.new.conn in
    read_same old new c.rows_from.result (λ K. query_shown read_rows_text (Text c.args.store.now ∷ []) old new c.in-Ok.rows.items (kept_plain_rows old K) (c.in-Ok.ensures.shown clean))

pub returns-in-Err-clause-same : goal.returns-in-Err-clause-same
returns-in-Err-clause-same g c clean K =
    let old = state g.S.Store c.args.conn.now in
    query_failed read_rows_text (Text c.args.store.now ∷ []) old (state g.S.Store c.show_rows.new.conn) _ (kept_plain_rows old K) (c.in-Err.ensures.failed clean)

pub returns-in-Ok-clause-opened : goal.returns-in-Ok-clause-opened
returns-in-Ok-clause-opened g c clean =
    shown_opened read_rows_text (Text c.args.store.now ∷ []) (state g.S.Store c.args.conn.now) (state g.S.Store c.show_rows.new.conn) c.in-Ok.rows.items (c.in-Ok.ensures.shown clean)

pub returns-in-Err-clause-opened : goal.returns-in-Err-clause-opened
returns-in-Err-clause-opened g c clean =
    failed_opened read_rows_text (Text c.args.store.now ∷ []) (state g.S.Store c.args.conn.now) (state g.S.Store c.show_rows.new.conn) _ (c.in-Err.ensures.failed clean)
