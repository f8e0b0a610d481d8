use Rattle.std.proofs.Common.{◌≡◌, [], ◌∷◌, ap, ◌∙◌, sym, Ok, Err, IfOk, OnOk, Result, map, false}
use Rattle.std.specs.List.{list_any}
use Rattle.sqlite_value.specs.Order.{column}
use Rattle.sqlite_value.specs.declared.value.Value.TheVariants.{Text}
use Rattle.sqlite.specs.Held.{state}
use Rattle.melon_sqlite.proofs.ReadRows.{read_same, query_shown, query_failed, shown_opened, failed_opened, kept_plain_values}
use Rattle.melon_sqlite.proofs.ReadValues.{reads_values, reads_natural}
use Rattle.melon_sqlite.specs.Contents.{values_in, is_negative, has_negative}
use Rattle.melon_sqlite.specs.Statements.{value_shown}
use Rattle.melon_sqlite.specs.Tables.{read_values_text}
use Rattle.melon_sqlite.proofs.statements.read_values.Goals as goal

found : {A E : Type 0} (r : Result A E) (x y : A) → IfOk r (λ a. a ≡ x) → x ≡ y → IfOk r (λ a. a ≡ y)
found (Ok a) x y h e = h ∙ e
found (Err e) x y h p = tt

pub returns-in-Ok-clause-values : goal.returns-in-Ok-clause-values
returns-in-Ok-clause-values g c clean K =
    let old = state g.S.Store c.args.conn.now in
    found c.values_from.result (map value_shown c.as_slice.result.now) (values_in (old.now.trees 2) c.args.store.now) c.values_from.ensures.shown
    (ap (map value_shown) c.as_slice.ensures.value ∙ reads_values old (state g.S.Store c.show_values.new.conn) c.args.store.now _ K (c.in-Ok.ensures.shown clean))

natural : {A E : Type 0} (r : Result A E) (P Q : Type 0) → OnOk r P → (P → Q) → OnOk r Q
natural (Ok a) P Q h f = f h
natural (Err e) P Q h f = tt

pub returns-in-Ok-clause-natural : goal.returns-in-Ok-clause-natural
returns-in-Ok-clause-natural g c clean K =
    let old = state g.S.Store c.args.conn.now in
    natural c.values_from.result _ (has_negative old.now.trees c.args.store.now ≡ false) c.values_from.ensures.natural
    (λ none. reads_natural old (state g.S.Store c.show_values.new.conn) c.args.store.now _ K (c.in-Ok.ensures.shown clean)
    (ap (list_any (λ r. is_negative (column r 1))) (sym c.as_slice.ensures.value) ∙ none))

pub returns-in-Ok-clause-same : goal.returns-in-Ok-clause-same
returns-in-Ok-clause-same g c clean =
    let old = state g.S.Store c.args.conn.now in
    let new = state g.S.Store c.show_values.new.conn in
    read_same old new c.values_from.result (λ K. query_shown read_values_text (Text c.args.store.now ∷ []) old new c.in-Ok.rows.items (kept_plain_values old K) (c.in-Ok.ensures.shown clean))

pub returns-in-Err-clause-same : goal.returns-in-Err-clause-same
returns-in-Err-clause-same g c clean K =
    let old = state g.S.Store c.args.conn.now in
    query_failed read_values_text (Text c.args.store.now ∷ []) old (state g.S.Store c.show_values.new.conn) _ (kept_plain_values old K) (c.in-Err.ensures.failed clean)

pub returns-in-Ok-clause-opened : goal.returns-in-Ok-clause-opened
returns-in-Ok-clause-opened g c clean =
    shown_opened read_values_text (Text c.args.store.now ∷ []) (state g.S.Store c.args.conn.now) (state g.S.Store c.show_values.new.conn) c.in-Ok.rows.items (c.in-Ok.ensures.shown clean)

pub returns-in-Err-clause-opened : goal.returns-in-Err-clause-opened
returns-in-Err-clause-opened g c clean =
    failed_opened read_values_text (Text c.args.store.now ∷ []) (state g.S.Store c.args.conn.now) (state g.S.Store c.show_values.new.conn) _ (c.in-Err.ensures.failed clean)
