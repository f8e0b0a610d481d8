use Rattle.std.proofs.Common.{ℕ, List, Option, Ok, ap, sym, ◌∙◌}
use Rattle.std.specs.Option.{unwrap_or}
use Rattle.melon_outside.specs.declared.kept.KeptRow.{KeptRow}
use Rattle.melon_outside.specs.declared.kept.KeptValue.{KeptValue}
use Rattle.melon_backend.specs.Inside.{tables_rows}
use Rattle.melon_backend.specs.Backends.{revision_name, version_name, value_in, same_version, missing_values, batch_if_any, rows_opened}
use Rattle.melon_backend.proofs.Opens.{open_ok}
use Rattle.melon_backend.proofs.backend.laid_out.Goals as goal

pub returns-clause-plan : goal.returns-clause-plan
returns-clause-plan c =
    let schema = c.args.schema in
    let rows = tables_rows c.in_ok-tables.field-0.tables.items in
    let read = ap (λ (kept : List KeptRow). rows_opened schema.tables kept) (sym c.as_slice.ensures) ∙ c.in_ok-tables.ensures.rows in
    let same = ap (λ (values : List KeptValue). same_version (value_in version_name values) schema.version) (sym c.as_slice-2.ensures) ∙ (ap (λ (o : Option ℕ). same_version o schema.version) (sym c.value_in.ensures) ∙ (ap (same_version c.value_in.result) (sym c.version-version.ensures.value) ∙ c.in_ok-same_version.ensures.same)) in
    let batch = c.batch_if_any.ensures ∙ ap batch_if_any (c.in_ok-missing.ensures ∙ (λ i. missing_values (c.version-version.ensures.value i) (c.as_slice-3.ensures i))) in
    let revision = c.unwrap_or-revision.ensures ∙ ap (λ (o : Option ℕ). unwrap_or o 1) (c.value_in-2.ensures ∙ ap (λ (values : List KeptValue). value_in revision_name values) c.as_slice-4.ensures) in
    open_ok c.args.name schema c.args.kept rows read same ∙ (λ i. Ok (record { batch = sym batch i; after = record { name = c.args.name; schema = schema; rows = rows; revision = sym revision i } }))
