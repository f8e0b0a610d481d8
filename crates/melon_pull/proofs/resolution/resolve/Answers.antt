use Rattle.std.proofs.Common.{List, ap, ◌∙◌}
use Rattle.std.proofs.lemmas.Result.{IfOk-weaker}
use Rattle.melon_schema.specs.declared.schema.ColumnSchema.{ColumnSchema}
use Rattle.melon_raw.specs.declared.datum.OpField.{OpField}
use Rattle.melon_wire.specs.Resolution.{row_resolved}
use Rattle.melon_pull.proofs.Resolving.{resolved_column}
use Rattle.melon_pull.proofs.resolution.resolve.Goals as goal

pub returns-clause-columns : goal.returns-clause-columns
returns-clause-columns c =
    let columns = c.args.table.now.columns in
    let local = c.args.local.now in
    let same = ap (λ (ks : List ColumnSchema). row_resolved ks local c.as_slice-2.result.now) c.as_slice.ensures ∙ ap (λ (fs : List OpField). row_resolved columns local fs) c.as_slice-2.ensures in
    IfOk-weaker c.resolved.result _ _ (λ row is k within. resolved_column columns local c.args.remote.now.fields k row (is ∙ same) within) c.resolved.ensures
