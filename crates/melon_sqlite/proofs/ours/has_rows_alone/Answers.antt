use Rattle.std.proofs.Common.{true≢false, sym, ap, ◌∙◌}
use Rattle.sqlite_schema.specs.declared.schema.Schema.{Schema}
use Rattle.melon_sqlite.proofs.RowsAlone.{rows_schema_is, rows_schema_indexes}
use Rattle.melon_sqlite.proofs.ours.has_rows_alone.Goals as goal

pub returns-then-not-is_rows_index_alone : goal.returns-then-not-is_rows_index_alone
returns-then-not-is_rows_index_alone c = (
  λ no. absurd (true≢false (sym no)),
  λ e. absurd (true≢false (sym (c.is_rows_index_alone.ensures.1 (c.as_slice-2.ensures ∙ rows_schema_indexes c.args.schema.now e)) ∙ c.if-not-is_rows_index_alone.true)),
)

pub returns : goal.returns
returns c = (
  λ empty. rows_schema_is c.args.schema.now (sym c.as_slice.ensures ∙ c.is_rows_alone.ensures.0 c.if-not-is_rows_alone.false) (sym c.as_slice-2.ensures ∙ c.is_rows_index_alone.ensures.0 c.if-not-is_rows_index_alone.false) (c.is_empty.ensures.0 empty),
  λ e. c.is_empty.ensures.1 (ap (λ (s : Schema). s.views) e),
)
