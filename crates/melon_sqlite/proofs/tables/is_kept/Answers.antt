use Rattle.std.proofs.Common.{true≢false, sym, ap, ◌∙◌}
use Rattle.sqlite_schema.specs.declared.schema.Schema.{Schema}
use Rattle.melon_sqlite.proofs.Texts.{schema_is, schema_indexes}
use Rattle.melon_sqlite.proofs.tables.is_kept.Goals as goal

pub returns-then-not-are_indexes : goal.returns-then-not-are_indexes
returns-then-not-are_indexes c = (
  λ no. absurd (true≢false (sym no)),
  λ e. absurd (true≢false (sym (c.are_indexes.ensures.1 (c.as_slice-2.ensures ∙ schema_indexes c.args.schema.now e)) ∙ c.if-not-are_indexes.true)),
)

pub returns : goal.returns
returns c = (
  λ empty. schema_is c.args.schema.now (sym c.as_slice.ensures ∙ c.are_tables.ensures.0 c.if-not-are_tables.false) (sym c.as_slice-2.ensures ∙ c.are_indexes.ensures.0 c.if-not-are_indexes.false) (c.is_empty.ensures.0 empty),
  λ e. c.is_empty.ensures.1 (ap (λ (s : Schema). s.views) e),
)
